-- With what is deleted besides all is deleted that must be, and nothing else.
use Rattle.std.proofs.Common.{◌≡◌, ◌≢◌, ℕ, zero, suc, ◌⊎◌, inl, inr, Bool, true, false, ◌||◌, List, [], ◌∷◌, ◌++◌, Option, Some, None, refl, sym, ap, ◌∙◌, subst, arith, tests, true≢false}
use Rattle.std.proofs.lemmas.Bool.{cases_Bool, or_left, or_right}
use Rattle.std.specs.Prelude.{filter, slice_get, not, if◌then◌else◌}
use Rattle.yd_words.specs.Member.{IsIn}
use Rattle.yd_words.proofs.FilterLemmas.{kept_one, one_kept}
use Rattle.yd_words.proofs.OptionLemmas.{some_is}
use Rattle.yd_words.proofs.TestLemmas.{both_hold}
use Rattle.yd_ids.specs.declared.id.Id.{Id}
use Rattle.yd_ids.specs.declared.id.Span.{Span}
use Rattle.yd_ids.specs.Ids.{is_same}
use Rattle.yd_ids.specs.Span.{InSpan}
use Rattle.yd_ids.specs.Set.{HasId}
use Rattle.yd_ids.proofs.IdLemmas.{same_is, differs}
use Rattle.yd_ops.specs.declared.lists.List.{List as DocList}
use Rattle.yd_ops.specs.Operation.{Operation}
use Rattle.yd_origins.specs.Deleted.{last_of}
use Rattle.yd_ops.specs.Received.{has_operation, IsWritten}
use Rattle.yd_meaning.specs.Names.{same_list, has_key, item_of_list}
use Rattle.yd_meaning.specs.Held.{standing, is_in_span, is_named}
use Rattle.yd_meaning.specs.ListNames.{same_list_decides}
use Rattle.yd_meaning.specs.Staying.{StaysHeld}
use Rattle.yd_meaning.specs.Deletions.{MustBeDeleted, for_name, for_loss, for_key, for_item, AreClosedDeletions}
use Rattle.yd_meaning.proofs.LeastLemmas.{last_kept, least_stays}
use Rattle.yd_meaning.proofs.GrownStayingLemmas.{stands_held}
use Rattle.yd_kept.specs.Kept.{KeptValue}
use Rattle.yd_listing.specs.declared.came.Came.{Came}
use Rattle.yd_listing.specs.Falling.{units_of_list, IsNamedIn, CameInto, IsUnder, IsKeyed, Falls, by_name, by_loss, by_key, by_deleted, by_item, IsGone, IsGoneBehind, Drops}
use Rattle.yd_listing.specs.Law.{BecameHeld, BecameNamed, is_gone, DeletionsGoOn}

-- ---- spans as tests

in_span_is : (span : Span) (x : Id) → InSpan span x → is_in_span span x ≡ true
in_span_is span x i = let one = i.0 in let low = i.1 in let high = i.2 in grind (arith, tests)

is_in_span-is : (span : Span) (x : Id) → is_in_span span x ≡ true → InSpan span x
is_in_span-is span x e = (grind (arith, tests), grind (arith, tests), grind (arith, tests))

-- one of two tests holds
either : (s t : Bool) → s || t ≡ true → (s ≡ true) ⊎ (t ≡ true)
either true t e = inl refl
either false t e = inr e

pub has_named : (spans : List Span) (x : Id) → HasId spans x → is_named spans x ≡ true
has_named [] x i = absurd i
has_named (span ∷ spans) x (inl i) = or_left (is_in_span span x) (is_named spans x) (in_span_is span x i)
has_named (span ∷ spans) x (inr i) = or_right (is_in_span span x) (is_named spans x) (has_named spans x i)

pub named_has : (spans : List Span) (x : Id) → is_named spans x ≡ true → HasId spans x
named_has [] x e = absurd (true≢false (sym e))
named_has (span ∷ spans) x e = elim (either (is_in_span span x) (is_named spans x) e) [
  | inl f ↦ inl (is_in_span-is span x f)
  | inr f ↦ inr (named_has spans x f)
]

pub gone_has : (old besides : List Span) (x : Id) → is_gone old besides x ≡ true → IsGone old besides x
gone_has old besides x e = elim (either (is_named old x) (is_named besides x) e) [ inl i ↦ inl (named_has old x i) | inr i ↦ inr (named_has besides x i) ]

pub has_gone : (old besides : List Span) (x : Id) → IsGone old besides x → is_gone old besides x ≡ true
has_gone old besides x (inl h) = or_left (is_named old x) (is_named besides x) (has_named old x h)
has_gone old besides x (inr h) = or_right (is_named old x) (is_named besides x) (has_named besides x h)

-- ---- what stands last

last_in : (x : Id) (xs : List Id) (y : Id) → last_of (x ∷ xs) ≡ Some y → IsIn y (x ∷ xs)
last_in x [] y e = inl (sym (some_is x y e))
last_in x (z ∷ zs) y e = inr (last_in z zs y e)

last_is_in : (xs : List Id) (y : Id) → last_of xs ≡ Some y → IsIn y xs
last_is_in [] y e = absurd cc
last_is_in (x ∷ xs) y e = last_in x xs y e

some_last_of : (xs : List Id) (x : Id) → IsIn x xs → (y : Id) × (last_of xs ≡ Some y)
some_last_of [] x i = absurd i
some_last_of (y ∷ []) x i = (y, refl)
some_last_of (y ∷ z ∷ zs) x i = some_last_of (z ∷ zs) z (inl refl)

last_or_other : (xs : List Id) (x : Id) → (last_of xs ≡ Some x) ⊎ (last_of xs ≢ Some x)
last_or_other xs x = go (last_of xs)
  where
    go : (z : Option Id) → (z ≡ Some x) ⊎ (z ≢ Some x)
    go None = inr (λ e. let no : None ≡ Some x = e in absurd cc)
    go (Some y) = elim (cases_Bool (is_same y x)) [
      | inl e ↦ inl (ap (λ (v : Id). Some v) (same_is y x e))
      | inr e ↦ inr (λ f. differs y x e (some_is y x f))
    ]

kept_first : (test : Id → Bool) (x : Id) (xs : List Id) → test x ≡ true → filter test (x ∷ xs) ≡ x ∷ filter test xs
kept_first test x xs e = rw e refl

last_behind : (front : List Id) (s : Id) (back : List Id) (x : Id) → last_of (front ++ s ∷ back) ≡ Some x → (x ≡ s) ⊎ IsIn x back
last_behind [] s [] x e = inl (sym (some_is s x e))
last_behind [] s (b ∷ back) x e = inr (last_in b back x e)
last_behind (f ∷ []) s back x e = last_behind [] s back x e
last_behind (f ∷ g ∷ front) s back x e = last_behind (g ∷ front) s back x e

filter-append : (test : Id → Bool) (xs ys : List Id) → filter test (xs ++ ys) ≡ filter test xs ++ filter test ys
filter-append test [] ys = refl
filter-append test (x ∷ xs) ys = go (test x) (filter-append test xs ys)
  where
    go : (t : Bool) → filter test (xs ++ ys) ≡ filter test xs ++ filter test ys →
        (if t then x ∷ filter test (xs ++ ys) else filter test (xs ++ ys)) ≡ (if t then x ∷ filter test xs else filter test xs) ++ filter test ys
    go true e = ap (λ zs. x ∷ zs) e
    go false e = e

-- ---- names

-- a list with a name, or none
pub find_name : (names : List DocList) (name : DocList) → ((n : ℕ) × (slice_get names n ≡ Some name)) ⊎ (IsIn name names → ⊥)
find_name [] name = inr (λ i. i)
find_name (l ∷ ls) name = elim (cases_Bool (same_list l name)) [
  | inl e ↦ inl (zero, ap (λ (m : DocList). Some m) ((same_list_decides l name).0 e))
  | inr e ↦ elim (find_name ls name) [
    | inl f ↦ inl (suc f.0, f.1)
    | inr none ↦ inr (λ i. elim i [ inl same ↦ true≢false (sym ((same_list_decides l name).1 (sym same)) ∙ e) | inr j ↦ none j ])
  ]
]

name_in : (names : List DocList) (n : ℕ) (name : DocList) → slice_get names n ≡ Some name → IsIn name names
name_in [] n name e = absurd cc
name_in (l ∷ ls) zero name e = inl (sym (some_is l name e))
name_in (l ∷ ls) (suc n) name e = inr (name_in ls n name e)

-- ---- the law

module _ (it : KeptValue) (old : List Span) (these : Id → Type 0) (came : List Came) (besides : List Span) (drops : Drops it old these came besides)
    (part held : List Operation) (w : IsWritten held) (stays : StaysHeld part held) (old_lists lists : DocList → List Id)
    (became : BecameHeld it came old_lists lists part held) (named more : Id → Bool) (names : BecameNamed part held named more these)
    (closed : AreClosedDeletions old_lists part named (is_named old)) where
  abbrev now : Id → Bool
  now = is_gone old besides

  -- a list with a unit has a number
  record IsNumbered (list : DocList) : Type 0 where
    number : ℕ
    there : slice_get it.names number ≡ Some list
    units : lists list ≡ units_of_list it number

  numbered : (list : DocList) (x : Id) → IsIn x (lists list) → IsNumbered list
  numbered list x i = elim (find_name it.names list) [
    | inl h ↦ record { number = h.0; there = h.1; units = became.by_name.named h.0 list h.1 }
    | inr none ↦ absurd (subst (IsIn x) (became.by_name.others list none) i)
  ]

  -- a unit of a list was held before, and in the list, or it came
  was_or_came : (list : DocList) (n : IsNumbered list) (x : Id) → IsIn x (lists list) → ((has_operation part x ≡ true) × IsIn x (old_lists list)) ⊎ CameInto came (Some n.number) x
  was_or_came list n x i = elim (became.comes n.number x (subst (IsIn x) n.units i)) [
    | inl e ↦ inl (e, subst (IsIn x) (sym (became.before list)) (one_kept (has_operation part) (lists list) x e i))
    | inr c ↦ inr c
  ]

  was : (x : Id) → is_named old x ≡ true → now x ≡ true
  was x e = or_left (is_named old x) (is_named besides x) e

  -- what is under a key and not last is deleted
  module _ (list : DocList) (keyed : has_key list ≡ true) (n : IsNumbered list) (x : Id) (i : IsIn x (lists list)) (other : last_of (lists list) ≢ Some x) where
    abbrev units : List Id
    units = units_of_list it n.number

    key : IsKeyed it n.number
    key = record { name = list; named = n.there; keyed = keyed }

    not_last : last_of units ≢ Some x
    not_last = subst (λ us. last_of us ≢ Some x) n.units other

    old_is : old_lists list ≡ filter (has_operation part) units
    old_is = became.before list ∙ ap (filter (has_operation part)) n.units

    -- where it stood last before, the last one came
    outlived : has_operation part x ≡ true → last_of (old_lists list) ≡ Some x → (l : Id) → last_of units ≡ Some l → now x ≡ true
    outlived e last l f = elim (became.comes n.number l (last_is_in units l f)) [
      | inl g ↦ absurd (not_last (f ∙ sym (ap last_of old_is ∙ last_kept (has_operation part) units l f g) ∙ last))
      | inr c ↦ elim (drops.outlived n.number l c key f) [
        | inl all ↦ has_gone old besides x (inr (all x (subst (IsIn x) n.units i) not_last))
        | inr stop ↦ let (s, g) = stop in behind s g
      ]
    ]
      where
        behind : (s : Id) → IsGoneBehind old besides units s → now x ≡ true
        behind s g =
            let there : has_operation part s ≡ true = closed.only_held s (has_named old s g.was) in
            let parts : filter (has_operation part) units ≡ filter (has_operation part) g.front ++ s ∷ filter (has_operation part) g.back =
            ap (filter (has_operation part)) g.parts ∙ filter-append (has_operation part) g.front (s ∷ g.back)
            ∙ ap (λ us. filter (has_operation part) g.front ++ us) (kept_first (has_operation part) s g.back there) in
            elim (last_behind (filter (has_operation part) g.front) s (filter (has_operation part) g.back) x (ap last_of (sym parts) ∙ ap last_of (sym old_is) ∙ last)) [
              | inl same ↦ was x (has_named old x (subst (HasId old) (sym same) g.was))
              | inr j ↦ has_gone old besides x (inr (g.gone x (kept_one (has_operation part) g.back x j).1 not_last))
            ]

    keyed_gone : now x ≡ true
    keyed_gone = elim (was_or_came list n x i) [
      | inr c ↦ has_gone old besides x (drops.keys n.number x c key not_last)
      | inl p ↦ elim (last_or_other (old_lists list) x) [
        | inr f ↦ was x (closed.all x (for_key list p.1 keyed f))
        | inl f ↦ let (l, e) = some_last_of units x (subst (IsIn x) n.units i) in outlived p.0 f l e
      ]
    ]

  listed_held : (n : ℕ) (name : DocList) (x : Id) → slice_get it.names n ≡ Some name → IsIn x (units_of_list it n) → has_operation held x ≡ true
  listed_held n name x e i = stands_held held w x ((became.filled.each n name e x).0 i).0

  -- what falls is held
  held_falls : {x : Id} → Falls it old these came x → has_operation held x ≡ true
  held_falls (by_name {x = x} t lt) = became.no_more x lt
  held_falls (by_loss {x = x} c) = (both_hold (has_operation held x) (not (has_operation (standing held) x)) (became.lost x c)).0
  held_falls (by_key {x = x} n k i other) = listed_held n k.name x k.named i
  held_falls (by_deleted {x = x} n u i h) = listed_held n u.name x u.named i
  held_falls (by_item {x = x} n u i f) = listed_held n u.name x u.named i

  -- what is under an item that was deleted was so, or came
  under_old : (list : DocList) (n : IsNumbered list) (x y : Id) → IsIn x (lists list) → IsUnder it n.number y → HasId old y → now x ≡ true
  under_old list n x y i u h = elim (was_or_came list n x i) [
    | inl p ↦ was x (closed.all x (for_item list p.1 (ap item_of_list (some_is list u.name (sym n.there ∙ u.named)) ∙ u.own) (has_named old y h)))
    | inr c ↦ has_gone old besides x (drops.under n.number x y c u h)
  ]

  must_gone : (x : Id) → MustBeDeleted lists held more now x → now x ≡ true
  must_gone x (for_name there by) = elim (names.all x there by) [
    | inl p ↦ was x (closed.all x (for_name p.0 p.1))
    | inr t ↦ has_gone old besides x (drops.names x t (became.there x there))
  ]
  must_gone x (for_loss lost) = elim (became.losses x lost) [
    | inl p ↦ was x (closed.all x (for_loss p))
    | inr c ↦ has_gone old besides x (drops.losses x c)
  ]
  must_gone x (for_key list i keyed other) = keyed_gone list keyed (numbered list x i) x i other
  must_gone x (for_item {y = y} list i item by) =
      let n = numbered list x i in
      let u : IsUnder it n.number y = record { name = list; named = n.there; own = item } in
      elim (gone_has old besides y by) [
        | inl h ↦ under_old list n x y i u h
        | inr h ↦ elim (drops.items n.number x y u (subst (IsIn x) n.units i) h) [
          | inl d ↦ under_old list n x y i u d
          | inr g ↦ has_gone old besides x (inr g)
        ]
      ]

  pub still_closed : AreClosedDeletions lists held more now
  still_closed = record {
    all = must_gone;
    only_held = λ x e. elim (gone_has old besides x e) [
      | inl h ↦ stays.ids x (closed.only_held x (has_named old x h))
      | inr h ↦ held_falls (drops.only x h)
    ];
  }

  -- ---- it is the least

  -- a unit under a number is one of the list
  in_named : (n : ℕ) (name : DocList) (x : Id) → slice_get it.names n ≡ Some name → IsIn x (units_of_list it n) → IsIn x (lists name)
  in_named n name x e i = subst (IsIn x) (sym (became.by_name.named n name e)) i

  last_named : (n : ℕ) (name : DocList) (x : Id) → slice_get it.names n ≡ Some name → last_of (units_of_list it n) ≢ Some x → last_of (lists name) ≢ Some x
  last_named n name x e other = subst (λ us. last_of us ≢ Some x) (sym (became.by_name.named n name e)) other

  module _ (other : Id → Bool) (all : AreClosedDeletions lists held more other) (has : (x : Id) → is_named old x ≡ true → other x ≡ true) where
    falls_in : {x : Id} → Falls it old these came x → other x ≡ true
    falls_in (by_name {x = x} t lt) = all.all x (for_name (became.no_more x lt) (names.known x t))
    falls_in (by_loss {x = x} c) = all.all x (for_loss (became.lost x c))
    falls_in (by_key {x = x} n k i no_last) = all.all x (for_key k.name (in_named n k.name x k.named i) k.keyed (last_named n k.name x k.named no_last))
    falls_in (by_deleted {x = x} {y = y} n u i h) = all.all x (for_item u.name (in_named n u.name x u.named i) u.own (has y (has_named old y h)))
    falls_in (by_item {x = x} {y = y} n u i f) = all.all x (for_item u.name (in_named n u.name x u.named i) u.own (falls_in f))

    pub still_least : (x : Id) → now x ≡ true → other x ≡ true
    still_least x e = elim (gone_has old besides x e) [ inl h ↦ has x (has_named old x h) | inr h ↦ falls_in (drops.only x h) ]

pub deletions_go_on : DeletionsGoOn
deletions_go_on it old waiting news came besides drops part held w stays old_lists lists became named more names closed least = record {
  closed = still_closed it old (IsNamedIn waiting news) came besides drops part held w stays old_lists lists became named more names closed;
  least = λ other all. still_least it old (IsNamedIn waiting news) came besides drops part held w stays old_lists lists became named more names closed other all
      (least_stays part held stays old_lists lists became.before named more names.stays (is_named old) least other all);
}
