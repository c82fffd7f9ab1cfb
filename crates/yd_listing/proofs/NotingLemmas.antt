-- Lists that are queued under items: those of one, of a span, and of spans.
use Rattle.std.proofs.Common.{◌≡◌, ◌≢◌, ℕ, suc, ◌<◌, ◌≤◌, ◌⊎◌, inl, inr, List, [], ◌∷◌, ◌++◌, Option, Some, None, length, refl, sym, ap, ◌∙◌, subst, arith}
use Rattle.std.specs.Prelude.{IfSome}
use Rattle.yd_words.specs.Member.{IsIn}
use Rattle.yd_words.proofs.OptionLemmas.{some_is}
use Rattle.yd_words.proofs.TestLemmas.{split, same_or_other}
use Rattle.yd_ids.specs.declared.id.Id.{Id}
use Rattle.yd_ids.specs.declared.id.Span.{Span}
use Rattle.yd_ids.specs.Id.{IsId, IsSpan}
use Rattle.yd_ids.specs.Span.{InSpan}
use Rattle.yd_ids.specs.Set.{HasId}
use Rattle.yd_ids.proofs.IdLemmas.{same_numbers}
use Rattle.yd_ops.specs.declared.lists.Parent.{Parent}
use Rattle.yd_ops.specs.declared.lists.Parent.TheVariants.{Root, Item}
use Rattle.yd_meaning.specs.Names.{item_of_parent}
use Rattle.yd_names.specs.Items.{IsFirstItem}
use Rattle.yd_names.specs.Names.{IsOf, IsLastOf}
use Rattle.yd_arena.specs.Arena.{count_of}
use Rattle.yd_kept.proofs.FillingLemmas.{within_names}
use Rattle.yd_kept.specs.Kept.{KeptValue}
use Rattle.yd_listing.specs.Falling.{IsUnder}
use Rattle.yd_listing.specs.Steps.{span_behind}
use Rattle.yd_listing.specs.Closing.{Queues, IsListOf, NotesLists}
use Rattle.yd_listing.proofs.AddingLemmas.{in_behind, behind_in, behind_is_span}
use Rattle.yd_listing.proofs.QueueLemmas.{queues_none, queues_wider, queues_both, queued_stays}

-- ---- the lists of an item

-- the place after another, and 0 before all
abbrev pub bound_of : Option ℕ → ℕ
bound_of None = 0
bound_of (Some n) = suc n

parent_is : (p : Parent) (item : Id) → item_of_parent p ≡ Some item → p ≡ Item item
parent_is (Root name) item e = (let no : None ≡ Some item = e in absurd cc)
parent_is (Item id) item e = ap (λ (x : Id). Item x) (some_is id item e)

-- the lists of an item from a number on are queued
pub record AreNotedFrom (it : KeptValue) (item : Id) (old new : List ℕ) (last : Option ℕ) : Type 0 where
  pub queues : Queues (IsListOf it (λ y. y ≡ item)) old new
  pub all : (n : ℕ) → IsUnder it n item → (n < bound_of last) ⊎ IsIn n new
  pub own : IfSome last (λ n. IsOf it.names (Item item) n)
  pub within : IfSome last (λ n. n < count_of it.store.placed)

module _ (it : KeptValue) (item : Id) where
  -- no list of the item stands from the bound of the last one on
  last_bounds : (top : ℕ) (last : Option ℕ) (n : ℕ) → IsLastOf it.names (Item item) top last → n < top → IsUnder it n item → n < bound_of last
  last_bounds top None n is lt u = absurd (is n u.name lt u.named (parent_is u.name.parent item u.own))
  last_bounds top (Some k) n is lt u = elim (split n k) [
    | inl le ↦ omega (arith, le)
    | inr more ↦ absurd (is.2 n u.name more lt u.named (parent_is u.name.parent item u.own))
  ]

  last_own : (top : ℕ) (last : Option ℕ) → IsLastOf it.names (Item item) top last → IfSome last (λ n. IsOf it.names (Item item) n)
  last_own top None is = tt
  last_own top (Some k) is = is.0

  pub noting_begins : (lists : List ℕ) (last : Option ℕ) → IsLastOf it.names (Item item) (length it.names) last → IfSome last (λ n. n < count_of it.store.placed) →
      AreNotedFrom it item lists lists last
  noting_begins lists last is within = record {
    queues = queues_none (IsListOf it (λ y. y ≡ item)) lists;
    all = λ n u. inl (last_bounds (length it.names) last n is (within_names it.names n u.name u.named) u);
    own = last_own (length it.names) last is;
    within = within;
  }

  -- a list of the item is one that may come
  own_list : (k : ℕ) → IsOf it.names (Item item) k → k < count_of it.store.placed → IsListOf it (λ y. y ≡ item) k
  own_list k own lt = record {
    within = lt;
    item = item;
    under = record { name = own.list; named = own.there; own = ap item_of_parent own.own };
    passes = refl;
  }

  pub noting_goes_on : (old mid new : List ℕ) (k : ℕ) (last : Option ℕ) → AreNotedFrom it item old mid (Some k) → Queues (λ n. n ≡ k) mid new → IsIn k new →
      IsLastOf it.names (Item item) k last → IfSome last (λ n. n < count_of it.store.placed) → AreNotedFrom it item old new last
  noting_goes_on old mid new k last was queues there is within = record {
    queues = queues_both (IsListOf it (λ y. y ≡ item)) old mid new was.queues
        (queues_wider (λ n. n ≡ k) (IsListOf it (λ y. y ≡ item)) mid new (λ n e. subst (IsListOf it (λ y. y ≡ item)) (sym e) (own_list k was.own was.within)) queues);
    all = λ n u. elim (was.all n u) [
      | inr i ↦ inr (queued_stays (λ m. m ≡ k) mid new n queues i)
      | inl lt ↦ elim (same_or_other n k) [
        | inl e ↦ inr (subst (λ m. IsIn m new) (sym e) there)
        | inr other ↦ inl (last_bounds k last n is (below n k lt other) u)
      ]
    ];
    own = last_own k last is;
    within = within;
  }
    where
      below : (n k : ℕ) → n < suc k → n ≢ k → n < k
      below n k lt other = omega (arith, lt, other)

  pub noting_ends : (old new : List ℕ) → AreNotedFrom it item old new None → (n : ℕ) → IsUnder it n item → IsIn n new
  noting_ends old new was n u = elim (was.all n u) [ inl lt ↦ absurd (omega (arith, lt)) | inr i ↦ i ]

pub lower : (it : KeptValue) (item : Id) (k : ℕ) (last : Option ℕ) → IsLastOf it.names (Item item) k last → bound_of last < suc k
lower it item k None is = omega arith
lower it item k (Some n) is = let lt : n < k = is.1 in omega (arith, lt)

-- ---- the lists of items

-- an item that was deleted notes none
pub notes_none : (it : KeptValue) (deleted : List Span) (item : Id) (lists : List ℕ) → HasId deleted item → NotesLists it deleted (λ y. y ≡ item) lists lists
notes_none it deleted item lists h = record {
  queues = queues_none (IsListOf it (λ y. y ≡ item)) lists;
  all = λ n y u e. inl (subst (HasId deleted) (sym e) h);
}

pub notes_all : (it : KeptValue) (deleted : List Span) (item : Id) (old new : List ℕ) → Queues (IsListOf it (λ y. y ≡ item)) old new →
    ((n : ℕ) → IsUnder it n item → IsIn n new) → NotesLists it deleted (λ y. y ≡ item) old new
notes_all it deleted item old new queues all = record {
  queues = queues;
  all = λ n y u e. inr (all n (subst (IsUnder it n) e u));
}

pub list_wider : (it : KeptValue) (P Q : Id → Type 0) → ((y : Id) → P y → Q y) → (n : ℕ) → IsListOf it P n → IsListOf it Q n
list_wider it P Q wider n l = record { within = l.within; item = l.item; under = l.under; passes = wider l.item l.passes }

-- ---- a span

-- the items of a span up to the rest are noted
pub record IsNotedTo (it : KeptValue) (deleted : List Span) (span rest : Span) (old new : List ℕ) : Type 0 where
  pub queues : Queues (IsListOf it (InSpan span)) old new
  pub all : (n : ℕ) (y : Id) → IsUnder it n y → InSpan span y → InSpan rest y ⊎ (HasId deleted y ⊎ IsIn n new)
  pub among : (y : Id) → InSpan rest y → InSpan span y
  pub is_span : IsSpan rest

pub span_begins : (it : KeptValue) (deleted : List Span) (span : Span) (lists : List ℕ) → IsSpan span → IsNotedTo it deleted span span lists lists
span_begins it deleted span lists is = record {
  queues = queues_none (IsListOf it (InSpan span)) lists;
  all = λ n y u i. inl i;
  among = λ y i. i;
  is_span = is;
}

pub behind_smaller : (rest : Span) (item : Id) → InSpan rest item → (span_behind rest item.clock).len < rest.len
behind_smaller rest item i = omega (arith, i.1, i.2)

pub first_is_id : (span : Span) (item : Id) → IsSpan span → InSpan span item → IsId item
first_is_id span item is i = let client = is.client in let end = is.end in record { client = omega (arith, client, i.0); clock = omega (arith, end, i.2) }

module _ (it : KeptValue) (deleted : List Span) (span rest : Span) (old mid : List ℕ) (was : IsNotedTo it deleted span rest old mid) where
  pub span_goes_on : (item : Id) (new : List ℕ) (more : Span) → IsFirstItem it.names rest (Some item) → NotesLists it deleted (λ y. y ≡ item) mid new →
      more ≡ span_behind rest item.clock → IsNotedTo it deleted span more old new
  span_goes_on item new more first notes e = subst (λ s. IsNotedTo it deleted span s old new) (sym e) (record {
    queues = queues_both (IsListOf it (InSpan span)) old mid new was.queues
        (queues_wider (IsListOf it (λ y. y ≡ item)) (IsListOf it (InSpan span)) mid new
        (list_wider it (λ y. y ≡ item) (InSpan span) (λ y same. subst (InSpan span) (sym same) (was.among item first.0))) notes.queues);
    all = λ n y u i. elim (was.all n y u i) [
      | inr g ↦ inr (elim g [ inl h ↦ inl h | inr j ↦ inr (queued_stays (IsListOf it (λ y. y ≡ item)) mid new n notes.queues j) ])
      | inl r ↦ elim (split y.clock item.clock) [
        | inr lt ↦ inl (behind_in rest item.clock y r lt)
        | inl le ↦
            let least : item.clock ≤ y.clock = first.1 y (record { number = n; list = u.name; there = u.named; own = u.own }) r in
            inr (notes.all n y u (same_numbers y item (sym r.0 ∙ first.0.0) (omega (arith, le, least))))
      ]
    ];
    among = λ y i. was.among y (in_behind rest item.clock y first.0.1 i).0;
    is_span = behind_is_span rest item.clock was.is_span first.0.2;
  })

  pub span_ends : IsFirstItem it.names rest None → NotesLists it deleted (InSpan span) old mid
  span_ends none = record {
    queues = was.queues;
    all = λ n y u i. elim (was.all n y u i) [
      | inl r ↦ absurd (none y (record { number = n; list = u.name; there = u.named; own = u.own }) r)
      | inr g ↦ g
    ];
  }

-- ---- spans

take_last : (xs : List Span) (s : Span) (x : Id) → HasId (xs ++ s ∷ []) x → HasId xs x ⊎ InSpan s x
take_last [] s x (inl i) = inr i
take_last [] s x (inr h) = absurd h
take_last (y ∷ ys) s x (inl i) = inl (inl i)
take_last (y ∷ ys) s x (inr h) = elim (take_last ys s x h) [ inl g ↦ inl (inr g) | inr i ↦ inr i ]

put_last : (xs : List Span) (s : Span) (x : Id) → HasId xs x ⊎ InSpan s x → HasId (xs ++ s ∷ []) x
put_last [] s x (inl h) = absurd h
put_last [] s x (inr i) = inl i
put_last (y ∷ ys) s x (inl (inl i)) = inl i
put_last (y ∷ ys) s x (inl (inr h)) = inr (put_last ys s x (inl h))
put_last (y ∷ ys) s x (inr i) = inr (put_last ys s x (inr i))

pub spans_begin : (it : KeptValue) (deleted : List Span) (lists : List ℕ) → NotesLists it deleted (HasId []) lists lists
spans_begin it deleted lists = record { queues = queues_none (IsListOf it (HasId [])) lists; all = λ n y u h. absurd h }

pub spans_go_on : (it : KeptValue) (deleted front : List Span) (s : Span) (old mid new : List ℕ) → NotesLists it deleted (HasId front) old mid →
    NotesLists it deleted (InSpan s) mid new → NotesLists it deleted (HasId (front ++ s ∷ [])) old new
spans_go_on it deleted front s old mid new was notes = record {
  queues = queues_both (IsListOf it (HasId (front ++ s ∷ []))) old mid new
      (queues_wider (IsListOf it (HasId front)) (IsListOf it (HasId (front ++ s ∷ []))) old mid
      (list_wider it (HasId front) (HasId (front ++ s ∷ [])) (λ y h. put_last front s y (inl h))) was.queues)
      (queues_wider (IsListOf it (InSpan s)) (IsListOf it (HasId (front ++ s ∷ []))) mid new
      (list_wider it (InSpan s) (HasId (front ++ s ∷ [])) (λ y i. put_last front s y (inr i))) notes.queues);
  all = λ n y u h. elim (take_last front s y h) [
    | inl g ↦ elim (was.all n y u g) [ inl d ↦ inl d | inr i ↦ inr (queued_stays (IsListOf it (InSpan s)) mid new n notes.queues i) ]
    | inr i ↦ notes.all n y u i
  ];
}
