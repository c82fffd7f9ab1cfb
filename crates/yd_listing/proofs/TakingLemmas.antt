-- What falls since units came, row by row.
use Rattle.std.proofs.Common.{◌≡◌, ◌≢◌, ◌<◌, ℕ, true, inl, inr, List, [], ◌∷◌, ◌++◌, Option, Some, None, Result, Ok, Err, refl, sym, ap, ◌∙◌, subst, arith}
use Rattle.std.specs.Prelude.{OnOk, IfSome, slice_get}
use Rattle.yd_words.specs.Member.{IsIn}
use Rattle.yd_words.proofs.MemberLemmas.{in_left_part, in_right_part, in_parts}
use Rattle.yd_words.proofs.OptionLemmas.{some_is}
use Rattle.yd_ids.specs.declared.id.Id.{Id}
use Rattle.yd_ids.specs.declared.id.Span.{Span}
use Rattle.yd_ids.specs.Id.{IsId}
use Rattle.yd_ids.specs.Span.{InSpan}
use Rattle.yd_ids.specs.Set.{HasId}
use Rattle.yd_ops.specs.declared.lists.List.{List as DocList}
use Rattle.yd_ops.specs.declared.lists.Parent.TheVariants.{Root, Item}
use Rattle.yd_origins.specs.Deleted.{last_of}
use Rattle.yd_meaning.specs.Names.{has_key, item_of_list, item_of_parent}
use Rattle.yd_arena.specs.Arena.{count_of}
use Rattle.yd_kept.specs.Kept.{KeptValue}
use Rattle.yd_listing.specs.declared.came.Came.{Came}
use Rattle.yd_listing.specs.Falling.{units_of_list, IsTold, IsCame, IsOutlived}
use Rattle.yd_listing.specs.Steps.{Adds, InSpanUnder, IsOtherUnder, MayFall, IsTaken, Takes, TakesAll}
use Rattle.yd_listing.proofs.AddingLemmas.{adds_none, adds_wider, adds_both, gone_kept}
use Rattle.yd_listing.proofs.OutlivingLemmas.{outlived_kept}

no_number : {P : Type 0} (list : Option ℕ) (n : ℕ) → list ≡ None → list ≡ Some n → P
no_number list n e f = (let w : None ≡ Some n = sym e ∙ f in absurd cc)

-- what came lost is taken
pub takes_lost : (it : KeptValue) (deleted : List Span) (one : Came) (old new : List Span) → one.list ≡ None → Adds (InSpan one.span) old new →
    ((x : Id) → InSpan one.span x → HasId new x) → Takes it deleted one old new
takes_lost it deleted one old new e adds all = record {
  adds = adds_wider (InSpan one.span) (MayFall it deleted one) old new (λ x i. record { why = inl (e, i) }) adds;
  taken = record {
    lost = λ f x i. inr (all x i);
    under = λ n x y f. no_number one.list n e f;
    keys = λ n x f. no_number one.list n e f;
    outlived = λ n x f. no_number one.list n e f;
  };
}

-- ---- what came into a list

-- a list has just this name
one_name : (it : KeptValue) (number n : ℕ) (name other : DocList) → slice_get it.names number ≡ Some name → slice_get it.names n ≡ Some other → n ≡ number → other ≡ name
one_name it number n name other e f same = some_is other name (sym f ∙ ap (slice_get it.names) same ∙ e)

module _ (it : KeptValue) (deleted : List Span) (one : Came) (number : ℕ) (is : one.list ≡ Some number) (name : DocList) (named : slice_get it.names number ≡ Some name)
    (there : (x : Id) → InSpan one.span x → IsIn x (units_of_list it number)) where
  same_list : (n : ℕ) → one.list ≡ Some n → n ≡ number
  same_list n f = some_is n number (sym f ∙ is)

  under_falls : (x : Id) → InSpanUnder deleted name one.span x → MayFall it deleted one x
  under_falls x i = record { why = inr (number, there x i.0, inl (i.1.0, record { name = name; named = named; own = i.1.1 }, i.1.2)) }

  other_falls : (x : Id) → IsOtherUnder name (units_of_list it number) x → MayFall it deleted one x
  other_falls x o = record { why = inr (number, o.0.0, inr (record { name = name; named = named; keyed = o.1 }, o.0.1)) }

  -- the list with the number of some units has this name
  its_name : (n : ℕ) (other : DocList) → one.list ≡ Some n → slice_get it.names n ≡ Some other → other ≡ name
  its_name n other f e = one_name it number n name other named e (same_list n f)

  pub takes_listed : (old mid new : List Span) → Adds (InSpanUnder deleted name one.span) old mid → ((x : Id) → InSpanUnder deleted name one.span x → HasId mid x) →
      Adds (IsOtherUnder name (units_of_list it number)) mid new →
      (has_key name ≡ true → (x : Id) → InSpan one.span x → last_of (units_of_list it number) ≢ Some x → HasId new x) →
      (has_key name ≡ true → (x : Id) → InSpan one.span x → last_of (units_of_list it number) ≡ Some x → IsOutlived deleted new (units_of_list it number)) →
      Takes it deleted one old new
  takes_listed old mid new first all second keys outlived = record {
    adds = adds_both (MayFall it deleted one) old mid new (adds_wider (InSpanUnder deleted name one.span) (MayFall it deleted one) old mid under_falls first)
        (adds_wider (IsOtherUnder name (units_of_list it number)) (MayFall it deleted one) mid new other_falls second);
    taken = record {
      lost = λ f x i. no_number one.list number f is;
      under = λ n x y f i u h. inr (second.kept x (all x (i, (y, ap item_of_list (sym (its_name n u.name f u.named)) ∙ u.own, h))));
      keys = λ n x f i k other. inr (keys (ap has_key (sym (its_name n k.name f k.named)) ∙ k.keyed) x i
          (subst (λ m. last_of (units_of_list it m) ≢ Some x) (same_list n f) other));
      outlived = λ n x f i k end. subst (λ m. IsOutlived deleted new (units_of_list it m)) (sym (same_list n f))
          (outlived (ap has_key (sym (its_name n k.name f k.named)) ∙ k.keyed) x i (subst (λ m. last_of (units_of_list it m) ≡ Some x) (same_list n f) end));
    };
  }

-- a list without a name has no unit that may fall
pub takes_unnamed : (it : KeptValue) (deleted : List Span) (one : Came) (number : ℕ) (old : List Span) → one.list ≡ Some number → slice_get it.names number ≡ None →
    Takes it deleted one old old
takes_unnamed it deleted one number old is none = record {
  adds = adds_none (MayFall it deleted one) old;
  taken = record {
    lost = λ f x i. no_number one.list number f is;
    under = λ n x y f i u. no_name n u.name f u.named;
    keys = λ n x f i k. no_name n k.name f k.named;
    outlived = λ n x f i k. no_name n k.name f k.named;
  };
}
  where
    no_name : {P : Type 0} (n : ℕ) (name : DocList) → one.list ≡ Some n → slice_get it.names n ≡ Some name → P
    no_name n name f g = (let w : None ≡ Some name = sym none ∙ ap (slice_get it.names) (sym (some_is n number (sym f ∙ is))) ∙ g in absurd cc)

-- ---- row by row

taken_kept : (it : KeptValue) (deleted : List Span) (one : Came) (P : Id → Type 0) (old new : List Span) → Adds P old new → IsTaken it deleted one old → IsTaken it deleted one new
taken_kept it deleted one P old new adds t = record {
  lost = λ e x i. gone_kept P deleted old new x adds (t.lost e x i);
  under = λ n x y e i u h. gone_kept P deleted old new x adds (t.under n x y e i u h);
  keys = λ n x e i k other. gone_kept P deleted old new x adds (t.keys n x e i k other);
  outlived = λ n x e i k end. outlived_kept deleted old new (units_of_list it n) adds.kept (t.outlived n x e i k end);
}

pub taking_begins : (it : KeptValue) (deleted old : List Span) → TakesAll it deleted [] old old
taking_begins it deleted old = record { adds = adds_none (λ x. (one : Came) × IsIn one [] × MayFall it deleted one x) old; taken = λ one i. absurd i }

abbrev MayFallOf : KeptValue → List Span → List Came → Id → Type 0
MayFallOf it deleted came x = (other : Came) × IsIn other came × MayFall it deleted other x

pub taking_goes_on : (it : KeptValue) (deleted : List Span) (front : List Came) (one : Came) (old mid new : List Span) → TakesAll it deleted front old mid →
    Takes it deleted one mid new → TakesAll it deleted (front ++ one ∷ []) old new
taking_goes_on it deleted front one old mid new was takes = record {
  adds = adds_both (MayFallOf it deleted (front ++ one ∷ [])) old mid new
      (adds_wider (λ x. (other : Came) × IsIn other front × MayFall it deleted other x) (MayFallOf it deleted (front ++ one ∷ [])) old mid (λ x m. (m.0, in_left_part m.0 front (one ∷ []) m.1, m.2)) was.adds)
      (adds_wider (MayFall it deleted one) (MayFallOf it deleted (front ++ one ∷ [])) mid new (λ x m. (one, in_right_part one front (one ∷ []) (inl refl), m)) takes.adds);
  taken = λ other i. elim (in_parts other front (one ∷ []) i) [
    | inl j ↦ taken_kept it deleted other (MayFall it deleted one) mid new takes.adds (was.taken other j)
    | inr j ↦ elim j [ inl e ↦ subst (λ o. IsTaken it deleted o new) (sym e) takes.taken | inr w ↦ absurd w ]
  ];
}

-- the item of a list into which units came is an id
pub item_is : (it : KeptValue) (one : Came) (number : ℕ) (name : DocList) → IsTold it → IsCame it one → one.list ≡ Some number → slice_get it.names number ≡ Some name →
    IfSome (item_of_list name) IsId
item_is it one number name told came is named = told.items number name first named (there first (refl, omega arith, omega (arith, came.some)))
  where
    first : Id
    first = record { client = one.span.client; clock = one.span.clock }

    there : (x : Id) → InSpan one.span x → IsIn x (units_of_list it number)
    there = (subst (λ z. IfSome z (λ n. (n < count_of it.store.placed) × ((x : Id) → InSpan one.span x → IsIn x (units_of_list it n)))) is came.list).1

-- a span is added where the item of its list was deleted, and else not
pub under_added : (deleted : List Span) (name : DocList) (span : Span) (item : Id) (old new : List Span) → item_of_list name ≡ Some item → HasId deleted item →
    Adds (InSpan span) old new → Adds (InSpanUnder deleted name span) old new
under_added deleted name span item old new e h adds = adds_wider (InSpan span) (InSpanUnder deleted name span) old new (λ x i. (i, (item, e, h))) adds

pub item_out : {P : Type 0} (deleted : List Span) (name : DocList) (item : Id) → item_of_list name ≡ Some item → (HasId deleted item → ⊥) →
    ((y : Id) × (item_of_list name ≡ Some y) × HasId deleted y) → P
item_out deleted name item e out (y, f, h) = absurd (out (subst (HasId deleted) (some_is y item (sym f ∙ e)) h))

pub item_of_item : (name : DocList) (item : Id) → name.parent ≡ Item item → item_of_list name ≡ Some item
item_of_item name item e = ap item_of_parent e

pub no_item : {P : Type 0} (deleted : List Span) (name : DocList) (root : List ℕ) → name.parent ≡ Root root → ((y : Id) × (item_of_list name ≡ Some y) × HasId deleted y) → P
no_item deleted name root e (y, f, h) = (let w : None ≡ Some y = sym (ap item_of_parent e) ∙ f in absurd cc)

pub lost_taken : {T E : Type 0} (it : KeptValue) (deleted : List Span) (one : Came) (old new : List Span) (z : Result T E) → one.list ≡ None →
    OnOk z (Adds (InSpan one.span) old new) → OnOk z ((x : Id) → InSpan one.span x → HasId new x) → OnOk z (Takes it deleted one old new)
lost_taken it deleted one old new (Ok v) e adds all = takes_lost it deleted one old new e adds all
lost_taken it deleted one old new (Err v) e adds all = tt
