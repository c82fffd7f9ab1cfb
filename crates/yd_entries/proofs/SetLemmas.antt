-- One entry that takes the place of another with the same units: what a function makes of all is what it makes of the two.
use Rattle.std.proofs.Common.{◌≡◌, ℕ, zero, suc, ◌<◌, ◌≤◌, List, [], ◌∷◌, ◌++◌, length, map, set, get_or, Some, inl, inr, refl, sym, ap, ap₂, ◌∙◌, subst, arith}
use Rattle.std.specs.Prelude.{slice_get}
use Rattle.std.proofs.lemmas.Option.{get_or_from_slice_get}
use Rattle.yd_words.specs.Each.{Each}
use Rattle.yd_words.proofs.EachLemmas.{each_weaker, each_set}
use Rattle.yd_words.proofs.MemberLemmas.{each_in}
use Rattle.yd_words.proofs.OptionLemmas.{some_is}
use Rattle.yd_ids.specs.declared.id.Id.{Id}
use Rattle.yd_ops.specs.declared.runs.Run.{Run}
use Rattle.yd_ops.specs.Operation.{Operation}
use Rattle.yd_ops.specs.Value.{deleted}
use Rattle.yd_ops.specs.View.{run_value}
use Rattle.yd_entries.specs.declared.entry.Entry.{Entry}
use Rattle.yd_entries.specs.Entries.{operations_of_taken, operations_in, IsTakenOf, StandsBefore, AreInOrder, GrowBy}
use Rattle.yd_entries.specs.Lowering.{IsBeside, LowersEntry, level_of_entry, as_gone, with_run, own_run}
use Rattle.yd_entries.proofs.ChangeLemmas.{entry_got}
use Rattle.yd_entries.proofs.LowerLemmas.{down_none, gone_operations, gone_taken, deleted_operations, deleted_all, deleted_taken, deleted_low}
use Rattle.yd_entries.proofs.TakenLemmas.{grown_operations, grown_each, grown_in}

-- ---- a list of which one is set

pub set_same : {X : Type 0} (xs : List X) (n : ℕ) (x : X) → slice_get xs n ≡ Some x → xs ≡ set xs n x
set_same [] n x e = refl
set_same (y ∷ ys) zero x e = ap (λ z. z ∷ ys) (some_is y x e)
set_same (y ∷ ys) (suc n) x e = ap (λ zs. y ∷ zs) (set_same ys n x e)

map-append : {X Y : Type 0} (f : X → Y) (xs ys : List X) → map f (xs ++ ys) ≡ map f xs ++ map f ys
map-append f [] ys = refl
map-append f (x ∷ xs) ys = ap (λ zs. f x ∷ zs) (map-append f xs ys)

module _ (t u : Entry) (id : u.id ≡ t.id) (len : u.len ≡ t.len) where
  before_set : (s : Entry) → StandsBefore s t → StandsBefore s u
  before_set s (inl lt) = inl (subst (λ (x : Id). x.client.0 < s.id.client.0) (sym id) lt)
  before_set s (inr (same, le)) = inr (same ∙ ap (λ (x : Id). x.client) (sym id), omega (arith, le, ap (λ (x : Id). x.clock) id))

  behind_set : (s : Entry) → StandsBefore t s → StandsBefore u s
  behind_set s (inl lt) = inl (subst (λ (x : Id). s.id.client.0 < x.client.0) (sym id) lt)
  behind_set s (inr (same, le)) = inr (ap (λ (x : Id). x.client) id ∙ same, omega (arith, le, len, ap (λ (x : Id). x.clock) id))

  beside_set : (y : Id) → IsBeside y t → IsBeside y u
  beside_set y (inl (inl lt)) = inl (inl (subst (λ (x : Id). y.client.0 < x.client.0) (sym id) lt))
  beside_set y (inl (inr (same, le))) = inl (inr (ap (λ (x : Id). x.client) id ∙ same, omega (arith, le, len, ap (λ (x : Id). x.clock) id)))
  beside_set y (inr (inl lt)) = inr (inl (subst (λ (x : Id). x.client.0 < y.client.0) (sym id) lt))
  beside_set y (inr (inr (same, le))) = inr (inr (same ∙ ap (λ (x : Id). x.client) (sym id), omega (arith, le, ap (λ (x : Id). x.clock) id)))

  pub order_set : (ts : List Entry) (at : ℕ) → slice_get ts at ≡ Some t → AreInOrder ts → AreInOrder (set ts at u)
  order_set [] at e order = tt
  order_set (s ∷ ss) zero e order = (each_weaker (StandsBefore t) (StandsBefore u) (λ r b. behind_set r b) ss (subst (λ r. Each (StandsBefore r) ss) (some_is s t e) order.0), order.1)
  order_set (s ∷ ss) (suc at) e order =
      (each_set (StandsBefore s) ss at u order.0 (before_set s (each_in (StandsBefore s) ss order.0 t (entry_got ss at t e))), order_set ss at e order.1)

  pub others_set : (y : Id) (ts : List Entry) (at : ℕ) → slice_get ts at ≡ Some t → Each (IsBeside y) ts → Each (IsBeside y) (set ts at u)
  others_set y ts at e each = each_set (IsBeside y) ts at u each (beside_set y (each_in (IsBeside y) ts each t (entry_got ts at t e)))

  module _ (runs new : List Run) (grow : GrowBy runs new) where
    pub taken_set : (ts : List Entry) (at : ℕ) → Each (IsTakenOf runs) ts → IsTakenOf new u → Each (IsTakenOf new) (set ts at u)
    taken_set ts at each is = each_set (IsTakenOf new) ts at u (grown_each runs new ts grow each) is

    -- what a function makes of all is the same where it makes the same of both
    pub map_set : (f : Operation → Operation) → map f (operations_of_taken new u) ≡ map f (operations_of_taken runs t) → (ts : List Entry) (at : ℕ) → slice_get ts at ≡ Some t →
        Each (IsTakenOf runs) ts → map f (operations_in new (set ts at u)) ≡ map f (operations_in runs ts)
    map_set f same [] at e each = refl
    map_set f same (s ∷ ss) zero e each =
        map-append f (operations_of_taken new u) (operations_in new ss)
        ∙ ap₂ (λ os ps. os ++ ps) (same ∙ ap (λ r. map f (operations_of_taken runs r)) (sym (some_is s t e))) (ap (λ os. map f os) (grown_in runs new ss grow each.1))
        ∙ sym (map-append f (operations_of_taken runs s) (operations_in runs ss))
    map_set f same (s ∷ ss) (suc at) e each =
        map-append f (operations_of_taken new s) (operations_in new (set ss at u))
        ∙ ap₂ (λ os ps. os ++ ps) (ap (λ os. map f os) (grown_operations runs new s grow each.0.run_there)) (map_set f same ss at e each.1)
        ∙ sym (map-append f (operations_of_taken runs s) (operations_in runs ss))

-- ---- an entry that is lowered

-- what holds of the entry at a place, whatever is read behind the end
at_place : (P : Entry → Type 0) (ts : List Entry) (at : ℕ) (t : Entry) → slice_get ts at ≡ Some t → P (get_or ts at t) → P t
at_place P ts at t e p = subst P (get_or_from_slice_get ts at t t e) p

module _ (runs : List Run) (ts : List Entry) (at level : ℕ) (t : Entry) (there : slice_get ts at ≡ Some t) (holds : IsTakenOf runs (get_or ts at t)) where
  is : IsTakenOf runs t
  is = at_place (IsTakenOf runs) ts at t there holds

  pub lowers_none : level_of_entry runs t ≤ level → LowersEntry runs ts runs ts at level
  lowers_none le = record {
    entry = t;
    new = t;
    there = there;
    placed = set_same ts at t there;
    id = refl;
    len = refl;
    place = refl;
    of_run = is;
    operations = down_none runs t is level le;
    low = le;
    less = inl refl;
  }

  pub lowers_gone : level < level_of_entry runs t → level ≡ 0 → (u : Entry) → u ≡ as_gone t → LowersEntry runs ts runs (set ts at u) at level
  lowers_gone less none u e = subst (λ n. LowersEntry runs ts runs (set ts at u) at n) (sym none) (subst (λ v. LowersEntry runs ts runs (set ts at v) at 0) (sym e) (record {
    entry = t;
    new = as_gone t;
    there = there;
    placed = refl;
    id = refl;
    len = refl;
    place = refl;
    of_run = gone_taken runs t is;
    operations = gone_operations runs t is (omega (arith, less));
    low = omega arith;
    less = inr (inl refl);
  }))

  pub lowers_deleted : level < level_of_entry runs t → level ≡ 1 → (new : List Run) (run : Run) (index : ℕ) → new ≡ runs ++ run ∷ [] →
      run_value run ≡ own_run runs t (deleted t.len) → index ≡ length runs →
      LowersEntry runs ts new (set ts at (with_run t index 0)) at level
  lowers_deleted less one new run index grown own last = subst (λ n. LowersEntry runs ts new (set ts at (with_run t index 0)) at n) (sym one)
      (subst (λ i. LowersEntry runs ts new (set ts at (with_run t i 0)) at 1) (sym last) (record {
        entry = t;
        new = with_run t (length runs) 0;
        there = there;
        placed = refl;
        id = refl;
        len = refl;
        place = refl;
        of_run = deleted_taken runs t is new run grown own more;
        operations = deleted_operations runs t is new run grown own more;
        low = deleted_low runs t is new run grown own more;
        less = inr (inr (omega arith, deleted_all runs t is new run grown own more));
      }))
    where
      more : 1 < level_of_entry runs t
      more = omega (arith, less, one)
