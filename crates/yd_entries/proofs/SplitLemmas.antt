-- Entries of which one is split: they tell the same, in the same order, and none has units on both sides of the cut.
use Rattle.std.proofs.Common.{◌≡◌, ℕ, zero, suc, ◌<◌, List, [], ◌∷◌, ◌++◌, take, drop, set, Some, inl, inr, refl, sym, ap, ◌∙◌, subst, arith, append_assoc}
use Rattle.std.specs.Prelude.{slice_get}
use Rattle.yd_words.specs.Each.{Each}
use Rattle.yd_words.proofs.EachLemmas.{each_weaker}
use Rattle.yd_words.proofs.MemberLemmas.{each_in}
use Rattle.yd_words.proofs.OptionLemmas.{some_is}
use Rattle.yd_ids.specs.declared.id.Id.{Id}
use Rattle.yd_ops.specs.declared.runs.Run.{Run}
use Rattle.yd_ops.specs.Operation.{later_id}
use Rattle.yd_entries.specs.declared.entry.Entry.{Entry}
use Rattle.yd_entries.specs.Entries.{operations_of_taken, operations_in, IsTakenOf, StandsBefore, AreInOrder}
use Rattle.yd_entries.specs.Lowering.{IsBeside}
use Rattle.yd_entries.specs.Splitting.{IsSplittable, front_of, back_of, split_in, PartsPairOf}
use Rattle.yd_entries.proofs.ChangeLemmas.{entry_got}
use Rattle.yd_entries.proofs.PartLemmas.{back-id, back-len, both_operations, front_taken, back_taken}

-- ---- where they stand

module _ (t : Entry) (n : ℕ) (can : IsSplittable t n) where
  before_front : (s : Entry) → StandsBefore s t → StandsBefore s (front_of t n)
  before_front s (inl lt) = inl lt
  before_front s (inr (same, le)) = inr (same, le)

  before_back : (s : Entry) → StandsBefore s t → StandsBefore s (back_of t n)
  before_back s (inl lt) = inl (subst (λ (x : Id). x.client.0 < s.id.client.0) (sym (back-id t n)) lt)
  before_back s (inr (same, le)) = inr (same ∙ ap (λ (x : Id). x.client) (sym (back-id t n)), omega (arith, le, ap (λ (x : Id). x.clock) (back-id t n)))

  front_back : StandsBefore (front_of t n) (back_of t n)
  front_back = inr (ap (λ (x : Id). x.client) (sym (back-id t n)), omega (arith, ap (λ (x : Id). x.clock) (back-id t n)))

  front_behind : (s : Entry) → StandsBefore t s → StandsBefore (front_of t n) s
  front_behind s (inl lt) = inl lt
  front_behind s (inr (same, le)) = inr (same, omega (arith, le, can.fewer))

  back_behind : (s : Entry) → StandsBefore t s → StandsBefore (back_of t n) s
  back_behind s (inl lt) = inl (subst (λ (x : Id). s.id.client.0 < x.client.0) (sym (back-id t n)) lt)
  back_behind s (inr (same, le)) = inr (ap (λ (x : Id). x.client) (back-id t n) ∙ same, omega (arith, le, can.fewer, ap (λ (x : Id). x.clock) (back-id t n), back-len t n))

  -- a part has no units on both sides of an id where the whole has none
  beside_front : (y : Id) → IsBeside y t → IsBeside y (front_of t n)
  beside_front y (inl (inl lt)) = inl (inl lt)
  beside_front y (inl (inr (same, le))) = inl (inr (same, omega (arith, le, can.fewer)))
  beside_front y (inr (inl lt)) = inr (inl lt)
  beside_front y (inr (inr (same, le))) = inr (inr (same, le))

  beside_back : (y : Id) → IsBeside y t → IsBeside y (back_of t n)
  beside_back y (inl (inl lt)) = inl (inl (subst (λ (x : Id). y.client.0 < x.client.0) (sym (back-id t n)) lt))
  beside_back y (inl (inr (same, le))) = inl (inr (ap (λ (x : Id). x.client) (back-id t n) ∙ same, omega (arith, le, can.fewer, ap (λ (x : Id). x.clock) (back-id t n), back-len t n)))
  beside_back y (inr (inl lt)) = inr (inl (subst (λ (x : Id). x.client.0 < y.client.0) (sym (back-id t n)) lt))
  beside_back y (inr (inr (same, le))) = inr (inr (same ∙ ap (λ (x : Id). x.client) (sym (back-id t n)), omega (arith, le, ap (λ (x : Id). x.clock) (back-id t n))))

  cut_front : IsBeside (later_id t.id n) (front_of t n)
  cut_front = inl (inr (refl, omega arith))

  cut_back : IsBeside (later_id t.id n) (back_of t n)
  cut_back = inr (inr (ap (λ (x : Id). x.client) (sym (back-id t n)), omega (arith, ap (λ (x : Id). x.clock) (back-id t n))))

  cut_before : (s : Entry) → StandsBefore s t → IsBeside (later_id t.id n) s
  cut_before s (inl lt) = inl (inl lt)
  cut_before s (inr (same, le)) = inl (inr (same, omega (arith, le)))

  cut_behind : (s : Entry) → StandsBefore t s → IsBeside (later_id t.id n) s
  cut_behind s (inl lt) = inr (inl lt)
  cut_behind s (inr (same, le)) = inr (inr (same, omega (arith, le, can.fewer)))

-- ---- in a list

split_each : (P : Entry → Type 0) (ts : List Entry) (at n : ℕ) (t : Entry) → slice_get ts at ≡ Some t → Each P ts → P (front_of t n) → P (back_of t n) → Each P (split_in at n ts)
split_each P [] at n t e each front back = tt
split_each P (s ∷ ss) zero n t e each front back =
    (subst (λ r. P (front_of r n)) (sym (some_is s t e)) front, (subst (λ r. P (back_of r n)) (sym (some_is s t e)) back, each.1))
split_each P (s ∷ ss) (suc at) n t e each front back = (each.0, split_each P ss at n t e each.1 front back)

module _ (t : Entry) (n : ℕ) (can : IsSplittable t n) where
  pub split_order : (ts : List Entry) (at : ℕ) → slice_get ts at ≡ Some t → AreInOrder ts → AreInOrder (split_in at n ts)
  split_order [] at e order = tt
  split_order (s ∷ ss) zero e order = subst (λ r. AreInOrder (front_of r n ∷ back_of r n ∷ ss)) (sym (some_is s t e)) (
    (front_back t n can, each_weaker (StandsBefore t) (StandsBefore (front_of t n)) (λ r b. front_behind t n can r b) ss behind),
    (each_weaker (StandsBefore t) (StandsBefore (back_of t n)) (λ r b. back_behind t n can r b) ss behind, order.1),
  )
    where
      behind : Each (StandsBefore t) ss
      behind = subst (λ r. Each (StandsBefore r) ss) (some_is s t e) order.0
  split_order (s ∷ ss) (suc at) e order = (
    split_each (StandsBefore s) ss at n t e order.0 (before_front t n can s (each_in (StandsBefore s) ss order.0 t (entry_got ss at t e)))
        (before_back t n can s (each_in (StandsBefore s) ss order.0 t (entry_got ss at t e))),
    split_order ss at e order.1,
  )

  pub split_others : (y : Id) (ts : List Entry) (at : ℕ) → slice_get ts at ≡ Some t → Each (IsBeside y) ts → Each (IsBeside y) (split_in at n ts)
  split_others y ts at e each = split_each (IsBeside y) ts at n t e each (beside_front t n can y (each_in (IsBeside y) ts each t (entry_got ts at t e)))
      (beside_back t n can y (each_in (IsBeside y) ts each t (entry_got ts at t e)))

  pub split_beside : (ts : List Entry) (at : ℕ) → slice_get ts at ≡ Some t → AreInOrder ts → Each (IsBeside (later_id t.id n)) (split_in at n ts)
  split_beside [] at e order = tt
  split_beside (s ∷ ss) zero e order = subst (λ r. Each (IsBeside (later_id t.id n)) (front_of r n ∷ back_of r n ∷ ss)) (sym (some_is s t e)) (
    cut_front t n can,
    (
      cut_back t n can,
      each_weaker (StandsBefore t) (IsBeside (later_id t.id n)) (λ r b. cut_behind t n can r b) ss
          (subst (λ r. Each (StandsBefore r) ss) (some_is s t e) order.0),
    ),
  )
  split_beside (s ∷ ss) (suc at) e order =
      (cut_before t n can s (each_in (StandsBefore s) ss order.0 t (entry_got ss at t e)), split_beside ss at e order.1)

  module _ (runs : List Run) (is : IsTakenOf runs t) where
    pub split_operations : (ts : List Entry) (at : ℕ) → slice_get ts at ≡ Some t → operations_in runs (split_in at n ts) ≡ operations_in runs ts
    split_operations [] at e = refl
    split_operations (s ∷ ss) zero e = subst (λ r. operations_in runs (front_of r n ∷ back_of r n ∷ ss) ≡ operations_in runs (r ∷ ss)) (sym (some_is s t e))
        (sym (append_assoc (operations_of_taken runs (front_of t n)) (operations_of_taken runs (back_of t n)) (operations_in runs ss))
        ∙ ap (λ os. os ++ operations_in runs ss) (both_operations runs t n is can))
    split_operations (s ∷ ss) (suc at) e = ap (λ os. operations_of_taken runs s ++ os) (split_operations ss at e)

    pub split_taken : (PartsPairOf runs t n → ⊥) → (ts : List Entry) (at : ℕ) → slice_get ts at ≡ Some t → Each (IsTakenOf runs) ts → Each (IsTakenOf runs) (split_in at n ts)
    split_taken whole ts at e each = split_each (IsTakenOf runs) ts at n t e each (front_taken runs t n is can whole) (back_taken runs t n is can whole)

-- which entry stands where then
pub split_first : (ts : List Entry) (at n : ℕ) (t : Entry) → slice_get ts at ≡ Some t → slice_get (split_in at n ts) at ≡ Some (front_of t n)
split_first [] at n t e = absurd cc
split_first (s ∷ ss) zero n t e = ap (λ r. Some (front_of r n)) (some_is s t e)
split_first (s ∷ ss) (suc at) n t e = split_first ss at n t e

pub split_second : (ts : List Entry) (at n : ℕ) (t : Entry) → slice_get ts at ≡ Some t → slice_get (split_in at n ts) (suc at) ≡ Some (back_of t n)
split_second [] at n t e = absurd cc
split_second (s ∷ ss) zero n t e = ap (λ r. Some (back_of r n)) (some_is s t e)
split_second (s ∷ ss) (suc at) n t e = split_second ss at n t e

-- the code sets the one and inserts the other
pub split_by : (ts : List Entry) (at n : ℕ) (t : Entry) → slice_get ts at ≡ Some t →
    take (suc at) (set ts at (front_of t n)) ++ back_of t n ∷ drop (suc at) (set ts at (front_of t n)) ≡ split_in at n ts
split_by [] at n t e = absurd cc
split_by (s ∷ ss) zero n t e = ap (λ r. front_of r n ∷ back_of r n ∷ ss) (sym (some_is s t e))
split_by (s ∷ ss) (suc at) n t e = ap (λ ts. s ∷ ts) (split_by ss at n t e)
