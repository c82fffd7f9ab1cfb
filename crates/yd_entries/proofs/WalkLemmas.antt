-- The walk over the units of a run: what is taken so far, one step, and the end.
use Rattle.std.proofs.Common.{◌≡◌, ◌↔◌, ℕ, ◌+◌, ◌-◌, ◌<◌, ◌≤◌, Bool, true, false, List, take, drop, ◌⊎◌, inl, inr, sym, ap, ◌∙◌, subst, arith}
use Rattle.std.proofs.Math.Seq.{take-add}
use Rattle.std.proofs.lemmas.Bool.{true≢false, false_from_ne_true}
use Rattle.yd_words.specs.Each.{Each}
use Rattle.yd_words.specs.Member.{IsIn}
use Rattle.yd_words.proofs.MemberLemmas.{in_left_part, in_right_part, in_parts}
use Rattle.yd_ids.specs.declared.id.Id.{Id}
use Rattle.yd_ops.specs.declared.runs.Run.{Run}
use Rattle.yd_ops.specs.Operation.{Operation, later_id}
use Rattle.yd_ops.specs.Value.{RunValue, len_of}
use Rattle.yd_ops.specs.Received.{has_operation}
use Rattle.yd_ops.proofs.OneOfLemmas.{operation_with, id_there, ids_stay}
use Rattle.yd_ops.proofs.AddingLemmas.{is_torn, IsAddedOf}
use Rattle.yd_ops.proofs.MendingLemmas.{as_torn-id}
use Rattle.yd_entries.specs.declared.entry.Entry.{Entry}
use Rattle.yd_entries.specs.Entries.{IsTakenOf, AreInOrder, operations_in, PartsPair, GrowBy}
use Rattle.yd_entries.specs.Taking.{is_covered, AreCovered, operations_from_run}
use Rattle.yd_entries.proofs.PieceLemmas.{part_id}
use Rattle.yd_entries.proofs.TakenLemmas.{has_covered}
use Rattle.yd_ops.proofs.OperationLemmas.{later_later}
use Rattle.yd_entries.proofs.UnitLemmas.{later_same, later_one}

-- what is taken where the units of a run before this one are taken in: of what was there before the run nothing changes
pub record IsWalked (is_gone : Bool) (run : RunValue) (old_runs : List Run) (old_taken : List Entry) (runs : List Run) (taken : List Entry) (from : ℕ) : Type 0 where
  pub bound : from ≤ len_of run.content
  pub grows : GrowBy old_runs runs
  pub each : Each (IsTakenOf runs) taken
  pub in_order : AreInOrder taken
  pub operations : (q : Operation) → IsIn q (operations_in runs taken) ↔
      (IsIn q (operations_in old_runs old_taken) ⊎ IsAddedOf (operations_from_run is_gone run) (operations_in old_runs old_taken) (take from (operations_from_run is_gone run)) q)
  pub cut : PartsPair run.content from → has_operation (operations_in old_runs old_taken) (later_id run.id from) ≡ false →
      (k : ℕ) → from ≡ k + 1 → has_operation (operations_in old_runs old_taken) (later_id run.id k) ≡ true

-- ---- ids that were there before the run

module _ (is_gone : Bool) (run : RunValue) (old_runs : List Run) (old_taken : List Entry) (runs : List Run) (taken : List Entry) (from : ℕ)
    (walked : IsWalked is_gone run old_runs old_taken runs taken from) where
  -- the operations that were there before the run, and those of the run
  abbrev old : List Operation
  old = operations_in old_runs old_taken

  abbrev whole : List Operation
  whole = operations_from_run is_gone run

  pub covered_known : (n : ℕ) → from ≤ n → is_covered taken (later_id run.id n) ≡ true → has_operation old (later_id run.id n) ≡ true
  covered_known n le covered =
      let (q, i, e) = operation_with (operations_in runs taken) (later_id run.id n) (has_covered runs taken (later_id run.id n) walked.each ∙ covered) in
      elim ((walked.operations q).0 i) [
        | inl j ↦ id_there old q (later_id run.id n) j e
        | inr (o, j, none, f) ↦
            let (k, lt, x) = part_id is_gone run 0 from o (omega (arith, walked.bound)) j in
            absurd (omega (arith, later_one run.id (0 + k) n (sym x ∙ sym (as_torn-id (is_torn whole old o) o) ∙ sym (ap (λ (r : Operation). r.id) f) ∙ e)))
      ]

  pub free_unknown : (x : Id) → is_covered taken x ≡ false → has_operation old x ≡ false
  free_unknown x free = false_from_ne_true (has_operation old x) (λ e.
      true≢false (sym (ids_stay old (operations_in runs taken) x (λ q i. (walked.operations q).1 (inl i)) e) ∙ has_covered runs taken x walked.each ∙ free))

  -- operations of the run up to a later unit
  pub front_more : (count : ℕ) (o : Operation) → IsIn o (take from whole) → IsIn o (take (from + count) whole)
  front_more count o i = subst (IsIn o) (sym (take-add from count whole)) (in_left_part o (take from whole) (take count (drop from whole)) i)

  pub part_more : (count : ℕ) (o : Operation) → IsIn o (take count (drop from whole)) → IsIn o (take (from + count) whole)
  part_more count o i = subst (IsIn o) (sym (take-add from count whole)) (in_right_part o (take from whole) (take count (drop from whole)) i)

  pub parts_of : (count : ℕ) (o : Operation) → IsIn o (take (from + count) whole) → IsIn o (take from whole) ⊎ IsIn o (take count (drop from whole))
  parts_of count o i = in_parts o (take from whole) (take count (drop from whole)) (subst (IsIn o) (take-add from count whole) i)

  -- ---- units that were taken before

  pub walk_passed : (count : ℕ) → 0 < count → from + count ≤ len_of run.content → AreCovered taken (later_id run.id from) count →
      IsWalked is_gone run old_runs old_taken runs taken (from + count)
  walk_passed count some le covered = record {
    bound = le;
    grows = walked.grows;
    each = walked.each;
    in_order = walked.in_order;
    operations = λ q. (there q, back q);
    cut = λ cut none k e. subst (λ x. has_operation old x ≡ true) (later_same run.id (from + (count - 1)) k (omega arith)) (known (count - 1) (omega arith));
  }
    where
      known : (i : ℕ) → i < count → has_operation old (later_id run.id (from + i)) ≡ true
      known i lt = covered_known (from + i) (omega arith) (subst (λ x. is_covered taken x ≡ true) (later_later run.id from i) (covered i lt))

      there : (q : Operation) → IsIn q (operations_in runs taken) →
          IsIn q old ⊎ IsAddedOf whole old (take (from + count) whole) q
      there q i = elim ((walked.operations q).0 i) [ inl j ↦ inl j | inr (o, j, none, e) ↦ inr (o, front_more count o j, none, e) ]

      back : (q : Operation) → IsIn q old ⊎ IsAddedOf whole old (take (from + count) whole) q →
          IsIn q (operations_in runs taken)
      back q (inl i) = (walked.operations q).1 (inl i)
      back q (inr (o, i, none, e)) = elim (parts_of count o i) [
        | inl j ↦ (walked.operations q).1 (inr (o, j, none, e))
        | inr j ↦
            let (k, lt, x) = part_id is_gone run from count o le j in
            absurd (true≢false (sym (known k lt) ∙ ap (λ y. has_operation old y) (sym x) ∙ none))
      ]
