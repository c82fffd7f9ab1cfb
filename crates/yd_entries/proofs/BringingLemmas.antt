-- A run of which nothing is new, or something; and what is added beside its kept copy.
use Rattle.std.proofs.Common.{◌≡◌, ◌↔◌, ℕ, zero, suc, ◌+◌, ◌<◌, ◌≤◌, Bool, true, false, List, [], ◌∷◌, ◌++◌, length, ◌⊎◌, Option, Some, None, inl, inr, refl, sym, ap, ◌∙◌, subst, arith}
use Rattle.std.specs.Prelude.{slice_get}
use Rattle.std.proofs.lemmas.Bool.{true≢false}
use Rattle.std.proofs.lemmas.List.{take_all}
use Rattle.yd_words.specs.Member.{IsIn}
use Rattle.yd_ids.specs.declared.id.Id.{Id}
use Rattle.yd_ops.specs.declared.lists.List.{List as DocList}
use Rattle.yd_ops.specs.declared.runs.Run.{Run}
use Rattle.yd_ops.specs.Operation.{UnitContent, Operation, later_id, gone_operation, gone_from, units_of_content, operations_from}
use Rattle.yd_ops.specs.Value.{RunValue, len_of}
use Rattle.yd_ops.specs.View.{run_value}
use Rattle.yd_ops.proofs.OperationLemmas.{length-units_of_content, later_none, later_later}
use Rattle.yd_ops.specs.Received.{has_operation}
use Rattle.yd_ops.specs.ReceivedLaw.{ArePaired}
use Rattle.yd_entries.specs.declared.entry.Entry.{Entry}
use Rattle.yd_entries.specs.Entries.{AreTaken, operations_in, GrowBy}
use Rattle.yd_entries.specs.Taking.{is_covered, AreCovered, IsKept, operations_from_run, IsAdded, AddsGroup, AddsOne}
use Rattle.yd_entries.proofs.PieceLemmas.{part_id}
use Rattle.yd_entries.proofs.StepLemmas.{length-operations, walk_known, walk_ends}
use Rattle.yd_entries.proofs.TakenLemmas.{has_covered, grown_each, grown_in}
use Rattle.yd_entries.proofs.UnitLemmas.{later_same}

-- ---- a run that is kept

pub kept_last : (runs new : List Run) (kept : Run) (run : RunValue) (at : ℕ) → new ≡ runs ++ kept ∷ [] → at ≡ length runs → run_value kept ≡ run → IsKept new at run
kept_last runs new kept run at grown last same = record {
  kept = kept;
  there = ap (λ n. slice_get new n) last ∙ ap (λ rs. slice_get rs (length runs)) grown ∙ go runs;
  same = same;
}
  where
    go : (rs : List Run) → slice_get (rs ++ kept ∷ []) (length rs) ≡ Some kept
    go [] = refl
    go (r ∷ rs) = go rs

pub grown_are : (runs new : List Run) (ts : List Entry) → GrowBy runs new → AreTaken runs ts → AreTaken new ts
grown_are runs new ts grows are = record {
  each = grown_each runs new ts grows are.each;
  in_order = are.in_order;
  paired = subst ArePaired (sym (grown_in runs new ts grows are.each)) are.paired;
}

-- what is added beside more runs is added
pub adds_behind : (runs mid new : List Run) (old taken : List Entry) (group : List Operation) → GrowBy runs mid → AreTaken runs old →
    AddsGroup mid old new taken group → AddsGroup runs old new taken group
adds_behind runs mid new old taken group grows are adds = record {
  operations = λ q. subst (λ ps. IsIn q (operations_in new taken) ↔ (IsIn q ps ⊎ IsAdded group ps group q)) (grown_in runs mid old grows are.each) (adds.operations q);
  each = adds.each;
  in_order = adds.in_order;
}

-- ---- a run of which nothing is new, or something

module _ (is_gone : Bool) (runs : List Run) (taken : List Entry) (run : RunValue) (are : AreTaken runs taken) (known : ℕ) (covered : AreCovered taken run.id known) where
  pub known_adds : len_of run.content ≤ known → known ≤ len_of run.content → AddsGroup runs taken runs taken (operations_from_run is_gone run)
  known_adds all le = walk_ends is_gone run runs taken runs taken known (walk_known is_gone run runs taken known are le covered) all

  pub known_adds_none : len_of run.content ≤ known → AddsOne (operations_from_run is_gone run) (operations_in runs taken) → ⊥
  known_adds_none all (o, i, none) =
      let (k, lt, e) = part_id is_gone run 0 (len_of run.content) o (omega arith)
      (subst (IsIn o) (sym (take_all (len_of run.content) (operations_from_run is_gone run) (omega (arith, length-operations is_gone run)))) i) in
      true≢false (sym (has_covered runs taken (later_id run.id k) are.each ∙ covered k (omega arith))
      ∙ ap (λ x. has_operation (operations_in runs taken) x) (later_same run.id k (0 + k) (omega arith) ∙ sym e) ∙ none)

unit_there : (id : Id) (left right : Option Id) (list : Option DocList) (units : List UnitContent) (n : ℕ) → n < length units →
    (o : Operation) × IsIn o (operations_from id left right list units) × (o.id ≡ later_id id n)
unit_there id left right list [] n lt = absurd (omega arith)
unit_there id left right list (unit ∷ units) zero lt = (record { id = id; left_origin = left; right_origin = right; list = list; content = unit }, inl refl, sym (later_none id))
unit_there id left right list (unit ∷ units) (suc n) lt =
    let (o, i, e) = unit_there (later_id id 1) (Some id) right None units n (omega arith) in
    (o, inr i, e ∙ later_later id 1 n ∙ later_same id (1 + n) (suc n) (omega arith))

gone_there : (id : Id) (count n : ℕ) → n < count → (o : Operation) × IsIn o (gone_from id count) × (o.id ≡ later_id id n)
gone_there id zero n lt = absurd (omega arith)
gone_there id (suc count) zero lt = (gone_operation id, inl refl, sym (later_none id))
gone_there id (suc count) (suc n) lt =
    let (o, i, e) = gone_there (later_id id 1) count n (omega arith) in
    (o, inr i, e ∙ later_later id 1 n ∙ later_same id (1 + n) (suc n) (omega arith))

-- the operation of each id of a run
pub run_there : (is_gone : Bool) (run : RunValue) (n : ℕ) → n < len_of run.content → (o : Operation) × IsIn o (operations_from_run is_gone run) × (o.id ≡ later_id run.id n)
run_there true run n lt = gone_there run.id (len_of run.content) n lt
run_there false run n lt = unit_there run.id run.left run.right run.list (units_of_content run.content) n (omega (arith, length-units_of_content run.content))

pub new_adds : (is_gone : Bool) (runs : List Run) (taken : List Entry) (run : RunValue) (n : ℕ) → AreTaken runs taken → n < len_of run.content →
    is_covered taken (later_id run.id n) ≡ false →
    AddsOne (operations_from_run is_gone run) (operations_in runs taken)
new_adds is_gone runs taken run n are lt free =
    let (o, i, e) = run_there is_gone run n lt in
    (o, i, has_covered runs taken o.id are.each ∙ ap (λ x. is_covered taken x) e ∙ free)
