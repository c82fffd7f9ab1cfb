-- The operations of a run, by their places.
use Rattle.std.proofs.Common.{◌≡◌, ℕ, zero, suc, ◌+◌, List, [], ◌∷◌, Option, Some, None, length, refl, ap, ◌∙◌, arith, add-one}
use Rattle.std.specs.Prelude.{slice_get}
use Rattle.std.proofs.lemmas.List.{length-map}
use Rattle.yd_any.specs.Tree.{AnyTrees, no_trees, tree}
use Rattle.yd_ids.specs.declared.id.Id.{Id}
use Rattle.yd_ops.specs.declared.lists.List.{List as DocList}
use Rattle.yd_ops.specs.Value.{ContentValue, json, binary, string, embed, format, nested, any, deleted, count_of, len_of, RunValue}
use Rattle.yd_ops.specs.Operation.{UnitContent, json_unit, text_unit, units_of_trees, deleted_units, units_of_content, later_id, operations_from, operations_of_run}
use Rattle.yd_ops.specs.Law.{first_operation, later_operation}

length-units_of_trees : (ts : AnyTrees) → length (units_of_trees ts) ≡ count_of ts
length-units_of_trees no_trees = refl
length-units_of_trees (tree t ts) = ap suc (length-units_of_trees ts)

length-deleted_units : (count : ℕ) → length (deleted_units count) ≡ count
length-deleted_units zero = refl
length-deleted_units (suc count) = ap suc (length-deleted_units count)

pub length-units_of_content : (content : ContentValue) → length (units_of_content content) ≡ len_of content
length-units_of_content (json values) = length-map values json_unit
length-units_of_content (binary bytes) = refl
length-units_of_content (string units) = length-map units text_unit
length-units_of_content (embed t) = refl
length-units_of_content (format key t) = refl
length-units_of_content (nested kind) = refl
length-units_of_content (any ts) = length-units_of_trees ts
length-units_of_content (deleted count) = length-deleted_units count

pub length-operations_from : (id : Id) (left right : Option Id) (list : Option DocList) (units : List UnitContent) → length (operations_from id left right list units) ≡ length units
length-operations_from id left right list [] = refl
length-operations_from id left right list (unit ∷ units) = ap suc (length-operations_from (later_id id 1) (Some id) right None units)

pub length-operations_of_run : (run : RunValue) → length (operations_of_run run) ≡ len_of run.content
length-operations_of_run run = length-operations_from run.id run.left run.right run.list (units_of_content run.content) ∙ length-units_of_content run.content

first_of : (id : Id) (left right : Option Id) (list : Option DocList) (units : List UnitContent) (unit : UnitContent) → slice_get units 0 ≡ Some unit
    → slice_get (operations_from id left right list units) 0 ≡ Some (record { id = id; left_origin = left; right_origin = right; list = list; content = unit })
first_of id left right list [] unit h = absurd cc
first_of id left right list (first ∷ units) unit h = cc

-- the id of a unit behind another, whose place is counted from a first one
pub later_later : (id : Id) (i k : ℕ) → later_id (later_id id i) k ≡ later_id id (i + k)
later_later id i k = ap (λ (c : ℕ). record { client = id.client; clock = c }) (omega arith)

pub later_none : (id : Id) → later_id id 0 ≡ id
later_none id = ap (λ (c : ℕ). record { client = id.client; clock = c }) (omega arith)

next_later : (id : Id) (i : ℕ) → later_id (later_id id 1) i ≡ later_id id (suc i)
next_later id i = later_later id 1 i ∙ ap (later_id id) (omega arith)

later_of : (id : Id) (left right : Option Id) (list : Option DocList) (units : List UnitContent) (i : ℕ) (unit : UnitContent) → slice_get units (suc i) ≡ Some unit
    → slice_get (operations_from id left right list units) (suc i) ≡ Some (record { id = later_id id (suc i); left_origin = Some (later_id id i); right_origin = right; list = None; content = unit })
later_of id left right list [] i unit h = absurd cc
later_of id left right list (first ∷ units) zero unit h = first_of (later_id id 1) (Some id) right None units unit h ∙ rw (later_none id) refl
later_of id left right list (first ∷ units) (suc i) unit h = later_of (later_id id 1) (Some id) right None units i unit h ∙ rw (next_later id (suc i), next_later id i) refl

pub first_at : (run : RunValue) (unit : UnitContent) → slice_get (units_of_content run.content) 0 ≡ Some unit → slice_get (operations_of_run run) 0 ≡ Some (first_operation run unit)
first_at run unit h = first_of run.id run.left run.right run.list (units_of_content run.content) unit h

pub later_at : (run : RunValue) (i : ℕ) (unit : UnitContent) → slice_get (units_of_content run.content) (i + 1) ≡ Some unit → slice_get (operations_of_run run) (i + 1) ≡ Some (later_operation run i unit)
later_at run i unit h = rw add-one (later_of run.id run.left run.right run.list (units_of_content run.content) i unit (rw add-one at h))
