-- The rows of runs' operations are those of their stretches.
use Rattle.std.proofs.Common.{◌≡◌, List, [], ◌∷◌, ◌++◌, map, length, Option, Some, None, refl, ap, ap₂, ◌∙◌}
use Rattle.yd_words.specs.Each.{Each}
use Rattle.yd_ids.specs.declared.id.Id.{Id}
use Rattle.yd_meaning.specs.Order.{row_of, rows_of}
use Rattle.yd_ops.specs.declared.lists.List.{List as DocList}
use Rattle.yd_ops.specs.Operation.{UnitContent, Operation, units_of_content, later_id, operations_from, operations_of_run}
use Rattle.yd_ops.specs.Value.{RunValue}
use Rattle.yd_ops.proofs.OperationLemmas.{length-units_of_content}
use Rattle.yd_origins.specs.Table.{OriginTable}
use Rattle.yd_order.specs.Runs.{operations_of_runs, RunEndsAtClock, stretch_of}
use Rattle.yd_order.specs.Stretch.{EndsAtClock, rows_from, rows_of_stretch, rows_of_stretches}

rows_append : (os ps : List Operation) → rows_of (os ++ ps) ≡ rows_of os ++ rows_of ps
rows_append [] ps = refl
rows_append (o ∷ os) ps = ap (λ (rows : OriginTable). row_of o ∷ rows) (rows_append os ps)

rows_of_units : (id : Id) (left right : Option Id) (list : Option DocList) (units : List UnitContent) →
    rows_of (operations_from id left right list units) ≡ rows_from id left right (length units)
rows_of_units id left right list [] = refl
rows_of_units id left right list (unit ∷ units) = ap (λ (rows : OriginTable). record { id = id; left = left; right = right } ∷ rows)
    (rows_of_units (later_id id 1) (Some id) right None units)

rows_of_run : (run : RunValue) → rows_of (operations_of_run run) ≡ rows_of_stretch (stretch_of run)
rows_of_run run = rows_of_units run.id run.left run.right run.list (units_of_content run.content)
    ∙ ap (rows_from run.id run.left run.right) (length-units_of_content run.content)

-- the stretches of runs have the rows of their operations
pub rows_of_runs : (runs : List RunValue) → rows_of (operations_of_runs runs) ≡ rows_of_stretches (map stretch_of runs)
rows_of_runs [] = refl
rows_of_runs (run ∷ runs) = rows_append (operations_of_run run) (operations_of_runs runs)
    ∙ ap₂ (λ (rows rest : OriginTable). rows ++ rest) (rows_of_run run) (rows_of_runs runs)

-- and end where they do
pub stretches_end : (runs : List RunValue) → Each RunEndsAtClock runs → Each EndsAtClock (map stretch_of runs)
stretches_end [] e = tt
stretches_end (run ∷ runs) e = (e.0, stretches_end runs e.1)
