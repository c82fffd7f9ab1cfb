-- The rows of units that were taken are those of their stretches, where they are not gone.
use Rattle.std.proofs.Common.{◌≡◌, Bool, true, false, List, [], ◌∷◌, ◌++◌, Option, Some, None, take, drop, length, map, refl, ap, ap₂, ◌∙◌, true≢false}
use Rattle.std.specs.Prelude.{slice_get}
use Rattle.yd_words.specs.Each.{Each}
use Rattle.yd_ids.specs.declared.id.Id.{Id}
use Rattle.yd_ops.specs.declared.lists.List.{List as DocList}
use Rattle.yd_ops.specs.declared.runs.Run.{Run}
use Rattle.yd_ops.specs.Operation.{UnitContent, Operation, later_id, operations_from}
use Rattle.yd_origins.specs.Table.{OriginTable}
use Rattle.yd_meaning.specs.Order.{row_of, rows_of}
use Rattle.yd_order.specs.Stretch.{EndsAtClock, rows_from, rows_of_stretch, rows_of_stretches}
use Rattle.yd_entries.specs.declared.entry.Entry.{Entry}
use Rattle.yd_entries.specs.Entries.{units_of, list_at, operations_told, operations_of_taken, operations_in, IsTakenOf, TellsRight}
use Rattle.yd_entries.proofs.TakenLemmas.{units_taken}
use Rattle.yd_stretches.specs.Stretches.{stretch_of}

-- units of a run that were taken: they are not gone
pub record IsOfRun (runs : List Run) (t : Entry) : Type 0 where
  pub taken : IsTakenOf runs t
  pub told : t.is_gone ≡ false

rows_of-append : (xs ys : List Operation) → rows_of (xs ++ ys) ≡ rows_of xs ++ rows_of ys
rows_of-append [] ys = refl
rows_of-append (x ∷ xs) ys = ap (λ (rows : OriginTable). row_of x ∷ rows) (rows_of-append xs ys)

rows_of-from : (id : Id) (left right : Option Id) (list : Option DocList) (units : List UnitContent) →
    rows_of (operations_from id left right list units) ≡ rows_from id left right (length units)
rows_of-from id left right list [] = refl
rows_of-from id left right list (unit ∷ units) = ap (λ (rows : OriginTable). record { id = id; left = left; right = right } ∷ rows)
    (rows_of-from (later_id id 1) (Some id) right None units)

-- ---- lemmas for callers

pub rows_of-taken : (runs : List Run) (t : Entry) → IsOfRun runs t → rows_of (operations_of_taken runs t) ≡ rows_of_stretch (stretch_of t)
rows_of-taken runs t are = go t.is_gone are.told are.taken.told
  where
    go : (b : Bool) → b ≡ false → TellsRight b runs t → rows_of (operations_told b runs t) ≡ rows_of_stretch (stretch_of t)
    go true e untold = absurd (true≢false e)
    go false e told = rows_of-from t.id t.left t.right (list_at (slice_get runs t.run) t.offset) (take t.len (drop t.offset (units_of (slice_get runs t.run))))
        ∙ ap (rows_from t.id t.left t.right) (units_taken runs t told)

pub rows_of-operations : (runs : List Run) (ts : List Entry) → Each (IsOfRun runs) ts → rows_of (operations_in runs ts) ≡ rows_of_stretches (map stretch_of ts)
rows_of-operations runs [] each = refl
rows_of-operations runs (t ∷ ts) each = rows_of-append (operations_of_taken runs t) (operations_in runs ts)
    ∙ ap₂ (λ (xs ys : OriginTable). xs ++ ys) (rows_of-taken runs t each.0) (rows_of-operations runs ts each.1)

-- stretches of what was taken end at a clock
pub stretches_end : (runs : List Run) (ts : List Entry) → Each (IsTakenOf runs) ts → Each EndsAtClock (map stretch_of ts)
stretches_end runs [] each = tt
stretches_end runs (t ∷ ts) each = (each.0.end, stretches_end runs ts each.1)
