-- Stretches as rows of a table of origins (own; Yjs 13, an item of several units).
use Rattle.std.specs.Prelude.{ℕ, zero, suc, ◌+◌, List, [], ◌∷◌, ◌++◌, Option, Some, None, if◌then◌else◌}
use Rattle.yd_ids.specs.declared.id.Id.{Id}
use Rattle.yd_ids.specs.Id.{IsClock}
use Rattle.yd_ids.specs.Ids.{has_id}
use Rattle.yd_ops.specs.Operation.{later_id}
use Rattle.yd_origins.specs.Table.{OriginTable, ids_of, right_of}
use Rattle.yd_origins.specs.Operations.{with_rights}
use Rattle.yd_order.specs.declared.stretch.Stretch.{Stretch}

-- the clock behind the last unit is below 2^53
abbrev pub EndsAtClock : Stretch → Type 0
EndsAtClock stretch = IsClock (stretch.id.clock + stretch.len)

-- so many units as rows, from an id on: each later one has the unit before it as its left
abbrev pub rows_from : Id → Option Id → Option Id → ℕ → OriginTable
rows_from id left right zero = []
rows_from id left right (suc count) = record { id = id; left = left; right = right } ∷ rows_from (later_id id 1) (Some id) right count

-- the units of a stretch as rows
abbrev pub rows_of_stretch : Stretch → OriginTable
rows_of_stretch stretch = rows_from stretch.id stretch.left stretch.right stretch.len

-- the units of stretches as rows, in their order
abbrev pub rows_of_stretches : List Stretch → OriginTable
rows_of_stretches [] = []
rows_of_stretches (stretch ∷ stretches) = rows_of_stretch stretch ++ rows_of_stretches stretches

-- a right that is the id of a row; another counts as absent
abbrev pub right_among : List Id → Option Id → Option Id
right_among ids None = None
right_among ids (Some r) = if has_id ids r then Some r else None

-- the rows, where a right that is not the id of a row counts as absent
abbrev pub among_rows : OriginTable → OriginTable
among_rows table = with_rights (λ x. right_among (ids_of table) (right_of table x)) table
