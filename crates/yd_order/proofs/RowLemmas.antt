-- The rows of stretches, one after another.
use Rattle.std.proofs.Common.{◌≡◌, ℕ, suc, ◌+◌, ◌-◌, ◌<◌, List, [], ◌∷◌, ◌++◌, Option, Some, ap, ◌∙◌, append_assoc, arith}
use Rattle.std.proofs.lemmas.List.{map_push}
use Rattle.yd_ids.specs.declared.id.Id.{Id}
use Rattle.yd_ops.specs.Operation.{later_id}
use Rattle.yd_ops.proofs.OperationLemmas.{later_later}
use Rattle.yd_origins.specs.Table.{OriginTable}
use Rattle.yd_order.specs.declared.rows.OriginRow.{OriginRow}
use Rattle.yd_order.specs.Rows.{row_of, table_of}
use Rattle.yd_order.specs.Stretch.{rows_from}

-- where units are left, the rows are the next one and those behind it
pub rows_more : (id : Id) (left right : Option Id) (i n : ℕ) → i < n →
    rows_from (later_id id i) left right (n - i)
    ≡ record { id = later_id id i; left = left; right = right } ∷ rows_from (later_id id (i + 1)) (Some (later_id id i)) right (n - (i + 1))
rows_more id left right i n lt = ap (rows_from (later_id id i) left right) count
    ∙ ap (λ (next : Id). record { id = later_id id i; left = left; right = right } ∷ rows_from next (Some (later_id id i)) right (n - (i + 1))) (later_later id i 1)
  where
    count : n - i ≡ suc (n - (i + 1))
    count = omega arith

-- a pushed row is the first of those that are left
pub pushed_row : (rows : List OriginRow) (row : OriginRow) (rest : OriginTable) →
    table_of (rows ++ row ∷ []) ++ rest ≡ table_of rows ++ row_of row ∷ rest
pushed_row rows row rest = ap (λ (t : OriginTable). t ++ rest) (map_push row_of rows row) ∙ append_assoc (table_of rows) (row_of row ∷ []) rest
