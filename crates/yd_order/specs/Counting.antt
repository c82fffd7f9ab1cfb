-- How many rows are before each (own).
use Rattle.std.specs.Prelude.{ℕ, List, map}
use Rattle.yd_ids.specs.declared.id.Id.{Id}
use Rattle.yd_origins.specs.Before.{is_before}
use Rattle.yd_origins.specs.Sorted.{count_before}
use Rattle.yd_origins.specs.Table.{OriginTable, ids_of}
use Rattle.yd_order.specs.Linking.{id_at, table_of_linked}
use Rattle.yd_order.specs.declared.counting.Rank.{Rank}
use Rattle.yd_order.specs.declared.linking.LinkedRow.{LinkedRow}

-- how many rows of the table are before the one with the id
abbrev pub count_in : OriginTable → Id → ℕ
count_in table x = count_before (is_before table) (ids_of table) x

-- how many rows are before the one at a place
unfoldable pub count_at : List LinkedRow → ℕ → ℕ
count_at rows at = count_in (table_of_linked rows) (id_at rows at)

-- an id with how many rows of the table are before its row
abbrev pub rank_in : OriginTable → Id → Rank
rank_in table x = record { count = count_in table x; id = x }

-- the ids of the rows with these counts
unfoldable pub ranks_of : List LinkedRow → List Rank
ranks_of rows = map (rank_in (table_of_linked rows)) (ids_of (table_of_linked rows))

-- the id of a rank
abbrev pub id_of_rank : Rank → Id
id_of_rank rank = rank.id
