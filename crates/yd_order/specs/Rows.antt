-- Rows in memory as rows of a table, in order of their ids.
use Rattle.std.specs.Prelude.{◌≡◌, ℕ, zero, suc, true, List, [], ◌∷◌, map, Option, Some, None, option_map, if◌then◌else◌}
use Rattle.yd_words.specs.Each.{Each}
use Rattle.yd_ids.specs.declared.id.Id.{Id}
use Rattle.yd_ids.specs.Ids.{is_same, is_smaller}
use Rattle.yd_origins.specs.Table.{Row, OriginTable}
use Rattle.yd_order.specs.declared.rows.OriginRow.{OriginRow}

-- a row in memory as a row of a table
abbrev pub row_of : OriginRow → Row
row_of row = record { id = row.id; left = row.left; right = row.right }

-- rows in memory as a table
abbrev pub table_of : List OriginRow → OriginTable
table_of rows = map row_of rows

-- the first row's id is smaller than the other's
abbrev pub IsBelow : OriginRow → OriginRow → Type 0
IsBelow row other = is_smaller row.id other.id ≡ true

-- each row's id is smaller than those behind it
abbrev pub AreAscending : List OriginRow → Type 0
AreAscending [] = Unit {0}
AreAscending (row ∷ rows) = Each (IsBelow row) rows × AreAscending rows

-- the place of the row with an id, if there is one
abbrev pub place_of : List OriginRow → Id → Option ℕ
place_of [] x = None
place_of (row ∷ rows) x = if is_same row.id x then Some zero else option_map suc (place_of rows x)

-- the place of a neighbour, if there is one and it is the id of a row
abbrev pub place_of_neighbour : List OriginRow → Option Id → Option ℕ
place_of_neighbour rows None = None
place_of_neighbour rows (Some x) = place_of rows x
