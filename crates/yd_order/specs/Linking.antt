-- Linked rows: a row whose left and right are told by their places among the rows (own).
use Rattle.std.specs.Prelude.{◌<◌, ℕ, zero, suc, List, [], ◌∷◌, map, Option, Some, None, IfSome, length}
use Rattle.yd_words.specs.Each.{Each}
use Rattle.yd_ids.specs.declared.id.Id.{Id}
use Rattle.yd_origins.specs.Table.{Row, OriginTable}
use Rattle.yd_order.specs.Rows.{place_of_neighbour}
use Rattle.yd_order.specs.declared.rows.OriginRow.{OriginRow}
use Rattle.yd_order.specs.declared.linking.LinkedRow.{LinkedRow}

-- a row with the places of its left and right
abbrev pub linked_row : List OriginRow → OriginRow → LinkedRow
linked_row rows row = record { id = row.id; left = place_of_neighbour rows row.left; right = place_of_neighbour rows row.right }

-- the id of the row at a place; past the end, which is never asked, the id of two zeros
abbrev pub id_at : List LinkedRow → ℕ → Id
id_at [] at = record { client = record { 0 = 0 }; clock = 0 }
id_at (row ∷ rows) zero = row.id
id_at (row ∷ rows) (suc at) = id_at rows at

-- the place of the left of the row at a place
abbrev pub left_at : List LinkedRow → ℕ → Option ℕ
left_at [] at = None
left_at (row ∷ rows) zero = row.left
left_at (row ∷ rows) (suc at) = left_at rows at

-- the place of the right of the row at a place
abbrev pub right_at : List LinkedRow → ℕ → Option ℕ
right_at [] at = None
right_at (row ∷ rows) zero = row.right
right_at (row ∷ rows) (suc at) = right_at rows at

-- the id at the end of a link
abbrev pub id_of_link : List LinkedRow → Option ℕ → Option Id
id_of_link rows None = None
id_of_link rows (Some at) = Some (id_at rows at)

-- one of the rows as a row of a table
abbrev pub unlinked : List LinkedRow → LinkedRow → Row
unlinked rows row = record { id = row.id; left = id_of_link rows row.left; right = id_of_link rows row.right }

-- linked rows as a table
abbrev pub table_of_linked : List LinkedRow → OriginTable
table_of_linked rows = map (unlinked rows) rows

-- the links of a row lead to rows
pub record HasLinks (count : ℕ) (row : LinkedRow) : Type 0 where
  pub left : IfSome row.left (λ at. at < count)
  pub right : IfSome row.right (λ at. at < count)

-- all links lead to rows
abbrev pub AreLinked : List LinkedRow → Type 0
AreLinked rows = Each (HasLinks (length rows)) rows
