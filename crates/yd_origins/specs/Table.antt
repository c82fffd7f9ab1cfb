-- Tables of origins: rows with a left and a right each, where the laws of the order are stated (own).
use Rattle.std.specs.Prelude.{◌<◌, ℕ, List, [], ◌∷◌, Option, None, IfSome, if◌then◌else◌}
use Rattle.yd_words.specs.Member.{IsIn, AreDistinct}
use Rattle.yd_ids.specs.declared.id.Id.{Id}
use Rattle.yd_ids.specs.Ids.{is_same}

-- a row: an id, and what stood on its left and on its right when it was made, where something did
pub record Row : Type 0 where
  pub id : Id
  pub left : Option Id
  pub right : Option Id

-- rows in any arrangement
abbrev pub OriginTable : Type 0
OriginTable = List Row

-- the ids of the rows
abbrev pub ids_of : OriginTable → List Id
ids_of [] = []
ids_of (row ∷ rows) = row.id ∷ ids_of rows

-- the left of the row with an id
abbrev pub left_of : OriginTable → Id → Option Id
left_of [] x = None
left_of (row ∷ rows) x = if is_same row.id x then row.left else left_of rows x

-- the right of the row with an id
abbrev pub right_of : OriginTable → Id → Option Id
right_of [] x = None
right_of (row ∷ rows) x = if is_same row.id x then row.right else right_of rows x

-- following lefts and rights always ends: a height falls at each step
pub record Ends (table : OriginTable) : Type 0 where
  pub height : Id → ℕ
  pub falls_left : (x : Id) → IsIn x (ids_of table) → IfSome (left_of table x) (λ y. height y < height x)
  pub falls_right : (x : Id) → IsIn x (ids_of table) → IfSome (right_of table x) (λ y. height y < height x)

-- the ids differ, each left and right is the id of a row, and following them always ends
pub record IsTable (table : OriginTable) : Type 0 where
  pub distinct : AreDistinct (ids_of table)
  pub has_left : (x : Id) → IsIn x (ids_of table) → IfSome (left_of table x) (λ y. IsIn y (ids_of table))
  pub has_right : (x : Id) → IsIn x (ids_of table) → IfSome (right_of table x) (λ y. IsIn y (ids_of table))
  pub ends : Ends table

-- some rows of a table, each once, with the lefts and the rights that they have
pub record IsPart (part table : OriginTable) : Type 0 where
  pub within : (row : Row) → IsIn row part → IsIn row table
  pub distinct : AreDistinct (ids_of part)
  pub has_left : (x : Id) → IsIn x (ids_of part) → IfSome (left_of part x) (λ y. IsIn y (ids_of part))
  pub has_right : (x : Id) → IsIn x (ids_of part) → IfSome (right_of part x) (λ y. IsIn y (ids_of part))
