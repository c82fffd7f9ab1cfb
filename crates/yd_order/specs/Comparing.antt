-- Which ids are before which: told by their places in a strict order, or by a table of pairs (own).
use Rattle.std.specs.Prelude.{◌≡◌, ◌↔◌, ◌*◌, ℕ, Bool, true, false, List, Some, length, nat_lt, slice_get}
use Rattle.yd_words.specs.Member.{IsIn}
use Rattle.yd_ids.specs.declared.id.Id.{Id}
use Rattle.yd_origins.specs.Before.{is_before}
use Rattle.yd_origins.specs.Table.{OriginTable, ids_of}
use Rattle.yd_order.specs.Filling.{cell_at}

-- whether the id at one place is before that at another, of so many: in a strict order it stands in front of it, and else the cell of
-- the two places says so
abbrev pub is_told_before : Bool → List Bool → ℕ → ℕ → ℕ → Bool
is_told_before true cells count a b = nat_lt a b
is_told_before false cells count a b = cell_at cells count a b

-- there are cells for all pairs, where the order is not strict
abbrev pub HasCells : Bool → List Bool → ℕ → Type 0
HasCells true cells count = Unit {0}
HasCells false cells count = length cells ≡ count * count

-- the ids are those of the rows, and each two are told as the table has them
pub record Compares (table : OriginTable) (ids : List Id) (is_strict : Bool) (cells : List Bool) : Type 0 where
  pub size : HasCells is_strict cells (length ids)
  pub members : (x : Id) → IsIn x ids ↔ IsIn x (ids_of table)
  pub before : (a b : ℕ) (x y : Id) → slice_get ids a ≡ Some x → slice_get ids b ≡ Some y → is_before table x y ≡ is_told_before is_strict cells (length ids) a b
