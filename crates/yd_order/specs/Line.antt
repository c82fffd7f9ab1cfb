-- Rows in a line: each has a seat, a number, and stands where its left and its right ask (own).
use Rattle.std.specs.Prelude.{◌≡◌, ◌<◌, ◌≤◌, ◌⊎◌, ℕ, true, Option, None, Some}
use Rattle.yd_words.specs.Member.{IsIn}
use Rattle.yd_ids.specs.declared.id.Id.{Id}
use Rattle.yd_ids.specs.Ids.{is_smaller}
use Rattle.yd_origins.specs.Table.{OriginTable, ids_of, left_of, right_of}

-- the seat of a neighbour, and the given number where it is absent
abbrev pub seat_or : (Id → ℕ) → ℕ → Option Id → ℕ
seat_or seat default None = default
seat_or seat default (Some x) = seat x

-- why a row stands in front of another: it is up to the other's left, its right is up to the other, its left stands
-- later than the other's, or both have one left, or none, and its id is smaller
abbrev pub HasReason : OriginTable → (Id → ℕ) → ℕ → Id → Id → Type 0
HasReason table seat end x y =
    (seat x ≤ seat_or seat 0 (left_of table y))
    ⊎ ((seat_or seat end (right_of table x) ≤ seat y)
    ⊎ ((seat_or seat 0 (left_of table y) < seat_or seat 0 (left_of table x))
    ⊎ ((seat_or seat 0 (left_of table x) ≡ seat_or seat 0 (left_of table y)) × (is_smaller x y ≡ true))))

-- the seats lie strictly between 0 and the end, no two rows have one, each row stands behind its left and in front of its
-- right, and where one stands in front of another it has a reason
pub record AreInLine (table : OriginTable) (seat : Id → ℕ) (end : ℕ) : Type 0 where
  pub some : 0 < end
  pub low : (x : Id) → IsIn x (ids_of table) → 0 < seat x
  pub high : (x : Id) → IsIn x (ids_of table) → seat x < end
  pub one : (x y : Id) → IsIn x (ids_of table) → IsIn y (ids_of table) → seat x ≡ seat y → x ≡ y
  pub behind_left : (x : Id) → IsIn x (ids_of table) → seat_or seat 0 (left_of table x) < seat x
  pub before_right : (x : Id) → IsIn x (ids_of table) → seat x < seat_or seat end (right_of table x)
  pub reason : (x y : Id) → IsIn x (ids_of table) → IsIn y (ids_of table) → seat x < seat y → HasReason table seat end x y
