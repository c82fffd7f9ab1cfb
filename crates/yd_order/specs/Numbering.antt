-- Numbers of rows: each row has its number after its left and its right (own).
use Rattle.std.specs.Prelude.{◌≡◌, ◌≢◌, ◌↔◌, ◌<◌, ℕ, Bool, true, false, List, length, IfSome, slice_index, slice_index_or}
use Rattle.yd_order.specs.Linking.{left_at, right_at}
use Rattle.yd_order.specs.declared.linking.LinkedRow.{LinkedRow}

-- the row's place stands among the first so many of the order
abbrev pub IsEarlier : List ℕ → ℕ → ℕ → Type 0
IsEarlier order count at = (i : ℕ) × (i < count) × (slice_index order i ≡ at)

-- places of rows, none twice, and each behind the places of its row's left and right
pub record IsArranged (rows : List LinkedRow) (order : List ℕ) : Type 0 where
  pub inside : (i : ℕ) → i < length order → slice_index order i < length rows
  pub once : (i j : ℕ) → i < j → j < length order → slice_index order i ≢ slice_index order j
  pub left_earlier : (i : ℕ) → i < length order → IfSome (left_at rows (slice_index order i)) (IsEarlier order i)
  pub right_earlier : (i : ℕ) → i < length order → IfSome (right_at rows (slice_index order i)) (IsEarlier order i)

-- the places of all rows
pub record IsNumbering (rows : List LinkedRow) (order : List ℕ) : Type 0 where
  pub arranged : IsArranged rows order
  pub all : (at : ℕ) → at < length rows → IsEarlier order (length order) at

-- ---- step by step

-- the row at the place has a mark, which says that it has a number
abbrev pub IsMarked : List Bool → ℕ → Type 0
IsMarked marks at = slice_index_or marks at false ≡ true

-- the row's left and right have numbers, where they are there
pub record IsReady (rows : List LinkedRow) (marks : List Bool) (at : ℕ) : Type 0 where
  pub left : IfSome (left_at rows at) (IsMarked marks)
  pub right : IfSome (right_at rows at) (IsMarked marks)

-- an order of some rows, and marks at their places and nowhere else
pub record ArePartlyNumbered (rows : List LinkedRow) (marks : List Bool) (order : List ℕ) : Type 0 where
  pub arranged : IsArranged rows order
  pub size : length marks ≡ length rows
  pub marked : (i : ℕ) → i < length order → IsMarked marks (slice_index order i)
  pub numbered : (at : ℕ) → at < length rows → IsMarked marks at → IsEarlier order (length order) at

-- no mark is taken away
abbrev pub KeepsMarks : List Bool → List Bool → Type 0
KeepsMarks old new = (at : ℕ) → IsMarked old at → IsMarked new at

-- the first so many rows that were ready have numbers now, and it is said whether all of them have one
pub record NumbersReady (rows : List LinkedRow) (old new : List Bool) (order : List ℕ) (count : ℕ) (all : Bool) : Type 0 where
  pub numbered : ArePartlyNumbered rows new order
  pub keeps : KeepsMarks old new
  pub takes : (at : ℕ) → at < count → IsReady rows old at → IsMarked new at
  pub told : all ≡ true ↔ ((at : ℕ) → at < count → IsMarked new at)

-- the row at the place has a number now if it was ready, no other row has a new one, and it is said whether it has one
pub record Numbers (rows : List LinkedRow) (old new : List Bool) (order : List ℕ) (at : ℕ) (has : Bool) : Type 0 where
  pub numbered : ArePartlyNumbered rows new order
  pub keeps : KeepsMarks old new
  pub takes : IsReady rows old at → IsMarked new at
  pub others : (other : ℕ) → other ≢ at → IsMarked new other → IsMarked old other
  pub told : has ≡ true ↔ IsMarked new at
