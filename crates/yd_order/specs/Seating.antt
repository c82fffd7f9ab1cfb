-- Seats of rows: each row's position in a proposed order of all rows, from one on, and what lefts and rights ask of seats (own).
use Rattle.std.specs.Prelude.{◌≡◌, ◌<◌, ◌≤◌, ◌⊎◌, ℕ, suc, Bool, true, false, ◌||◌, ◌&&◌, List, Option, Some, None, IfSome, length, nat_eq, nat_lt, nat_le, slice_index}
use Rattle.yd_ids.specs.Ids.{is_smaller}
use Rattle.yd_order.specs.Linking.{id_at, left_at, right_at}
use Rattle.yd_order.specs.declared.linking.LinkedRow.{LinkedRow}

-- the seats that the first so many positions of an order give: to each row that they name the last of its positions, from
-- one on, and to each other row 0
pub record AreSeatsOf (order seats : List ℕ) (count : ℕ) : Type 0 where
  pub size : length seats ≡ length order
  pub named : (k : ℕ) → k < count → slice_index order k < length order → k < slice_index seats (slice_index order k)
  pub position : (at k : ℕ) → at < length order → slice_index seats at ≡ suc k → (k < count) × (slice_index order k ≡ at)

-- the row at a place has a seat where the order names it, and the order's row at that position has this seat
pub record IsSeated (order seats : List ℕ) (at : ℕ) : Type 0 where
  pub inside : slice_index order at < length order
  pub low : 0 < slice_index seats at
  pub high : slice_index seats at ≤ length order
  pub there : slice_index seats (slice_index order at) ≡ suc at
  pub back : (k : ℕ) → slice_index seats at ≡ suc k → slice_index order k ≡ at

-- the order has each row once, and the seats are their positions in it
pub record AreSeated (count : ℕ) (order seats : List ℕ) : Type 0 where
  pub order_size : length order ≡ count
  pub seats_size : length seats ≡ count
  pub each : (at : ℕ) → at < count → IsSeated order seats at

-- the seat of a left; an absent one has 0, which is in front of all
abbrev pub seat_of : List ℕ → Option ℕ → ℕ
seat_of seats None = 0
seat_of seats (Some at) = slice_index seats at

-- whether a right is there, and its seat is no later than another
abbrev pub is_passed : List ℕ → Option ℕ → ℕ → Bool
is_passed seats None seat = false
is_passed seats (Some at) seat = nat_le (slice_index seats at) seat

-- whether a left's seat is later than another left's, or they are one and the id is smaller
abbrev pub is_ahead : List LinkedRow → List ℕ → ℕ → ℕ → Bool
is_ahead rows seats a b =
    nat_lt (seat_of seats (left_at rows b)) (seat_of seats (left_at rows a))
    || (nat_eq (seat_of seats (left_at rows a)) (seat_of seats (left_at rows b)) && is_smaller (id_at rows a) (id_at rows b))

-- whether a row has a reason to stand in front of a later one whose left it does not reach
abbrev pub has_reason : List LinkedRow → List ℕ → ℕ → ℕ → Bool
has_reason rows seats a b = is_passed seats (right_at rows a) (slice_index seats b) || is_ahead rows seats a b

-- a row stands behind its left and in front of its right
pub record IsBetween (rows : List LinkedRow) (seats : List ℕ) (at : ℕ) : Type 0 where
  pub left : seat_of seats (left_at rows at) < slice_index seats at
  pub right : IfSome (right_at rows at) (λ r. slice_index seats at < slice_index seats r)

-- each row between a row's left and the row has its reason
abbrev pub HaveReasons : List LinkedRow → List ℕ → List ℕ → ℕ → Type 0
HaveReasons rows order seats at = (k : ℕ) → seat_of seats (left_at rows at) ≤ k → suc k < slice_index seats at →
    has_reason rows seats (slice_index order k) at ≡ true

-- whether the row at a position of the order stands directly behind its left, or first and has none
abbrev pub is_direct : List LinkedRow → List ℕ → List ℕ → ℕ → Bool
is_direct rows order seats position = nat_eq (seat_of seats (left_at rows (slice_index order position))) position

-- a position is the last one, no later than another, whose row does not stand directly behind its left, or there is none and
-- it is 0
pub record IsHead (rows : List LinkedRow) (order seats : List ℕ) (position head : ℕ) : Type 0 where
  pub up_to : head ≤ position
  pub apart : (head ≡ 0) ⊎ (is_direct rows order seats head ≡ false)
  pub direct : (k : ℕ) → head < k → k ≤ position → is_direct rows order seats k ≡ true

-- each position has a head
pub record AreHeads (rows : List LinkedRow) (order seats heads : List ℕ) : Type 0 where
  pub size : length heads ≡ length order
  pub each : (position : ℕ) → position < length order → IsHead rows order seats position (slice_index heads position)

-- a row stands as its left, its right and the rows in front of it ask
pub record Stands (rows : List LinkedRow) (order seats : List ℕ) (at : ℕ) : Type 0 where
  pub between : IsBetween rows seats at
  pub reasons : HaveReasons rows order seats at

-- all rows do
abbrev pub AllStand : List LinkedRow → List ℕ → List ℕ → Type 0
AllStand rows order seats = (at : ℕ) → at < length rows → Stands rows order seats at

-- the order has each row once, and all stand in it as their lefts and rights ask
pub record StandIn (rows : List LinkedRow) (order : List ℕ) : Type 0 where
  pub seats : List ℕ
  pub seated : AreSeated (length rows) order seats
  pub stand : AllStand rows order seats

-- all numbers are below this one
abbrev pub AllBelow : ℕ → List ℕ → Type 0
AllBelow count numbers = (k : ℕ) → k < length numbers → slice_index numbers k < count
