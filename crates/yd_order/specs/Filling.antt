-- The table of pairs: whether the row at one place is before the row at another, for all pairs of rows (own).
use Rattle.std.specs.Prelude.{◌≡◌, ◌≢◌, ◌<◌, ◌⊎◌, ℕ, ◌+◌, ◌*◌, Bool, true, false, ◌||◌, List, Option, Some, None, IfSome, length, nat_eq, slice_index, slice_index_or}
use Rattle.yd_origins.specs.Before.{is_before}
use Rattle.yd_order.specs.Linking.{id_at, left_at, right_at, table_of_linked}
use Rattle.yd_order.specs.declared.linking.LinkedRow.{LinkedRow}

-- whether the row at one place is before that at another
unfoldable pub is_before_at : List LinkedRow → ℕ → ℕ → Bool
is_before_at rows a b = is_before (table_of_linked rows) (id_at rows a) (id_at rows b)

-- what the cell of two places says, where there are so many rows
abbrev pub cell_at : List Bool → ℕ → ℕ → ℕ → Bool
cell_at cells count a b = slice_index_or cells (a * count + b) false

-- the cell of two places says whether the row at the first is before that at the second
abbrev pub IsFilled : List LinkedRow → List Bool → ℕ → ℕ → Type 0
IsFilled rows cells a b = cell_at cells (length rows) a b ≡ is_before_at rows a b

-- the cells of all pairs do
abbrev pub AreFilled : List LinkedRow → List Bool → Type 0
AreFilled rows cells = (a b : ℕ) → a < length rows → b < length rows → IsFilled rows cells a b

-- ---- the lines over cells

-- whether two places are one, or the row at the first is before that at the second
abbrev pub reaches_place : List Bool → ℕ → ℕ → ℕ → Bool
reaches_place cells count a b = nat_eq a b || cell_at cells count a b

-- whether there is a left, and the row at the place is up to it
abbrev pub reaches_left : List Bool → ℕ → ℕ → Option ℕ → Bool
reaches_left cells count a None = false
reaches_left cells count a (Some p) = reaches_place cells count a p

-- whether there is a right, and it is up to the row at the place
abbrev pub right_reaches : List Bool → ℕ → Option ℕ → ℕ → Bool
right_reaches cells count None b = false
right_reaches cells count (Some r) b = reaches_place cells count r b

-- whether both links are absent, or both are there and one
abbrev pub is_same_link : Option ℕ → Option ℕ → Bool
is_same_link None None = true
is_same_link None (Some b) = false
is_same_link (Some a) None = false
is_same_link (Some a) (Some b) = nat_eq a b

-- whether the first left is there, and the second is absent or before it
abbrev pub is_later_link : List Bool → ℕ → Option ℕ → Option ℕ → Bool
is_later_link cells count None other = false
is_later_link cells count (Some p) None = true
is_later_link cells count (Some p) (Some q) = cell_at cells count q p

-- ---- step by step

-- what the lines ask of two places is filled
pub record IsAsked (rows : List LinkedRow) (cells : List Bool) (a b : ℕ) : Type 0 where
  pub to_left : IfSome (left_at rows b) (λ p. IsFilled rows cells a p)
  pub to_left_back : IfSome (left_at rows a) (λ p. IsFilled rows cells b p)
  pub from_right : IfSome (right_at rows a) (λ r. IsFilled rows cells r b)
  pub from_right_back : IfSome (right_at rows b) (λ r. IsFilled rows cells r a)
  pub lefts : IfSome (left_at rows b) (λ q. IfSome (left_at rows a) (λ p. IsFilled rows cells q p))

-- two places are filled, and no other cell has changed
pub record FillsPair (rows : List LinkedRow) (old new : List Bool) (a b : ℕ) : Type 0 where
  pub one : IsFilled rows new a b
  pub back : IsFilled rows new b a
  pub size : length new ≡ length old
  pub others : (c d : ℕ) → c < length rows → d < length rows → (c ≢ a) × (d ≢ a) ⊎ (c ≢ b) × (d ≢ b) →
      cell_at new (length rows) c d ≡ cell_at old (length rows) c d

-- the pairs of the first so many rows of the order are filled, and those of a row with itself
pub record AreFilledBelow (rows : List LinkedRow) (order : List ℕ) (cells : List Bool) (count : ℕ) : Type 0 where
  pub size : length cells ≡ length rows * length rows
  pub itself : (a : ℕ) → a < length rows → IsFilled rows cells a a
  pub pairs : (i j : ℕ) → i < count → j < count → IsFilled rows cells (slice_index order i) (slice_index order j)
