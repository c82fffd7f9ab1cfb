-- Numbers of names in an order of the names (own).
use Rattle.std.specs.Prelude.{◌≡◌, ◌<◌, ◌≤◌, ℕ, true, false, List, [], ◌∷◌, ◌++◌, Some, length, slice_get}
use Rattle.std.specs.declared.cmp.Ordering.{Ordering}
use Rattle.std.specs.declared.cmp.Ordering.TheVariants.{Equal}
use Rattle.std.specs.Ordering.{is_lt, is_gt}
use Rattle.yd_ops.specs.declared.lists.List.{List as DocList}
use Rattle.yd_names.specs.Items.{IsAt}

-- the name with a number is not behind the one with another
abbrev pub IsUpTo : (DocList → DocList → Ordering) → List DocList → ℕ → ℕ → Type 0
IsUpTo cmp names m n = (a b : DocList) → slice_get names m ≡ Some a → slice_get names n ≡ Some b → is_gt (cmp a b) ≡ false

-- the numbers are in the order of their names
abbrev pub IsInOrder : (DocList → DocList → Ordering) → List DocList → List ℕ → Type 0
IsInOrder cmp names crowd = (i j m n : ℕ) → i < j → slice_get crowd i ≡ Some m → slice_get crowd j ≡ Some n → IsUpTo cmp names m n

-- and there is a name with each
pub record IsCrowd (cmp : DocList → DocList → Ordering) (names : List DocList) (crowd : List ℕ) : Type 0 where
  pub inside : (n : ℕ) → IsAt crowd n → n < length names
  pub sorted : IsInOrder cmp names crowd

-- all that stand before a place are before a name, and the others are not
pub record IsPlace (cmp : DocList → DocList → Ordering) (names : List DocList) (crowd : List ℕ) (name : DocList) (place : ℕ) : Type 0 where
  pub within : place ≤ length crowd
  pub front : (i n : ℕ) (a : DocList) → i < place → slice_get crowd i ≡ Some n → slice_get names n ≡ Some a → is_lt (cmp a name) ≡ true
  pub rest : (i n : ℕ) (a : DocList) → place ≤ i → slice_get crowd i ≡ Some n → slice_get names n ≡ Some a → is_lt (cmp a name) ≡ false

-- the name with a number of the crowd is as another
pub record IsTied (cmp : DocList → DocList → Ordering) (names : List DocList) (crowd : List ℕ) (name : DocList) (number : ℕ) : Type 0 where
  pub at : IsAt crowd number
  pub list : DocList
  pub there : slice_get names number ≡ Some list
  pub tied : cmp list name ≡ Equal

-- with one name more, and its number
pub record IsJoined (cmp : DocList → DocList → Ordering) (names : List DocList) (name : DocList) (crowd more : List ℕ) : Type 0 where
  pub all : IsCrowd cmp (names ++ name ∷ []) more
  pub here : IsAt more (length names)
  pub others : (n : ℕ) → IsAt crowd n → IsAt more n
