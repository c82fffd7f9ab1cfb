-- What contracts see of a `Names` and an `ItemNames`: the names of lists, each under the number of its place (own).
use Rattle.std.specs.Prelude.{◌≡◌, ◌≢◌, ◌<◌, ◌⊎◌, ℕ, List, Option, Some, None, length, slice_get}
use Rattle.yd_ops.specs.declared.lists.List.{List as DocList}
use Rattle.yd_ops.specs.declared.lists.Parent.{Parent}
use Rattle.yd_names.specs.Coding.{code_of_list}
use Rattle.yd_names.specs.Crowds.{IsCrowd}
use Rattle.yd_names.specs.Items.{IsAt}
use Rattle.yd_names.specs.Order.{list_cmp}

-- each name is found by its code, or in the crowd
pub record AreCoded (names : List DocList) (codes crowd : List ℕ) : Type 0 where
  pub each : length codes ≡ length names
  pub found : (n : ℕ) (name : DocList) → slice_get names n ≡ Some name → (slice_get codes n ≡ Some (code_of_list name)) ⊎ IsAt crowd n
  pub in_order : IsCrowd list_cmp names crowd

-- the list with a number is one of the parent's
pub record IsOf (names : List DocList) (parent : Parent) (number : ℕ) : Type 0 where
  pub list : DocList
  pub there : slice_get names number ≡ Some list
  pub own : list.parent ≡ parent

-- where a search begins: before a number, or at the end
abbrev pub top_of : List DocList → Option ℕ → ℕ
top_of names None = length names
top_of names (Some number) = number

-- no list of the parent has a number behind one and below another
abbrev pub HasNone : List DocList → Parent → ℕ → ℕ → Type 0
HasNone names parent from top = (n : ℕ) (list : DocList) → from < n → n < top → slice_get names n ≡ Some list → list.parent ≢ parent

-- the last of the parent's lists with a number below another
abbrev pub IsLastOf : List DocList → Parent → ℕ → Option ℕ → Type 0
IsLastOf names parent top None = (n : ℕ) (list : DocList) → n < top → slice_get names n ≡ Some list → list.parent ≢ parent
IsLastOf names parent top (Some number) = IsOf names parent number × (number < top) × HasNone names parent number top
