-- Lists by their parents: the lists of one parent are one group, which is found by a code or in a crowd (own).
use Rattle.std.specs.Prelude.{◌≡◌, ◌≤◌, ◌⊎◌, ℕ, List, Some, length, slice_get}
use Rattle.yd_ops.specs.declared.lists.List.{List as DocList}
use Rattle.yd_names.specs.Coding.{code_of_parent}
use Rattle.yd_names.specs.Crowds.{IsCrowd}
use Rattle.yd_names.specs.Groups.{GroupTable}
use Rattle.yd_names.specs.Items.{IsAt}
use Rattle.yd_names.specs.Order.{own_cmp}

-- a list of the group stands in the crowd, and not behind another
pub record HasFirst (numbers crowd : List ℕ) (top number : ℕ) : Type 0 where
  pub first : ℕ
  pub at : IsAt crowd first
  pub upto : first ≤ top
  pub same : slice_get numbers first ≡ Some number

-- the lists of one parent are one group, which is found by the code of the parent, or in the crowd
pub record AreOwned (names : List DocList) (groups : GroupTable) (crowd : List ℕ) : Type 0 where
  pub each : length groups.numbers ≡ length names
  pub one_group : (m n : ℕ) (a b : DocList) → slice_get names m ≡ Some a → slice_get names n ≡ Some b → a.parent ≡ b.parent → slice_get groups.numbers m ≡ slice_get groups.numbers n
  pub one_parent : (m n : ℕ) (a b : DocList) → slice_get names m ≡ Some a → slice_get names n ≡ Some b → slice_get groups.numbers m ≡ slice_get groups.numbers n → a.parent ≡ b.parent
  pub found : (n number : ℕ) (list : DocList) → slice_get names n ≡ Some list → slice_get groups.numbers n ≡ Some number →
      (slice_get groups.codes number ≡ Some (code_of_parent list.parent)) ⊎ HasFirst groups.numbers crowd n number
  pub in_order : IsCrowd own_cmp names crowd
