-- The list of a parent's own, which is looked for from the last of its lists on.
use Rattle.std.proofs.Common.{◌≢◌, ℕ, suc, ◌≤◌, List, Option, Some, None}
use Rattle.std.specs.Prelude.{slice_get}
use Rattle.yd_ops.specs.declared.lists.List.{List as DocList}
use Rattle.yd_ops.specs.declared.lists.Parent.{Parent}
use Rattle.yd_listing.specs.Listing.{own_name}

-- how many of the names are not looked at yet
abbrev pub left_of : Option ℕ → ℕ
left_of None = 0
left_of (Some n) = suc n

-- the parent's own list has no number from one on
abbrev pub HasNoOwn : List DocList → Parent → ℕ → Type 0
HasNoOwn names parent from = (n : ℕ) → from ≤ n → slice_get names n ≢ Some (own_name parent)
