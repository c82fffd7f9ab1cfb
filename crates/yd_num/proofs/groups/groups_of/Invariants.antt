use Rattle.std.proofs.Common.{◌≡◌, ℕ, List, ◌^◌, ◌-◌, ◌<◌, ◌≤◌, length, drop}
use Rattle.yd_num.specs.Number.{groups_at}
use Rattle.yd_num.proofs.GroupLemmas.{behind}
use Rattle.yd_num.proofs.groups.groups_of.Given as goal

-- the groups so far make the value, and what is left makes the rest of the number
pub record SoFar (value weight i most : ℕ) (bytes : List ℕ) : Type 0 where
  pub weighs : weight ≡ 128 ^ i
  pub below : value < weight
  pub within : i ≤ length bytes
  pub reads : groups_at most bytes ≡ behind value weight (groups_at (most - i) (drop i bytes))

abbrev pub invariant-loop-i : goal.invariant-loop-i
invariant-loop-i l = SoFar l.value l.weight l.i l.most l.bytes
