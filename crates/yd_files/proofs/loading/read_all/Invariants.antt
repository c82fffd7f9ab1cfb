use Rattle.std.proofs.Common.{◌≡◌, ◌+◌, ◌-◌, ◌^◌, ◌≤◌, ℕ, List, Option, take, length}
use Rattle.yd_files.specs.Loading.{IsReading}
use Rattle.yd_files.proofs.loading.read_all.Given as goal
use Rattle.yd_world.specs.Shelf.{Shelf, HasName}

-- the front of the buffer is what was read, and the rest is unread
pub record SoFar (told told_now : Option Shelf) (faults faults_now : ℕ) (Calm CalmNow : Type 0) (name buffer : List ℕ) (filled : ℕ) : Type 0 where
  pub within : filled ≤ length buffer
  pub small : length buffer ≤ 2 ^ 28 + 1
  pub reading : IsReading told told_now name (take filled buffer)
  pub counts : faults ≤ faults_now
  pub calm : Calm → HasName told name → CalmNow × (faults_now ≡ faults)

abbrev pub invariant-loop-filled : goal.invariant-loop-filled
invariant-loop-filled g l = SoFar (g.L.Library.told l.fn.library) (g.L.Library.told l.library) (g.L.Library.faults l.fn.library) (g.L.Library.faults l.library) (g.L.Library.is_calm l.fn.library) (g.L.Library.is_calm l.library) l.name l.buffer.items l.filled

abbrev pub decreases-loop-filled : goal.decreases-loop-filled
decreases-loop-filled g l = 2 ^ 28 + 1 - l.filled
