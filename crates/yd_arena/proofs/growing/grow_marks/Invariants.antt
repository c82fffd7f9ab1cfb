use Rattle.std.proofs.Common.{◌-◌, ◌≤◌, ℕ, length, get_or}
use Rattle.yd_arena.proofs.growing.grow_marks.Given as goal

abbrev pub invariant-loop-marks : goal.invariant-loop-marks
invariant-loop-marks l = record {
  kept : length l.fn.marks.items ≤ length l.marks.items;
  low : (bound : ℕ) → ((i : ℕ) → get_or l.fn.marks.items i 0 ≤ bound) → (i : ℕ) → get_or l.marks.items i 0 ≤ bound;
}

abbrev pub decreases-loop-marks : goal.decreases-loop-marks
decreases-loop-marks l = l.most - length l.marks.items
