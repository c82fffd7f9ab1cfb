use Rattle.std.proofs.Common.{◌≡◌, ◌<◌, ℕ, Some, length}
use Rattle.std.specs.Prelude.{slice_get}
use Rattle.yd_arena.proofs.growing.clear_marks.Given as goal

abbrev pub invariant-loop-i : goal.invariant-loop-i
invariant-loop-i l = record {
  ends : l.i-end ≡ length l.marks.items;
  kept : length l.marks.items ≡ length l.fn.marks.items;
  zero : (n : ℕ) → n < l.i → slice_get l.marks.items n ≡ Some 0;
}
