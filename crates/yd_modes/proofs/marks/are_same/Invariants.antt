use Rattle.std.proofs.Common.{◌≡◌, drop}
use Rattle.yd_any.specs.Same.{same_fields}
use Rattle.yd_modes.specs.Marks.{marks_fields}
use Rattle.yd_modes.proofs.marks.are_same.Given as goal

abbrev pub invariant-loop-i : goal.invariant-loop-i
invariant-loop-i l = same_fields (marks_fields (drop l.i l.a)) (marks_fields (drop l.i l.b)) ≡ same_fields (marks_fields l.a) (marks_fields l.b)
