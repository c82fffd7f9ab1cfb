use Rattle.std.proofs.Common.{◌≡◌, drop}
use Rattle.yd_value.specs.View.{shown_fields}
use Rattle.yd_modes.specs.Marks.{marks_fields}
use Rattle.yd_modes.specs.Roles.{joined_fields}
use Rattle.yd_modes.proofs.marks.fields_of.Given as goal

abbrev pub invariant-loop-mark : goal.invariant-loop-mark
invariant-loop-mark l = joined_fields (shown_fields l.fields) (marks_fields (drop l.mark-index l.marks)) ≡ marks_fields l.marks
