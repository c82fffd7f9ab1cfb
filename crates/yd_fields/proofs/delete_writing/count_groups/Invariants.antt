use Rattle.std.proofs.Common.{◌≡◌, ◌+◌, ◌≤◌, length}
use Rattle.yd_fields.specs.UpdateFields.{groups_of}
use Rattle.yd_fields.proofs.delete_writing.count_groups.Given as goal

abbrev pub invariant-loop-rest : goal.invariant-loop-rest
invariant-loop-rest l = record {
  all : l.count + length (groups_of l.rest) ≡ length (groups_of l.spans);
  few : l.count + length l.rest ≤ length l.spans;
}

abbrev pub decreases-loop-rest : goal.decreases-loop-rest
decreases-loop-rest l = length l.rest
