use Rattle.std.proofs.Common.{length, reverse}
use Rattle.yd_ids.specs.Set.{AreMaximal}
use Rattle.yd_fields.specs.UpdateFields.{fields_of_groups, groups_of}
use Rattle.yd_fields.proofs.WritesLemmas.{Remain}
use Rattle.yd_fields.proofs.delete_writing.write_groups.Given as goal

abbrev pub invariant-loop-rest : goal.invariant-loop-rest
invariant-loop-rest g l = record {
  maximal : AreMaximal l.rest;
  remain : Remain g.W.FieldWriter.with_field g.W.FieldWriter.is_spelled (fields_of_groups (reverse (groups_of l.spans))) (fields_of_groups (reverse (groups_of l.rest))) l.fn.writer l.writer;
}

abbrev pub decreases-loop-rest : goal.decreases-loop-rest
decreases-loop-rest g l = length l.rest
