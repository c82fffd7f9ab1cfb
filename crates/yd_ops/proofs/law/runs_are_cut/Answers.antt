use Rattle.yd_ops.proofs.CutLemmas.{first-operations, other-operations, part_long, parts_long, parts_join, parts_joined, contents_valid, parts_valid}
use Rattle.yd_ops.proofs.law.runs_are_cut.Goals as goal

pub returns : goal.returns
returns c = record {
  first = first-operations;
  others = other-operations;
  length = part_long;
  lengths = parts_long;
  joins = parts_join;
  joined = parts_joined;
  contents = contents_valid;
  valid = parts_valid;
}
