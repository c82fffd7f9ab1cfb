use Rattle.yd_ids.proofs.UnionLemmas.{union_maximal, union_ids, union_alone}
use Rattle.yd_ids.proofs.law.union_has_both.Goals as goal

pub returns : goal.returns
returns c = record { maximal = union_maximal; ids = union_ids; alone = union_alone }
