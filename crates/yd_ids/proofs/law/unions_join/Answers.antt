use Rattle.yd_ids.proofs.UnionLemmas.{union_groups, union_commutes, union_again}
use Rattle.yd_ids.proofs.law.unions_join.Goals as goal

pub returns : goal.returns
returns c = record { associative = union_groups; commutative = union_commutes; idempotent = union_again }
