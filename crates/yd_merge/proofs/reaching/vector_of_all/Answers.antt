use Rattle.std.proofs.Common.{map, subst}
use Rattle.yd_ops.specs.View.{update_value}
use Rattle.yd_grouping.specs.Groups.{operations_of_groups}
use Rattle.yd_merge.specs.Lending.{lent_group}
use Rattle.yd_merge.specs.Reaching.{Reaches}
use Rattle.yd_merge.proofs.ReachingLemmas.{reach_all}
use Rattle.yd_merge.proofs.reaching.vector_of_all.Goals as goal

pub returns : goal.returns
returns c = reach_all (map update_value c.args.updates.now) (map lent_group c.in_ok-lents.lents.items) c.in_ok-vector.vector c.requires c.in_ok-lents.ensures.groups
    c.in_ok-vector.ensures.vector
    (subst (λ ls. Reaches (operations_of_groups (map lent_group ls)) c.in_ok-vector.vector) c.deref.ensures.value c.in_ok-vector.ensures.reaches)
