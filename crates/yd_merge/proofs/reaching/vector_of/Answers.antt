use Rattle.std.proofs.Common.{map, ◌++◌, ap, ◌∙◌, subst}
use Rattle.yd_ops.specs.View.{update_value}
use Rattle.yd_grouping.specs.Groups.{operations_of_groups}
use Rattle.yd_merge.specs.Lending.{blocks_groups, lent_group}
use Rattle.yd_merge.specs.Reaching.{Reaches}
use Rattle.yd_merge.proofs.ReachingLemmas.{reach_one}
use Rattle.yd_merge.proofs.reaching.vector_of.Goals as goal

pub returns : goal.returns
returns c = reach_one (update_value c.args.update.now) (map lent_group c.lend_update.new.lents.items) c.in_ok-vector.vector c.requires
    (c.in_ok-lend_update.ensures.groups ∙ ap (λ ls. map lent_group ls ++ blocks_groups (update_value c.args.update.now).blocks) c.new-lents.ensures.items)
    c.in_ok-vector.ensures.vector
    (subst (λ ls. Reaches (operations_of_groups (map lent_group ls)) c.in_ok-vector.vector) c.deref.ensures.value c.in_ok-vector.ensures.reaches)
