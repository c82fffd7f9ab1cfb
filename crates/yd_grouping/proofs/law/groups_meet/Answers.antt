use Rattle.yd_grouping.proofs.GatherLemmas.{gathered-append, border, gathered_apart, apart_gathered}
use Rattle.yd_grouping.proofs.GroupsLemmas.{joined-operations}
use Rattle.yd_grouping.proofs.SingleLemmas.{regrouped}
use Rattle.yd_grouping.proofs.law.groups_meet.Goals as goal

pub returns : goal.returns
returns c = record { border = border; again = regrouped; pushed = gathered-append; apart = gathered_apart; stay = apart_gathered; joined = joined-operations }
