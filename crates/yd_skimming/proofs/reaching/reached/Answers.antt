use Rattle.std.proofs.Common.{refl}
use Rattle.yd_ids.proofs.SetLemmas.{same_through}
use Rattle.yd_merge.specs.Reaching.{spans_of}
use Rattle.yd_merge.proofs.ReachingLemmas.{started_reaches}
use Rattle.yd_skimming.proofs.reaching.reached.Goals as goal

pub returns-clause-reaches : goal.returns-clause-reaches
returns-clause-reaches c = λ groups are. started_reaches groups (spans_of groups) c.in_ok-ids.ids c.in_ok-vector.vector refl c.in_ok-ids.ensures.maximal
    (same_through c.in_ok-ids.ids c.args.spans.items (spans_of groups) c.in_ok-ids.ensures.ids are) c.in_ok-vector.ensures
