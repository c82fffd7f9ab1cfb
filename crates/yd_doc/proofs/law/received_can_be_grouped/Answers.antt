use Rattle.std.proofs.Common.{subst}
use Rattle.yd_grouping.specs.Groupable.{AreGroupable}
use Rattle.yd_doc.specs.Kept.{received_of}
use Rattle.yd_doc.proofs.GroupableLemmas.{state_groupable}
use Rattle.yd_doc.proofs.law.received_can_be_grouped.Goals as goal

pub returns : goal.returns
returns c = subst (λ r. AreGroupable (received_of r).operations) c.replica.view_is (state_groupable c.replica.inside.state c.replica.invariant.sound)
