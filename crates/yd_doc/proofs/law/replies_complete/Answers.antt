use Rattle.std.proofs.Common.{subst}
use Rattle.yd_ids.specs.Vector.{clock_of}
use Rattle.yd_ops.specs.ReceivedLaw.{IsReceived}
use Rattle.yd_grouping.specs.Groupable.{AreGroupable}
use Rattle.yd_grouping.proofs.ReplyLemmas.{reply_completes}
use Rattle.yd_doc.specs.Kept.{own_deletes, received_of}
use Rattle.yd_doc.proofs.GroupableLemmas.{state_groupable}
use Rattle.yd_doc.proofs.law.replies_complete.Goals as goal

pub returns : goal.returns
returns c = λ low.
    let groupable = subst (λ r. AreGroupable (received_of r).operations) c.answerer.view_is (state_groupable c.answerer.inside.state c.answerer.invariant.sound) in
    let received = subst (λ r. IsReceived (received_of r)) c.asker.view_is c.asker.invariant.sound.received in
    reply_completes (received_of c.args.answerer.now) (received_of c.args.asker.now) (own_deletes c.args.answerer.now) (clock_of c.args.vector.now) groupable received low
