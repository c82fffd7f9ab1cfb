use Rattle.std.proofs.Common.{◌∙◌}
use Rattle.yd_ids.specs.Vector.{clock_of}
use Rattle.yd_meaning.specs.Held.{held_clock, held_set}
use Rattle.yd_doc.specs.Kept.{received_of}
use Rattle.yd_generating.proofs.ReplicaLemmas.{replied}
use Rattle.yd_generating.proofs.passing.reply_to.Goals as goal

pub returns-clause-reply : goal.returns-clause-reply
returns-clause-reply c = c.in_ok-update.ensures.replies
    ∙ replied c.args.answerer.now c.requires c.own_document_is_replicas.ensures c.deletes-deletes.result.now (clock_of c.vector.result.now) (held_clock (held_set (received_of c.args.asker.now).operations))
    c.spans-spans.ensures.maximal c.deletes-deletes.ensures.deleted c.deletes-deletes.ensures.own c.vector.ensures
