use Rattle.yd_undo.proofs.ProperLemmas.{undo_proper}
use Rattle.yd_restoring.proofs.ReplicaLemmas.{undo_shown}
use Rattle.yd_restoring.proofs.law.undos_show.Goals as goal

pub returns : goal.returns
returns c = undo_shown c.args.before.now c.args.after.now c.own_document_is_replicas.ensures c.own_document_is_replicas-2.ensures
    (undo_proper c.args.before.now c.own_document_is_replicas.ensures c.received_can_be_grouped.ensures)
