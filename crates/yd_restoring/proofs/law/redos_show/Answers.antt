use Rattle.yd_undo.proofs.ProperLemmas.{undo_proper}
use Rattle.yd_restoring.proofs.ReplicaLemmas.{redo_shown}
use Rattle.yd_restoring.proofs.law.redos_show.Goals as goal

pub returns : goal.returns
returns c = redo_shown c.args.before.now c.args.between.now c.args.after.now c.own_document_is_replicas.ensures c.own_document_is_replicas-2.ensures
    c.own_document_is_replicas-3.ensures (undo_proper c.args.before.now c.own_document_is_replicas.ensures c.received_can_be_grouped.ensures)
    (undo_proper c.args.between.now c.own_document_is_replicas-2.ensures c.received_can_be_grouped-2.ensures)
