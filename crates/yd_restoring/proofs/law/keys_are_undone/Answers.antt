use Rattle.yd_undo.proofs.ProperLemmas.{undo_proper}
use Rattle.yd_restoring.proofs.KeyReplicaLemmas.{key_undone}
use Rattle.yd_restoring.proofs.law.keys_are_undone.Goals as goal

pub returns : goal.returns
returns c = key_undone c.args.before.now c.args.between.now c.args.after.now c.own_document_is_replicas.ensures c.own_document_is_replicas-2.ensures
    c.own_document_is_replicas-3.ensures (undo_proper c.args.between.now c.own_document_is_replicas-2.ensures c.received_can_be_grouped.ensures)
