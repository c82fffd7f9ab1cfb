use Rattle.yd_undo.proofs.ProperLemmas.{undo_proper}
use Rattle.yd_restoring.proofs.RedoneLemmas.{keys_redo_shown}
use Rattle.yd_restoring.proofs.law.keys_redo_show.Goals as goal

pub returns : goal.returns
returns c = keys_redo_shown c.args.before.now c.args.between.now c.args.after.now
    (undo_proper c.args.before.now c.own_document_is_replicas.ensures c.received_can_be_grouped.ensures) c.own_document_is_replicas.ensures c.keys_are_undone.ensures
