use Rattle.yd_undo.proofs.ProperLemmas.{undo_proper}
use Rattle.yd_restoring.proofs.RedoneLemmas.{each_redo_shown}
use Rattle.yd_restoring.proofs.law.each_redo_shows.Goals as goal

pub returns : goal.returns
returns c = each_redo_shown c.args.before.now c.args.between.now c.args.after.now
    (undo_proper c.args.before.now c.own_document_is_replicas.ensures c.received_can_be_grouped.ensures) c.edits_are_undone.ensures
