use Rattle.yd_undo.proofs.RefusedLemmas.{undo_refused}
use Rattle.yd_undo.proofs.law.undos_are_refused_for_making.Goals as goal

pub returns : goal.returns
returns c = undo_refused
