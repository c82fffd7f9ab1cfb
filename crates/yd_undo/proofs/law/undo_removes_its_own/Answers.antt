use Rattle.yd_undo.proofs.LawLemmas.{undo_removes}
use Rattle.yd_undo.proofs.law.undo_removes_its_own.Goals as goal

pub returns : goal.returns
returns c = undo_removes
