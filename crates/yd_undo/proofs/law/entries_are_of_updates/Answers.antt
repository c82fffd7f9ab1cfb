use Rattle.yd_undo.proofs.InsertedLemmas.{entries_of}
use Rattle.yd_undo.proofs.law.entries_are_of_updates.Goals as goal

pub returns : goal.returns
returns c = entries_of
