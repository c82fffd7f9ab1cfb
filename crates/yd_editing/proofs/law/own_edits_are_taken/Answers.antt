use Rattle.yd_editing.proofs.TakenLemmas.{own_edit_is_taken}
use Rattle.yd_editing.proofs.law.own_edits_are_taken.Goals as goal

pub returns : goal.returns
returns c = own_edit_is_taken
