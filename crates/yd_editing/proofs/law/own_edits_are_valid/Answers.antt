use Rattle.yd_editing.proofs.ValidLemmas.{own_valid_edit}
use Rattle.yd_editing.proofs.law.own_edits_are_valid.Goals as goal

pub returns : goal.returns
returns c = λ client document r steps received is each own ids done. own_valid_edit client document r steps received is ids done each own
