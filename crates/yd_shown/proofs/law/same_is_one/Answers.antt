use Rattle.yd_any.proofs.SameLemmas.{tree_decides, fields_decide}
use Rattle.yd_shown.proofs.law.same_is_one.Goals as goal

pub returns : goal.returns
returns c = record { values = tree_decides; attributes = fields_decide }
