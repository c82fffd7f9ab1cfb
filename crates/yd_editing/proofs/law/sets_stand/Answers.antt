use Rattle.yd_editing.proofs.MapLemmas.{set_stands}
use Rattle.yd_editing.proofs.law.sets_stand.Goals as goal

pub returns : goal.returns
returns c = set_stands
