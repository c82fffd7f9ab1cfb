use Rattle.yd_editing.proofs.MapLemmas.{unset_stands}
use Rattle.yd_editing.proofs.law.unsets_stand.Goals as goal

pub returns : goal.returns
returns c = unset_stands
