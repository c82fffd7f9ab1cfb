use Rattle.yd_kept.proofs.TellingLemmas.{lists_tell_units}
use Rattle.yd_kept.proofs.law.lists_tell_units.Goals as goal

pub returns : goal.returns
returns c = lists_tell_units
