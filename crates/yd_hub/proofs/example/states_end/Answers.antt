use Rattle.std.proofs.Common.{refl}
use Rattle.yd_hub.proofs.example.states_end.Goals as goal

pub returns : goal.returns
returns c = record { not_yet = refl; ended = refl }
