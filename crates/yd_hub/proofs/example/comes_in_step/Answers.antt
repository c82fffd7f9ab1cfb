use Rattle.std.proofs.Common.{refl}
use Rattle.yd_hub.proofs.example.comes_in_step.Goals as goal

pub returns : goal.returns
returns c = record { in_step = refl; taken = refl; told = refl; no_step2 = refl; refuses = refl; no_event = refl }
