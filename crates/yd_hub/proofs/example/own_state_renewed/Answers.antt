use Rattle.std.proofs.Common.{refl}
use Rattle.yd_hub.proofs.example.own_state_renewed.Goals as goal

pub returns : goal.returns
returns c = record { set = refl; not_yet = refl; again = refl }
