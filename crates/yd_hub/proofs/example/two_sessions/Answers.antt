use Rattle.std.proofs.Common.{refl}
use Rattle.yd_hub.proofs.example.two_sessions.Goals as goal

pub returns : goal.returns
returns c = record { orders = refl; told = refl; told_failed = refl; received = refl; received_failed = refl }
