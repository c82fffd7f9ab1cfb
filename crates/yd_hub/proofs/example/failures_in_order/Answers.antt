use Rattle.std.proofs.Common.{refl}
use Rattle.yd_hub.proofs.example.failures_in_order.Goals as goal

pub returns : goal.returns
returns c = record { told = refl; closed = refl; sessions = refl }
