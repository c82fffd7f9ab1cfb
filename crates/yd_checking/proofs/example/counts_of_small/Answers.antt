use Rattle.std.proofs.Common.{refl}
use Rattle.yd_checking.proofs.example.counts_of_small.Goals as goal

pub returns : goal.returns
returns c = record { text = refl; deleted = refl; nested = refl; unit_waits = refl; unit_gone = refl; deletion_waits = refl; unit_lost = refl }
