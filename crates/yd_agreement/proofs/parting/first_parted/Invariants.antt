use Rattle.std.proofs.Common.{map, take}
use Rattle.yd_ops.specs.View.{update_value}
use Rattle.yd_agreement.specs.Differing.{DifferAmong, content_of}
use Rattle.yd_agreement.specs.First.{IsFirstBut}
use Rattle.yd_agreement.specs.Parting.{IsParted}
use Rattle.yd_agreement.specs.Sweep.{runs_in}
use Rattle.yd_agreement.proofs.parting.first_parted.Given as goal

-- it is the first id by the updates so far
abbrev pub invariant-loop-update : goal.invariant-loop-update
invariant-loop-update l = IsFirstBut (IsParted (runs_in l.full) (map update_value (take l.update-index l.updates))) (DifferAmong content_of (runs_in l.full)) l.first
