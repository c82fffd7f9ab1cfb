use Rattle.std.proofs.Common.{◌-◌}
use Rattle.yd_names.proofs.CrowdsLemmas.{IsHalving}
use Rattle.yd_names.proofs.crowds.place_in_crowd.Given as goal

abbrev pub invariant-loop-low : goal.invariant-loop-low
invariant-loop-low g l = IsHalving g.S.Sought.cmp g.met.S.Sought.total l.names l.crowd (g.S.Sought.stands l.sought) l.low l.high

abbrev pub decreases-loop-low : goal.decreases-loop-low
decreases-loop-low g l = l.high - l.low
