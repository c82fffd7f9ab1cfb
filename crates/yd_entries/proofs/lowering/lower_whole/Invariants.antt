use Rattle.std.proofs.Common.{◌-◌, length}
use Rattle.yd_entries.proofs.WholeLemmas.{IsLowering}
use Rattle.yd_entries.proofs.lowering.lower_whole.Given as goal

abbrev pub invariant-loop-at : goal.invariant-loop-at
invariant-loop-at l = IsLowering l.id l.len l.level l.fn.runs.items l.fn.taken l.runs.items l.taken l.at

abbrev pub decreases-loop-at : goal.decreases-loop-at
decreases-loop-at l = length l.taken - l.at
