use Rattle.std.proofs.Common.{◌-◌}
use Rattle.yd_ops.specs.Value.{len_of}
use Rattle.yd_ops.specs.View.{run_value, content_value}
use Rattle.yd_entries.specs.Entries.{OnlyAdds}
use Rattle.yd_entries.specs.Taking.{IsKept}
use Rattle.yd_entries.proofs.WalkLemmas.{IsWalked}
use Rattle.yd_entries.proofs.taking.add_rest.Given as goal

abbrev pub invariant-loop-from : goal.invariant-loop-from
invariant-loop-from l =
    IsWalked l.is_gone (run_value l.run) l.fn.runs.items l.fn.taken l.runs.items l.taken l.from × IsKept l.runs.items l.index (run_value l.run)
    × OnlyAdds l.index l.fn.taken l.taken

abbrev pub decreases-loop-from : goal.decreases-loop-from
decreases-loop-from l = len_of (content_value l.run.content) - l.from
