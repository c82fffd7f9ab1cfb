use Rattle.std.proofs.Common.{◌≤◌, length}
use Rattle.yd_agreement.specs.Runs.{lent_runs}
use Rattle.yd_agreement.specs.Sweep.{HaveCovers}
use Rattle.yd_agreement.proofs.sweep.covers_of.Given as goal

-- the runs so far have their covers
abbrev pub invariant-loop-next : goal.invariant-loop-next
invariant-loop-next l = record {
  within : l.next ≤ length l.runs;
  so_far : HaveCovers (lent_runs l.runs) (lent_runs l.covers.items) l.next;
}
