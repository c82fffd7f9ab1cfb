use Rattle.std.proofs.Common.{◌≤◌, take}
use Rattle.yd_agreement.specs.Differing.{DifferAmong, place_of}
use Rattle.yd_agreement.specs.First.{IsFirst}
use Rattle.yd_agreement.specs.Sweep.{runs_in}
use Rattle.yd_agreement.proofs.sweep.Sweep.first_place.Given as goal

-- it is the first id on which the runs so far differ
abbrev pub invariant-loop-next : goal.invariant-loop-next
invariant-loop-next l = record {
  some : 1 ≤ l.next;
  so_far : IsFirst (DifferAmong place_of (take l.next (runs_in l.self))) l.first;
}
