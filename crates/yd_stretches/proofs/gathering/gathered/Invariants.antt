use Rattle.std.proofs.Common.{◌≡◌, ◌++◌}
use Rattle.yd_stretches.specs.Stretches.{AreGathered, stretch_lists}
use Rattle.yd_stretches.proofs.gathering.gathered.Given as goal

-- the stretches of the entries so far are gathered
abbrev pub invariant-loop-entry : goal.invariant-loop-entry
invariant-loop-entry l = record {
  all : l.yielded ++ l.entry-iterator ≡ l.taken;
  gathered : AreGathered l.stale l.yielded (stretch_lists l.buckets.items);
}
