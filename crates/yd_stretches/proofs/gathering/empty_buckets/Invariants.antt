use Rattle.std.proofs.Common.{◌≡◌, [], replicate}
use Rattle.yd_stretches.specs.Stretches.{stretch_lists}
use Rattle.yd_stretches.proofs.gathering.empty_buckets.Given as goal

-- there are so many lists without a stretch
abbrev pub invariant-loop : goal.invariant-loop
invariant-loop l = stretch_lists l.buckets.items ≡ replicate l.counter []
