use Rattle.std.proofs.Common.{◌≡◌, ◌++◌, map, drop}
use Rattle.yd_merge.specs.Lending.{lent_group}
use Rattle.yd_merge.specs.Reaching.{spans_of}
use Rattle.yd_merge.proofs.reaching.spans_of.Given as goal

-- with those of what is left, all are there
abbrev pub invariant-loop-lent : goal.invariant-loop-lent
invariant-loop-lent l = l.spans.items ++ spans_of (map lent_group (drop l.lent-index l.lents)) ≡ spans_of (map lent_group l.lents)
