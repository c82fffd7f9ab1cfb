use Rattle.std.proofs.Common.{◌≡◌, ℕ, ◌+◌, ◌<◌}
use Rattle.yd_ops.specs.View.{content_value}
use Rattle.yd_agreement.specs.Units.{unit_of}
use Rattle.yd_agreement.proofs.differing.first_other.Given as goal

-- the units so far are the same
abbrev pub invariant-loop-k : goal.invariant-loop-k
invariant-loop-k l = (j : ℕ) → j < l.k → unit_of (content_value l.a) (l.from + j) ≡ unit_of (content_value l.b) j
