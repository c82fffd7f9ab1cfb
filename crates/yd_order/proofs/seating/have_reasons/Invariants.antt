use Rattle.std.proofs.Common.{ℕ, ◌<◌, ◌≤◌, ◌-◌, ◌≡◌, true}
use Rattle.std.specs.Prelude.{slice_index}
use Rattle.yd_order.specs.Seating.{has_reason}
use Rattle.yd_order.proofs.seating.have_reasons.Given as goal

-- the rows from here on have reasons
abbrev pub invariant-loop-position : goal.invariant-loop-position
invariant-loop-position l = (l.position ≤ slice_index l.seats l.at - 1)
    × ((k : ℕ) → l.position ≤ k → k < slice_index l.seats l.at - 1 → has_reason l.rows l.seats (slice_index l.proposal k) l.at ≡ true)

abbrev pub decreases-loop-position : goal.decreases-loop-position
decreases-loop-position l = l.position
