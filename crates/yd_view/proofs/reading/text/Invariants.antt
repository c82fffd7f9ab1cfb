use Rattle.std.proofs.Common.{◌≡◌, false, length}
use Rattle.yd_state.specs.Lent.{units_left}
use Rattle.yd_view.specs.Halves.{text_of_seen, text_left, live_seen}
use Rattle.yd_view.proofs.reading.text.Given as goal

-- what came so far and what comes is the whole text
abbrev pub invariant-loop-piece : goal.invariant-loop-piece
invariant-loop-piece l = text_left l.halves (live_seen (units_left l.view)) ≡ text_of_seen false (live_seen (units_left l.initial.view))

abbrev pub decreases-loop-piece : goal.decreases-loop-piece
decreases-loop-piece l = length (units_left l.view)
