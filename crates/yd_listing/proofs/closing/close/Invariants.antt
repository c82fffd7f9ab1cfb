use Rattle.std.proofs.Common.{◌-◌}
use Rattle.yd_arena.specs.Arena.{count_of}
use Rattle.yd_listing.proofs.OpeningLemmas.{IsClosing}
use Rattle.yd_listing.proofs.closing.close.Given as goal

abbrev pub invariant-loop-list : goal.invariant-loop-list
invariant-loop-list l = IsClosing l.kept l.deleted l.initial.spans.items l.spans.items l.queue l.at

abbrev pub decreases-loop-list : goal.decreases-loop-list
decreases-loop-list l = count_of l.kept.store.placed - l.at
