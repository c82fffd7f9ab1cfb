use Rattle.std.proofs.Common.{◌≡◌}
use Rattle.yd_ops.specs.declared.lists.Parent.TheVariants.{Item}
use Rattle.yd_listing.proofs.NotingLemmas.{AreNotedFrom, bound_of}
use Rattle.yd_listing.proofs.closing.note_lists_of.Given as goal

abbrev pub invariant-loop-last : goal.invariant-loop-last
invariant-loop-last l = (l.parent ≡ Item l.fn.item) × AreNotedFrom l.kept l.fn.item l.initial.queue l.queue l.last

abbrev pub decreases-loop-last : goal.decreases-loop-last
decreases-loop-last l = bound_of l.last
