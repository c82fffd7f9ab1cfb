use Rattle.yd_names.specs.Items.{IsLookedThrough}
use Rattle.yd_names.proofs.item_names.ItemNames.first_item.Given as goal

abbrev pub invariant-loop-clock : goal.invariant-loop-clock
invariant-loop-clock l = IsLookedThrough l.self-inside.names l.fn.span l.rest

abbrev pub decreases-loop-clock : goal.decreases-loop-clock
decreases-loop-clock l = l.rest.len
