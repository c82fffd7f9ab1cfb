use Rattle.yd_held.proofs.UnreadyLemmas.{noted_first}
use Rattle.yd_held.proofs.changing.hold_new.Goals as goal

pub hold_all-requires-clause-noted : goal.hold_all-requires-clause-noted
hold_all-requires-clause-noted c =
    let held = c.args.held.now in
    noted_first held.received.runs c.args.from held.received.entries c.requires.holding.in_order.each c.in_ok-tries.tries.items
    (rw c.runs.ensures at c.in_ok-tries.ensures) held.vector held.lacks.items c.requires.noted
