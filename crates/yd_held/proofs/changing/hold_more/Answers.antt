use Rattle.yd_held.proofs.UnreadyLemmas.{noted_all}
use Rattle.yd_held.proofs.changing.hold_more.Goals as goal

pub hold_all-requires-clause-noted : goal.hold_all-requires-clause-noted
hold_all-requires-clause-noted c =
    let held = c.args.held.now in
    noted_all held.vector held.received.runs held.lacks.items held.received.entries c.in_ok-tries.tries.items c.requires.sorted (rw c.entries.ensures.entries at c.in_ok-tries.ensures)
