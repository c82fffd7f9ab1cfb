use Rattle.std.proofs.Common.{arith}
use Rattle.yd_ids.specs.Vector.{clock_of}
use Rattle.yd_ids.proofs.VectorLemmas.{vectors_same}
use Rattle.yd_held.proofs.TwinLemmas.{next_inside, next_taken, turn_raised, none_left}
use Rattle.yd_held.proofs.twin.caught_up.Goals as goal

pub get-entry-requires : goal.get-entry-requires
get-entry-requires c = rw c.entries-entries.ensures.entries
    (next_inside c.args.held.now.received c.requires.holds.in_order c.args.order.now c.loop-at.twin (clock_of c.args.held.now.vector) c.loop-at.at-index c.loop-at-test.true c.loop-at.invariant.turn)

pub overflow_add-entry : goal.overflow_add-entry
overflow_add-entry c =
    let taken = next_taken c.args.held.now.received c.requires.holds.in_order c.args.order.now c.loop-at.twin (clock_of c.args.held.now.vector) c.loop-at.at-index c.loop-at-test.true
    c.loop-at.invariant.turn c.entries-entries.result.now c.get-entry.result c.entries-entries.ensures.entries c.get-entry.ensures in
    omega (arith, taken.end)

pub raise-requires-clause-is_client : goal.raise-requires-clause-is_client
raise-requires-clause-is_client c =
    let taken = next_taken c.args.held.now.received c.requires.holds.in_order c.args.order.now c.loop-at.twin (clock_of c.args.held.now.vector) c.loop-at.at-index c.loop-at-test.true
    c.loop-at.invariant.turn c.entries-entries.result.now c.get-entry.result c.entries-entries.ensures.entries c.get-entry.ensures in
    taken.id.client

pub raise-requires-clause-is_clock : goal.raise-requires-clause-is_clock
raise-requires-clause-is_clock c =
    let taken = next_taken c.args.held.now.received c.requires.holds.in_order c.args.order.now c.loop-at.twin (clock_of c.args.held.now.vector) c.loop-at.at-index c.loop-at-test.true
    c.loop-at.invariant.turn c.entries-entries.result.now c.get-entry.result c.entries-entries.ensures.entries c.get-entry.ensures in
    taken.end

pub loop-at-preserved : goal.loop-at-preserved
loop-at-preserved c = record {
  turn = turn_raised c.args.held.now.received c.requires.holds.in_order c.args.order.now c.loop-at.twin (clock_of c.args.held.now.vector) c.loop-at.at-index c.loop-at-test.true
      c.loop-at.invariant.turn c.entries-entries.result.now c.get-entry.result c.entries-entries.ensures.entries c.get-entry.ensures c.raise.new.self c.in_ok-raise.ensures.raised;
  vector = c.in_ok-raise.ensures.vector;
}

pub returns : goal.returns
returns c = vectors_same c.loop-at.twin c.args.held.now.vector c.loop-at.invariant.vector c.iter.ensures.vector
    (none_left c.args.held.now.received.runs c.args.held.now.received.entries c.args.order.now (clock_of c.loop-at.twin) (clock_of c.args.held.now.vector) c.loop-at.at-index
    (omega (arith, c.loop-at-test.false)) c.loop-at.invariant.turn)
