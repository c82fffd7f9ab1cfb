use Rattle.std.proofs.Common.{◌∙◌, ap, refl, subst, sym}
use Rattle.yd_doc.specs.Kept.{Kept, received_of}
use Rattle.yd_hub.specs.Orders.{orders_of}
use Rattle.yd_world.specs.declared.event.Event.{Event}
use Rattle.yd_machines.specs.Asked.{IsAnswering}
use Rattle.yd_machines.specs.HubStep.{hub_state, replica_of_hub}
use Rattle.yd_serving.proofs.BoardLemmas.{trades_next}
use Rattle.yd_serving.proofs.TurnLemmas.{front_serves, memory_linked, no_event, no_fault, turn_cut, turn_ending, turn_settles, turn_stops, turn_untaken}
use Rattle.yd_serving.proofs.serving.serve_turn.Goals as goal

pub returns-in_err-event-clause-served : goal.returns-in_err-event-clause-served
returns-in_err-event-clause-served g c =
    let none = c.in_err-event.ensures in
    no_event Event _ _ _ _ c.from_residual.result c.from_residual.ensures.1 none.takes none.cause none.send_faults

pub returns-in_err-event-clause-linked : goal.returns-in_err-event-clause-linked
returns-in_err-event-clause-linked g c = λ calm has.
    let came = c.in_err-event.ensures.coming calm has in
    (no_fault Event _ c.from_residual.result c.from_residual.ensures.1 came.0, came.1)

pub returns-in_err-actions-clause-served : goal.returns-in_err-actions-clause-served
returns-in_err-actions-clause-served g c =
    let came = c.in_ok-event.ensures in
    front_serves _ _ _ _ _ c.from_residual-in_err-actions.result c.from_residual-in_err-actions.ensures.1
    (turn_untaken c.replica-replica.result.now _ _ c.vector_of-vector.result.now c.in_ok-event.event _ _ (ap received_of (sym c.replica-replica.ensures)) (c.vector_of-vector.ensures.counts, c.is_answering.ensures.deletes)
    c.in_err-actions.ensures.unchanged (trades_next _ _ c.in_ok-event.event came.takes came.cause came.send_faults))

pub returns-in_err-actions-clause-linked : goal.returns-in_err-actions-clause-linked
returns-in_err-actions-clause-linked g c = λ calm has.
    (memory_linked c.from_residual-in_err-actions.result c.from_residual-in_err-actions.ensures.1, (c.in_ok-event.ensures.coming calm has).1)

pub returns-in_err-carry-clause-served : goal.returns-in_err-carry-clause-served
returns-in_err-carry-clause-served g c =
    let came = c.in_ok-event.ensures in
    let took = c.in_ok-actions.ensures.taken in
    front_serves _ _ _ _ _ c.from_residual-in_err-carry.result c.from_residual-in_err-carry.ensures.1
    (turn_cut (replica_of_hub c.args.hub.now) (hub_state c.args.hub.now) _ took.vector c.in_ok-event.event _ _ _ _ refl (took.counts, (subst (λ (r : Kept). IsAnswering r) c.replica-replica.ensures c.is_answering.ensures).deletes) took.after (took.orders ∙ sym (ap orders_of c.as_slice.ensures))
    (trades_next _ _ c.in_ok-event.event came.takes came.cause came.send_faults) (rw c.new-failed.ensures.items at c.in_err-carry.ensures.carried))

pub returns-in_err-carry-clause-linked : goal.returns-in_err-carry-clause-linked
returns-in_err-carry-clause-linked g c = λ calm has. (
  memory_linked c.from_residual-in_err-carry.result c.from_residual-in_err-carry.ensures.1,
  c.in_err-carry.ensures.faults ∙ (c.in_ok-event.ensures.coming calm has).1,
)

pub settle-requires : goal.settle-requires
settle-requires g c =
    let took = c.in_ok-actions.ensures.taken in
    turn_ending (replica_of_hub c.args.hub.now) (hub_state c.args.hub.now) _ took.vector c.in_ok-event.event _ _ _ _ took.after (took.orders ∙ sym (ap orders_of c.as_slice.ensures)) (rw c.new-failed.ensures.items at c.in_ok-carry.ensures.carried)

pub returns-in_err-settle-clause-served : goal.returns-in_err-settle-clause-served
returns-in_err-settle-clause-served g c =
    let came = c.in_ok-event.ensures in
    let took = c.in_ok-actions.ensures.taken in
    front_serves _ _ _ _ _ c.from_residual-in_err-settle.result c.from_residual-in_err-settle.ensures.1
    (turn_stops (replica_of_hub c.args.hub.now) (hub_state c.args.hub.now) _ _ took.vector c.in_ok-event.event _ _ _ _ _ _ refl (took.counts, (subst (λ (r : Kept). IsAnswering r) c.replica-replica.ensures c.is_answering.ensures).deletes) took.after (took.orders ∙ sym (ap orders_of c.as_slice.ensures))
    (trades_next _ _ c.in_ok-event.event came.takes came.cause came.send_faults) (rw c.new-failed.ensures.items at c.in_ok-carry.ensures.carried) c.in_err-settle.ensures.settled)

pub returns-in_err-settle-clause-linked : goal.returns-in_err-settle-clause-linked
returns-in_err-settle-clause-linked g c = λ calm has. (
  memory_linked c.from_residual-in_err-settle.result c.from_residual-in_err-settle.ensures.1,
  c.in_err-settle.ensures.faults ∙ c.in_ok-carry.ensures.faults ∙ (c.in_ok-event.ensures.coming calm has).1,
)

pub returns-clause-served : goal.returns-clause-served
returns-clause-served g c =
    let came = c.in_ok-event.ensures in
    let took = c.in_ok-actions.ensures.taken in
    turn_settles (replica_of_hub c.args.hub.now) (hub_state c.args.hub.now) _ _ took.vector c.in_ok-event.event _ _ _ _ _ _ refl (took.counts, (subst (λ (r : Kept). IsAnswering r) c.replica-replica.ensures c.is_answering.ensures).deletes) took.after (took.orders ∙ sym (ap orders_of c.as_slice.ensures))
    (trades_next _ _ c.in_ok-event.event came.takes came.cause came.send_faults) (rw c.new-failed.ensures.items at c.in_ok-carry.ensures.carried) c.in_ok-settle.ensures.settled

pub returns-clause-linked : goal.returns-clause-linked
returns-clause-linked g c = λ calm has. (tt, c.in_ok-settle.ensures.faults ∙ c.in_ok-carry.ensures.faults ∙ (c.in_ok-event.ensures.coming calm has).1)
