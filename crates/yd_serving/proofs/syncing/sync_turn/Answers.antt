use Rattle.std.proofs.Common.{◌∙◌, ap, arith, sym}
use Rattle.yd_doc.specs.Kept.{received_of}
use Rattle.yd_world.specs.declared.event.Event.{Event}
use Rattle.yd_serving.proofs.BoardLemmas.{trades_next}
use Rattle.yd_serving.proofs.ExchangeLemmas.{no_link_fault, no_turn, turn_closes, turn_passes, turn_takes}
use Rattle.yd_serving.proofs.syncing.sync_turn.Goals as goal

pub returns-in_err-event-clause-taken : goal.returns-in_err-event-clause-taken
returns-in_err-event-clause-taken g c =
    let none = c.in_err-event.ensures in
    no_turn _ _ _ _ _ _ c.from_residual.result c.from_residual.ensures.1 none.takes none.cause none.send_faults

pub returns-in_err-event-clause-linked : goal.returns-in_err-event-clause-linked
returns-in_err-event-clause-linked g c = λ calm has.
    let came = c.in_err-event.ensures.coming calm has in
    (no_link_fault Event _ c.from_residual.result c.from_residual.ensures.1 came.0, came.1)

pub returns-in-Nothing-clause-taken : goal.returns-in-Nothing-clause-taken
returns-in-Nothing-clause-taken g c =
    let came = c.in_ok-event.ensures in
    turn_passes c.replica-replica.result.now c.vector_of-vector.result.now c.in_ok-event.event c.args.heard.now _ (ap received_of (sym c.replica-replica.ensures)) (c.vector_of-vector.ensures.counts, c.is_answering.ensures.deletes) _ _
    (rw c.in-Nothing.is at c.heard_of.ensures.heard) (trades_next _ _ c.in_ok-event.event came.takes came.cause came.send_faults)

pub returns-in-Close-clause-taken : goal.returns-in-Close-clause-taken
returns-in-Close-clause-taken g c =
    let came = c.in_ok-event.ensures in
    turn_closes c.replica-replica.result.now c.vector_of-vector.result.now c.in_ok-event.event c.args.heard.now _ (ap received_of (sym c.replica-replica.ensures)) (c.vector_of-vector.ensures.counts, c.is_answering.ensures.deletes) _ _
    (rw c.in-Close.is at c.heard_of.ensures.heard) (trades_next _ _ c.in_ok-event.event came.takes came.cause came.send_faults)

pub returns-in-Event-clause-taken : goal.returns-in-Event-clause-taken
returns-in-Event-clause-taken g c =
    let came = c.in_ok-event.ensures in
    turn_takes c.in_ok-event.event _ c.args.heard.now _ _ _ _ _ _ c.exchange.result c.count_heard.ensures (rw c.in-Event.is at c.heard_of.ensures.heard)
    (trades_next _ _ c.in_ok-event.event came.takes came.cause came.send_faults) c.exchange.ensures.exchanged

pub returns-in-Event-clause-linked : goal.returns-in-Event-clause-linked
returns-in-Event-clause-linked g c = λ calm has. (c.exchange.ensures.linked, c.exchange.ensures.faults ∙ (c.in_ok-event.ensures.coming calm has).1)
