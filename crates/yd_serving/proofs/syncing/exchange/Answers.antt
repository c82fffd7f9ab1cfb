use Rattle.std.proofs.Common.{ap, refl, subst, sym}
use Rattle.yd_doc.specs.Kept.{Kept, received_of}
use Rattle.yd_machines.specs.Asked.{IsAnswering}
use Rattle.yd_machines.specs.PeerStep.{event_value, peer_state, replica_of}
use Rattle.yd_machines.specs.Sent.{values_of}
use Rattle.yd_serving.proofs.ExchangeLemmas.{exchanged, front_passes, refusal_linked, refused_exchanges, room_linked}
use Rattle.yd_serving.proofs.syncing.exchange.Goals as goal

pub returns-in_ok-failed-in-Ok-clause-exchanged : goal.returns-in_ok-failed-in-Ok-clause-exchanged
returns-in_ok-failed-in-Ok-clause-exchanged g c =
    exchanged (replica_of c.args.peer.now) c.args.heard (event_value c.args.event.now) _ _ _ _ c.in_ok-failed-in-Ok.failed _ _ refl (subst (λ (r : Kept). IsAnswering r) c.replica-replica.ensures c.is_answering.ensures).deletes c.in-Ok.ensures.taken (ap values_of c.as_slice.ensures)
    c.in_ok-failed-in-Ok.ensures.said

pub returns-in_err-failed-in-Ok-clause-exchanged : goal.returns-in_err-failed-in-Ok-clause-exchanged
returns-in_err-failed-in-Ok-clause-exchanged g c =
    front_passes _ _ _ _ _ _ c.from_residual.result c.from_residual.ensures.1 c.in_err-failed-in-Ok.ensures.said

pub returns-in_err-failed-in-Ok-clause-linked : goal.returns-in_err-failed-in-Ok-clause-linked
returns-in_err-failed-in-Ok-clause-linked g c = room_linked c.from_residual.result c.from_residual.ensures.1

pub returns-in-Err-clause-exchanged : goal.returns-in-Err-clause-exchanged
returns-in-Err-clause-exchanged g c =
    let refuses = c.in-Err.ensures in
    rw c.after_refusal.ensures (refused_exchanges c.replica-replica.result.now c.vector_of-vector.result.now c.args.heard (event_value c.args.event.now) (peer_state c.args.peer.now) _ _ _
    (ap received_of (sym c.replica-replica.ensures)) (c.vector_of-vector.ensures.counts, c.is_answering.ensures.deletes) refuses.unchanged refuses.refused)

pub returns-in-Err-clause-linked : goal.returns-in-Err-clause-linked
returns-in-Err-clause-linked g c = rw c.after_refusal.ensures (refusal_linked c.args.heard _)
