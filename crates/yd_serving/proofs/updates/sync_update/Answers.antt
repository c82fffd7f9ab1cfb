use Rattle.std.proofs.Common.{refl}
use Rattle.yd_doc.specs.Kept.{received_of}
use Rattle.yd_ops.specs.View.{update_value}
use Rattle.yd_machines.specs.PeerStep.{peer_state}
use Rattle.yd_serving.specs.Updates.{peer_with}
use Rattle.yd_serving.proofs.UpdateLemmas.{few_none, peer_begins, syncs_few, syncs_no_memory}
use Rattle.yd_serving.proofs.updates.sync_update.Goals as goal

pub returns-in_err-replica-clause-synced : goal.returns-in_err-replica-clause-synced
returns-in_err-replica-clause-synced g c = syncs_few _ (peer_with (update_value c.args.update.now)) _ _ c.from_residual.result c.from_residual.ensures.1 (few_none _ _)

pub returns-in_err-replica-clause-linked : goal.returns-in_err-replica-clause-linked
returns-in_err-replica-clause-linked g c = λ calm has. (syncs_no_memory c.from_residual.result c.from_residual.ensures.1, refl)

pub returns-in_err-peer-clause-synced : goal.returns-in_err-peer-clause-synced
returns-in_err-peer-clause-synced g c =
    syncs_few _ (peer_with (update_value c.args.update.now)) _ _ c.from_residual-in_err-peer.result c.from_residual-in_err-peer.ensures.1 (few_none _ _)

pub returns-in_err-peer-clause-linked : goal.returns-in_err-peer-clause-linked
returns-in_err-peer-clause-linked g c = λ calm has. (syncs_no_memory c.from_residual-in_err-peer.result c.from_residual-in_err-peer.ensures.1, refl)

pub returns-clause-synced : goal.returns-clause-synced
returns-clause-synced g c =
    peer_begins c.args.turns (update_value c.args.update.now) (received_of c.in_ok-replica.replica) (peer_state c.in_ok-peer.peer) _ _ _ c.in_ok-peer.ensures.state c.in_ok-replica.ensures
    c.sync_peer.ensures.synced
