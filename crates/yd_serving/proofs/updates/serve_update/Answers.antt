use Rattle.std.proofs.Common.{refl}
use Rattle.yd_doc.specs.Kept.{received_of}
use Rattle.yd_ops.specs.View.{update_value}
use Rattle.yd_machines.specs.HubStep.{hub_state}
use Rattle.yd_serving.specs.Updates.{hub_with}
use Rattle.yd_serving.proofs.UpdateLemmas.{few_none, hub_begins, serves_few, serves_no_memory}
use Rattle.yd_serving.proofs.updates.serve_update.Goals as goal

pub returns-in_err-replica-clause-served : goal.returns-in_err-replica-clause-served
returns-in_err-replica-clause-served g c = serves_few _ (hub_with (update_value c.args.update.now)) _ _ c.from_residual.result c.from_residual.ensures.1 (few_none _ _)

pub returns-in_err-replica-clause-linked : goal.returns-in_err-replica-clause-linked
returns-in_err-replica-clause-linked g c = λ calm has. (serves_no_memory c.from_residual.result c.from_residual.ensures.1, refl)

pub returns-in_err-hub-clause-served : goal.returns-in_err-hub-clause-served
returns-in_err-hub-clause-served g c =
    serves_few _ (hub_with (update_value c.args.update.now)) _ _ c.from_residual-in_err-hub.result c.from_residual-in_err-hub.ensures.1 (few_none _ _)

pub returns-in_err-hub-clause-linked : goal.returns-in_err-hub-clause-linked
returns-in_err-hub-clause-linked g c = λ calm has. (serves_no_memory c.from_residual-in_err-hub.result c.from_residual-in_err-hub.ensures.1, refl)

pub returns-clause-served : goal.returns-clause-served
returns-clause-served g c =
    hub_begins c.args.turns (update_value c.args.update.now) (received_of c.in_ok-replica.replica) (hub_state c.in_ok-hub.hub) _ _ _ c.in_ok-hub.ensures.state c.in_ok-replica.ensures
    c.serve_hub.ensures.served
