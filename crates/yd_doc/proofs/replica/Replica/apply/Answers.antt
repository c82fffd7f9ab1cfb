use Rattle.std.proofs.Common.{subst}
use Rattle.std.specs.Prelude.{◌↔◌, ◌⊎◌, IfOk, OnOk, IsTrue}
use Rattle.yd_ops.specs.Operation.{operations_of}
use Rattle.yd_ops.specs.View.{update_value}
use Rattle.yd_state.specs.State.{StateValue, received_in}
use Rattle.yd_state.specs.Brings.{BringsUnknown}
use Rattle.yd_received.specs.Received.{LowersOne}
use Rattle.yd_state.specs.Growing.{LosesNone, Grows}
use Rattle.yd_doc.specs.Kept.{Kept, received_of, own_deletes}
use Rattle.yd_doc.proofs.replica.Replica.apply.Goals as goal

pub returns-clause-brings : goal.returns-clause-brings
returns-clause-brings c =
    let update = update_value c.args.update.now in
    let state : StateValue = c.self.inside.state in
    subst (λ (r : Kept). IsTrue c.in_ok-brings.brings ↔ BringsUnknown update (received_of r) (own_deletes r)) c.self.view_is
    (subst (λ r. IfOk r (λ brings. IsTrue brings ↔ BringsUnknown update (received_in state) state.deletes)) c.in_ok-brings.was c.take_copy-applied.ensures.brings)

pub returns-clause-grows : goal.returns-clause-grows
returns-clause-grows c =
    let update = update_value c.args.update.now in
    let old : StateValue = c.self.inside.state in
    let new : StateValue = c.take_copy-applied.new.self in
    let less : Type 0 = LowersOne (operations_of update) (received_in old).operations in
    record {
      grows = subst (λ (r : Kept). Grows r.state new) c.self.view_is (subst (λ r. OnOk r (Grows old new)) c.in_ok-brings.was c.take_copy-applied.ensures.grows);
      loses = subst (λ (r : Kept). LosesNone r.state new ⊎ LowersOne (operations_of update) (received_of r).operations) c.self.view_is
          (subst (λ r. OnOk r (LosesNone old new ⊎ less)) c.in_ok-brings.was c.take_copy-applied.ensures.loses);
    }
