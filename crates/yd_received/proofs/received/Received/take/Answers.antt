use Rattle.std.proofs.Common.{◌↔◌, subst}
use Rattle.std.specs.Prelude.{IsTrue, IfOk}
use Rattle.yd_ops.specs.Operation.{operations_of}
use Rattle.yd_ops.specs.View.{update_value}
use Rattle.yd_received.specs.Received.{taken_of, brings, lowers, LowersOne}
use Rattle.yd_entries.specs.Taking.{BringsOperation}
use Rattle.yd_received.proofs.received.Received.take.Goals as goal

pub returns-clause-brings : goal.returns-clause-brings
returns-clause-brings c =
    subst (λ v. IfOk c.take_update-result.result (λ brought. IsTrue (brings brought) ↔ BringsOperation (update_value c.args.update) (taken_of v))) c.self.view_is c.take_update-result.ensures.brings

pub returns-clause-lowers : goal.returns-clause-lowers
returns-clause-lowers c =
    subst (λ v. IfOk c.take_update-result.result (λ brought. IsTrue (lowers brought) → LowersOne (operations_of (update_value c.args.update)) (taken_of v))) c.self.view_is
    c.take_update-result.ensures.lowers
