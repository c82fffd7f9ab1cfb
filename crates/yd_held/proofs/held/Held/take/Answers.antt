use Rattle.std.proofs.Common.{length, subst}
use Rattle.std.specs.Prelude.{◌⊎◌, IfNone}
use Rattle.yd_ops.specs.Operation.{operations_of}
use Rattle.yd_ops.specs.View.{update_value}
use Rattle.yd_received.specs.Received.{taken_of, LowersOne}
use Rattle.yd_held.specs.Held.{HeldValue, held_value}
use Rattle.yd_held.specs.Joining.{NoneCameAlone}
use Rattle.yd_held.proofs.held.Held.take.Goals as goal

pub returns-in-Ok-clause-together : goal.returns-in-Ok-clause-together
returns-in-Ok-clause-together c =
    subst (λ (k : HeldValue). IfNone c.in-Ok.field-0.single (LowersOne (operations_of (update_value c.args.update)) (taken_of k.received)
    ⊎ NoneCameAlone (length k.received.runs) (length k.received.entries) c.in-Ok.field-0.order.items (held_value c.change.new.held))) c.self.view_is c.in-Ok.ensures.together
