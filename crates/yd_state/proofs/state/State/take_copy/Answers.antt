use Rattle.std.proofs.Common.{subst}
use Rattle.std.specs.Prelude.{◌↔◌, IsTrue}
use Rattle.yd_state.specs.Brings.{BringsUnknown}
use Rattle.yd_state.specs.State.{received_in}
use Rattle.yd_state.proofs.state.State.take_copy.Goals as goal

pub returns-clause-brings : goal.returns-clause-brings
returns-clause-brings c = subst (λ update. IsTrue c.in_ok-brings.brings ↔ BringsUnknown update (received_in c.args.self.now) c.args.self.now.deletes)
    c.in_ok-copy.ensures c.in_ok-brings.ensures.brings
