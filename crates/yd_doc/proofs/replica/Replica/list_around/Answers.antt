use Rattle.std.proofs.Common.{subst}
use Rattle.yd_words.specs.Member.{IsIn}
use Rattle.yd_ops.specs.Operation.{Operation}
use Rattle.yd_state.specs.Lent.{lent_units, units_left, IsAround}
use Rattle.yd_doc.specs.Kept.{received_of, own_document}
use Rattle.yd_doc.proofs.replica.Replica.list_around.Goals as goal

pub returns-clause-around : goal.returns-clause-around
returns-clause-around c = subst (λ r. IsAround c.args.id (lent_units (own_document r) c.args.list.now) (units_left c.list_around.result)) c.self.view_is c.list_around.ensures.around

pub returns-clause-received : goal.returns-clause-received
returns-clause-received c = subst (λ r. (o : Operation) → IsIn o ((own_document r).units c.args.list.now) → IsIn o (received_of r).operations) c.self.view_is c.list_around.ensures.received
