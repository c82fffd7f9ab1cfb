use Rattle.std.proofs.Common.{subst}
use Rattle.yd_words.specs.Member.{IsIn}
use Rattle.yd_ops.specs.Operation.{Operation}
use Rattle.yd_doc.specs.Kept.{received_of, own_document}
use Rattle.yd_doc.proofs.replica.Replica.list.Goals as goal

pub returns-clause-received : goal.returns-clause-received
returns-clause-received c = subst (λ r. (o : Operation) → IsIn o ((own_document r).units c.args.list.now) → IsIn o (received_of r).operations) c.self.view_is c.list.ensures.received
