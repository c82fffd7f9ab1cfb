use Rattle.std.proofs.Common.{◌∙◌, subst}
use Rattle.yd_words.specs.Member.{IsIn}
use Rattle.yd_ops.specs.Operation.{Operation}
use Rattle.yd_listing.specs.Listing.{Tells}
use Rattle.yd_shown.specs.Shown.{own_list as own_name}
use Rattle.yd_state.proofs.LentLemmas.{units_received}
use Rattle.yd_doc.specs.Kept.{Kept, received_of, own_document}
use Rattle.yd_doc.proofs.replica.Replica.lists_of.Goals as goal

pub returns-in_err-keys-clause-received : goal.returns-in_err-keys-clause-received
returns-in_err-keys-clause-received c = subst (λ (r : Kept). (o : Operation) → IsIn o ((own_document r).units (own_name c.args.parent.now)) → IsIn o (received_of r).operations) c.self.view_is
    (units_received c.self.inside.state c.self.invariant.sound (own_name c.args.parent.now))

pub returns-clause-units : goal.returns-clause-units
returns-clause-units c = c.of_lent.ensures ∙ c.own_list.ensures (own_document c.args.self.now)
    (subst (λ (r : Kept). Tells c.kept-kept.result.now (own_document r)) c.self.view_is c.kept-kept.ensures.tells)

pub returns-clause-received : goal.returns-clause-received
returns-clause-received c = subst (λ (r : Kept). (o : Operation) → IsIn o ((own_document r).units (own_name c.args.parent.now)) → IsIn o (received_of r).operations) c.self.view_is
    (units_received c.self.inside.state c.self.invariant.sound (own_name c.args.parent.now))
