use Rattle.std.proofs.Common.{sym, subst, ◌++◌, ◌∷◌, [], length}
use Rattle.yd_names.specs.Names.{IsLastOf}
use Rattle.yd_names.specs.Parents.{AreOwned}
use Rattle.yd_names.proofs.OwnedLemmas.{owned_beside}
use Rattle.yd_names.proofs.parents.Parents.push.Goals as goal

pub returns-in-Some-clause-pushed : goal.returns-in-Some-clause-pushed
returns-in-Some-clause-pushed c = subst (λ groups. AreOwned (c.args.names.now ++ c.args.name.now ∷ []) groups c.args.self.now.crowd.items) (sym c.in_ok-push.ensures.pushed)
    (owned_beside c.args.names.now c.args.self.now.groups c.args.self.now.crowd.items c.requires c.args.name.now c.in-Some.last c.number_of.result
    (subst (IsLastOf c.args.names.now c.args.name.now.parent (length c.args.names.now)) c.in-Some.is c.last_of.ensures).0 c.number_of.ensures.number)
