use Rattle.std.proofs.Common.{sym, subst, ◌++◌, ◌∷◌, []}
use Rattle.yd_names.specs.Parents.{AreOwned}
use Rattle.yd_names.proofs.ItemsLemmas.{on_any}
use Rattle.yd_names.proofs.OwnedLemmas.{owned_coded, owned_kept}
use Rattle.yd_names.proofs.parents.Parents.push_parent.Goals as goal

pub returns-in_err-push_group-clause-unchanged : goal.returns-in_err-push_group-clause-unchanged
returns-in_err-push_group-clause-unchanged c = on_any c.from_residual.result
    (owned_kept c.args.names.now c.args.self.now.groups c.args.self.now.crowd.items c.requires.owned c.push_group.new.self c.in_err-push_group.ensures.kept)

pub returns-clause-pushed : goal.returns-clause-pushed
returns-clause-pushed c = subst (λ groups. AreOwned (c.args.names.now ++ c.args.name.now ∷ []) groups c.args.self.now.crowd.items) (sym c.in_ok-push_group.ensures.pushed)
    (owned_coded c.args.names.now c.args.self.now.groups c.args.self.now.crowd.items c.requires.owned c.args.name.now c.code_of_parent-code.result c.push_group.ensures.fresh c.requires.new
    c.code_of_parent-code.ensures.code)
