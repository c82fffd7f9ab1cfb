use Rattle.std.proofs.Common.{sym, subst, ◌++◌, ◌∷◌, [], length}
use Rattle.std.proofs.lemmas.Cmp.{tied_itself}
use Rattle.yd_names.specs.Groups.{KeepsFront}
use Rattle.yd_names.specs.Order.{own_total}
use Rattle.yd_names.specs.Parents.{AreOwned}
use Rattle.yd_names.proofs.ItemsLemmas.{on_any, on_failure, on_success}
use Rattle.yd_names.proofs.OwnedLemmas.{owned_again, owned_joined, owned_kept}
use Rattle.yd_names.proofs.parents.Parents.push_crowded.Goals as goal

pub returns-in_err-push_group-clause-unchanged : goal.returns-in_err-push_group-clause-unchanged
returns-in_err-push_group-clause-unchanged c = on_any c.from_residual.result
    (owned_kept c.args.names.now c.args.self.now.groups c.args.self.now.crowd.items c.requires.owned c.push_group.new.self c.in_err-push_group.ensures.kept)

pub returns-then-is_err-clause-unchanged : goal.returns-then-is_err-clause-unchanged
returns-then-is_err-clause-unchanged c = subst (AreOwned c.args.names.now c.truncate.new.self) (sym (on_failure c.join_crowd.result (sym c.if-is_err.ensures.value) c.join_crowd.ensures.unchanged))
    (owned_again c.args.names.now c.args.self.now.groups c.args.self.now.crowd.items c.requires.owned 4294967295 c.truncate.new.self
    (subst (λ groups. KeepsFront (length c.args.names.now) groups c.truncate.new.self) c.in_ok-push_group.ensures.pushed c.truncate.ensures))

pub returns-clause-pushed : goal.returns-clause-pushed
returns-clause-pushed c = subst (λ groups. AreOwned (c.args.names.now ++ c.args.name.now ∷ []) groups c.join_crowd.new.crowd.items) (sym c.in_ok-push_group.ensures.pushed)
    (owned_joined c.args.names.now c.args.self.now.groups c.args.self.now.crowd.items c.requires.owned c.args.name.now 4294967295 c.join_crowd.new.crowd.items c.push_group.ensures.fresh c.requires.new
    (on_success c.join_crowd.result c.if-is_err.ensures.negation c.join_crowd.ensures.joined c.args.name.now (tied_itself own_total c.args.name.now)))
