use Rattle.std.proofs.Common.{◌∙◌, ◌<◌, ◌++◌, ◌∷◌, [], length, sym, ap, subst, arith}
use Rattle.yd_names.specs.Groups.{AreGrouped}
use Rattle.yd_names.proofs.CodesLemmas.{one_longer}
use Rattle.yd_names.proofs.ItemsLemmas.{on_any, on_failure, on_success}
use Rattle.yd_names.proofs.GroupsLemmas.{kept_all, placed}
use Rattle.yd_names.proofs.groups.Groups.push_group.Goals as goal

pub returns-in_err-number-clause-kept : goal.returns-in_err-number-clause-kept
returns-in_err-number-clause-kept c = on_any c.from_residual-in_err-number.result
    (kept_all c.args.self.now c.self.inside.codes c.open.new.codes c.self.inside.numbers.items c.reserve.new.self.items c.self.view_is c.reserve.ensures.items
    (c.open.ensures.kept c.self.inside.numbers.items c.self.inside.places.before.items c.self.invariant).1)

pub returns-then-is_err-clause-kept : goal.returns-then-is_err-clause-kept
returns-then-is_err-clause-kept c = kept_all c.args.self.now c.self.inside.codes c.leave.new.codes c.self.inside.numbers.items c.reserve.new.self.items c.self.view_is c.reserve.ensures.items
    (λ n k e. (c.leave.ensures c.self.inside.numbers.items c.self.inside.places.before.items
    (subst (λ hs. AreGrouped c.open.new.codes c.self.inside.numbers.items hs c.self.inside.places.before.items) (sym (on_failure c.push.result (sym c.if-is_err.ensures.value) c.push.ensures.unchanged).0)
    (c.open.ensures.kept c.self.inside.numbers.items c.self.inside.places.before.items c.self.invariant).0)).1 n k e
    ∙ (c.open.ensures.kept c.self.inside.numbers.items c.self.inside.places.before.items c.self.invariant).1 n k e)

pub invariant_of-self-2 : goal.invariant_of-self-2
invariant_of-self-2 c =
    subst (λ ns. AreGrouped c.open.new.codes ns c.push.new.self.heads.items c.push.new.self.before.items)
    (sym (c.push_reserved.ensures.items ∙ ap (λ ns. ns ++ c.in_ok-number.number ∷ []) c.reserve.ensures.items))
    (placed c.open.new.codes c.self.inside.numbers.items c.open.new.heads.items c.self.inside.places.before.items
    (c.open.ensures.kept c.self.inside.numbers.items c.self.inside.places.before.items c.self.invariant).0
    c.in_ok-number.number c.push.new.self.heads.items c.push.new.self.before.items below c.push.ensures.size
    (on_success c.push.result c.if-is_err.ensures.negation c.push.ensures.pushed c.self.inside.numbers.items
    (c.open.ensures.kept c.self.inside.numbers.items c.self.inside.places.before.items c.self.invariant).0.places))
  where
    below : c.in_ok-number.number < length c.open.new.codes
    below = let long = one_longer c.args.code c.self.inside.codes in let size = ap (λ (cs : _). length cs) c.in_ok-number.ensures.opened in
        omega (arith, long, size, c.in_ok-number.ensures.number)
