use Rattle.std.proofs.Common.{◌<◌, ◌∙◌, ◌++◌, ◌∷◌, [], length, sym, ap, subst}
use Rattle.yd_names.specs.Groups.{AreGrouped, GroupTable}
use Rattle.yd_names.proofs.GroupsLemmas.{placed}
use Rattle.yd_names.proofs.groups.Groups.push.Goals as goal

pub invariant_of-self-2 : goal.invariant_of-self-2
invariant_of-self-2 c =
    subst (λ ns. AreGrouped c.self.inside.codes ns c.push.new.self.heads.items c.push.new.self.before.items)
    (sym (c.push_reserved.ensures.items ∙ ap (λ ns. ns ++ c.in_ok-narrow.narrow ∷ []) c.reserve.ensures.items ∙ ap (λ n. c.self.inside.numbers.items ++ n ∷ []) c.in_ok-narrow.ensures))
    (placed c.self.inside.codes c.self.inside.numbers.items c.self.inside.places.heads.items c.self.inside.places.before.items c.self.invariant
    c.args.number c.push.new.self.heads.items c.push.new.self.before.items (subst (λ (g : GroupTable). c.args.number < length g.codes) (sym c.self.view_is) c.requires) c.push.ensures.size
    (c.in_ok-push.ensures.pushed c.self.inside.numbers.items c.self.invariant.places))
