use Rattle.std.proofs.Common.{◌∙◌, ◌-◌, ◌++◌, length, take, sym, ap, subst}
use Rattle.std.specs.Option.{option_to_list}
use Rattle.std.specs.Prelude.{IsSome}
use Rattle.yd_names.specs.Groups.{GroupTable}
use Rattle.yd_names.proofs.ItemsLemmas.{without_last}
use Rattle.yd_names.proofs.GroupsLemmas.{popped_group, kept_front}
use Rattle.yd_names.proofs.groups.Groups.pop.Goals as goal

pub invariant_of-self : goal.invariant_of-self
invariant_of-self c = (popped_group c.self.inside.codes c.leave.new.codes c.self.inside.numbers.items c.pop.new.self.items c.self.inside.places.heads.items c.pop-in-Some.new.self.heads.items
    c.leave.new.heads.items c.self.inside.places.before.items c.pop-in-Some.new.self.before.items c.in-Some.number c.self.invariant
    (c.pop.ensures.items ∙ ap (λ o. c.pop.new.self.items ++ option_to_list o) c.in-Some.is) c.pop-in-Some.ensures.size (c.pop-in-Some.ensures.popped c.pop.new.self.items) c.leave.ensures).0

pub returns-in-Some : goal.returns-in-Some
returns-in-Some c = kept_front c.args.self.now c.self.inside.codes c.leave.new.codes c.self.inside.numbers.items c.pop.new.self.items (length c.args.self.now.numbers - 1) c.self.view_is
    (without_last c.self.inside.numbers.items c.pop.new.self.items c.pop.result c.pop.ensures.items (subst (λ o. IsSome o) (sym c.in-Some.is) cc)
    ∙ ap (λ (g : GroupTable). take (length g.numbers - 1) c.self.inside.numbers.items) c.self.view_is)
    (popped_group c.self.inside.codes c.leave.new.codes c.self.inside.numbers.items c.pop.new.self.items c.self.inside.places.heads.items c.pop-in-Some.new.self.heads.items
    c.leave.new.heads.items c.self.inside.places.before.items c.pop-in-Some.new.self.before.items c.in-Some.number c.self.invariant
    (c.pop.ensures.items ∙ ap (λ o. c.pop.new.self.items ++ option_to_list o) c.in-Some.is) c.pop-in-Some.ensures.size (c.pop-in-Some.ensures.popped c.pop.new.self.items) c.leave.ensures).1
