use Rattle.std.proofs.Common.{◌<◌, ◌∙◌, length, sym, arith}
use Rattle.std.proofs.lemmas.Grind.{common_steps}
use Rattle.yd_names.proofs.ParentsLemmas.{last_within, group_is, group_is_not, group_is_empty}
use Rattle.yd_names.proofs.parents.Parents.last_in_group.Goals as goal

pub returns-in_default-clause-none : goal.returns-in_default-clause-none
returns-in_default-clause-none c = group_is_empty c.args.names.now c.args.self.now.groups c.args.self.now.crowd.items c.requires.owned c.args.parent.now c.args.number
    (sym c.in_default.is ∙ c.last_of.ensures)

pub offset_bounds-names-last : goal.offset_bounds-names-last
offset_bounds-names-last c =
    let lt : c.in-Some.last < length c.args.names.now = last_within c.args.names.now c.args.self.now.groups c.args.self.now.crowd.items c.requires.owned c.args.number c.in-Some.last
    (sym c.in-Some.is ∙ c.last_of.ensures) in
    grind (arith, common_steps)

pub bounds-names-last : goal.bounds-names-last
bounds-names-last c = last_within c.args.names.now c.args.self.now.groups c.args.self.now.crowd.items c.requires.owned c.args.number c.in-Some.last
    (sym c.in-Some.is ∙ c.last_of.ensures)

pub returns-then-is_same_parent-clause-there : goal.returns-then-is_same_parent-clause-there
returns-then-is_same_parent-clause-there c = group_is c.args.names.now c.args.self.now.groups c.args.self.now.crowd.items c.requires.owned c.args.parent.now c.args.number c.in-Some.last
    c.index-names-last.result (sym c.in-Some.is ∙ c.last_of.ensures) (sym c.if-is_same_parent.ensures)

pub returns-clause-none : goal.returns-clause-none
returns-clause-none c = group_is_not c.args.names.now c.args.self.now.groups c.args.self.now.crowd.items c.requires.owned c.args.parent.now c.args.number c.in-Some.last
    c.index-names-last.result (sym c.in-Some.is ∙ c.last_of.ensures) (sym c.if-is_same_parent.ensures)
