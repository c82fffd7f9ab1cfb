use Rattle.std.proofs.Common.{◌∙◌, ◌<◌, length, sym, ap, subst}
use Rattle.yd_names.specs.Codes.{last_place}
use Rattle.yd_names.specs.Groups.{GroupTable}
use Rattle.yd_names.proofs.GroupsLemmas.{found_last}
use Rattle.yd_names.proofs.groups.Groups.last_of.Goals as goal

pub returns : goal.returns
returns c = found_last c.self.inside.codes c.self.inside.numbers.items c.self.inside.places.heads.items c.self.inside.places.before.items c.self.invariant
    c.args.number c.index.result.now c.place_of.result (subst (λ (g : GroupTable). c.args.number < length g.codes) (sym c.self.view_is) c.requires) c.index.ensures c.place_of.ensures
    ∙ ap (λ (g : GroupTable). last_place c.args.number g.numbers) c.self.view_is
