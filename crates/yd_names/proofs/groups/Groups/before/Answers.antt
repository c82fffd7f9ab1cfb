use Rattle.std.proofs.Common.{◌≡◌, ◌<◌, IfSome, length, sym, take, subst}
use Rattle.std.specs.Prelude.{slice_get}
use Rattle.yd_names.specs.Codes.{last_place}
use Rattle.yd_names.specs.Groups.{GroupTable}
use Rattle.yd_names.proofs.GroupsLemmas.{found_before}
use Rattle.yd_names.proofs.groups.Groups.before.Goals as goal

pub returns : goal.returns
returns c = subst (λ (g : GroupTable). IfSome (slice_get g.numbers c.args.place) (λ number. c.place_of.result ≡ last_place number (take c.args.place g.numbers))) c.self.view_is
    (found_before c.self.inside.codes c.self.inside.numbers.items c.self.inside.places.heads.items c.self.inside.places.before.items c.self.invariant
    c.args.place c.index.result.now c.place_of.result (subst (λ (g : GroupTable). c.args.place < length g.numbers) (sym c.self.view_is) c.requires) c.index.ensures c.place_of.ensures)
