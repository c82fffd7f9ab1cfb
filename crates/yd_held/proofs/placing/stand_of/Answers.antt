use Rattle.std.proofs.Common.{◌∙◌, ap, sym}
use Rattle.yd_held.specs.Numbered.{list_at_place}
use Rattle.yd_held.specs.Stand.{stand_at, stand_of}
use Rattle.yd_held.proofs.NumberOfLemmas.{number_read}
use Rattle.yd_held.proofs.StandLemmas.{stand_lost}
use Rattle.yd_held.proofs.placing.stand_of.Goals as goal

pub returns-in-In : goal.returns-in-In
returns-in-In c =
    let number = number_read c.args.received.now.entries c.entries.result.now c.in-Some.id c.find-near.result c.get.result c.entries.ensures.entries c.get.ensures
    c.entries.ensures.kept.in_order c.find-near.ensures.inside (c.find-near.ensures.covers c.get.result) in
    sym (ap (stand_of c.args.received.now.entries) c.in-Some.is ∙ ap stand_at (number ∙ ap list_at_place c.in-In.is))

pub returns-in_default-place : goal.returns-in_default-place
returns-in_default-place c =
    let number = number_read c.args.received.now.entries c.entries.result.now c.in-Some.id c.find-near.result c.get.result c.entries.ensures.entries c.get.ensures
    c.entries.ensures.kept.in_order c.find-near.ensures.inside (c.find-near.ensures.covers c.get.result) in
    sym (ap (stand_of c.args.received.now.entries) c.in-Some.is ∙ ap stand_at number ∙ stand_lost _ c.in_default-place.not-In)
