use Rattle.std.proofs.Common.{map, ap, ◌∙◌}
use Rattle.yd_any.specs.Tree.{no_fields}
use Rattle.yd_doc.specs.Kept.{own_document}
use Rattle.yd_shown.specs.Seen.{seen_units}
use Rattle.yd_shown.specs.Shown.{most_types, value_within}
use Rattle.yd_modes.specs.Gathering.{told}
use Rattle.yd_modes.specs.Roles.{pieces_by, Delta}
use Rattle.yd_modes.proofs.RoleLemmas.{by_delta}
use Rattle.yd_modes.proofs.showing.delta.Goals as goal

pub returns : goal.returns
returns c =
    let d = own_document c.args.replica.now in
    c.in_ok-pieces.ensures
    ∙ ap (λ m. map told (pieces_by Delta (value_within m d) no_fields (seen_units d c.args.list.now))) c.most_types-most.ensures
    ∙ ap (map told) (by_delta (value_within most_types d) no_fields (seen_units d c.args.list.now))
