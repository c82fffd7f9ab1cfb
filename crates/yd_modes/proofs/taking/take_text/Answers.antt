use Rattle.std.proofs.Common.{false, map, take, drop}
use Rattle.std.proofs.lemmas.Result.{on_ok_weaker}
use Rattle.yd_ops.specs.Operation.{text_unit}
use Rattle.yd_state.specs.Lent.{lent_from}
use Rattle.yd_modes.proofs.TakingLemmas.{first_text, gathers_opened}
use Rattle.yd_modes.proofs.taking.take_text.Goals as goal

pub returns : goal.returns
returns c = on_ok_weaker c.take_units.result (λ gathers way show.
    let view = c.args.piece.now in
    let (u, rest, e) = first_text view.id c.args.units.now view.offset view.len c.requires.some c.requires.within in
    gathers_opened way show c.args.gathering.now c.open.new.self c.take_units.new.gathering view.id u rest
    (lent_from view.id false (take view.len (drop view.offset (map text_unit c.args.units.now)))) e (c.in_ok-open.ensures.pieces way show view.id u) (gathers way show)) c.take_units.ensures
