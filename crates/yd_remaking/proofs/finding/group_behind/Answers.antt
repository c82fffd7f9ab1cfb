use Rattle.std.proofs.Common.{◌+◌, ◌-◌, ◌++◌, ◌∷◌, [], length, ap, ◌∙◌}
use Rattle.yd_state.specs.Lent.{units_left}
use Rattle.yd_copying.specs.Piece.{pieces_units}
use Rattle.yd_remaking.specs.Group.{row_behind}
use Rattle.yd_remaking.specs.Parts.{contents_of}
use Rattle.yd_remaking.proofs.FoundLemmas.{first_piece, valid_left, group_contents, group_counted}
use Rattle.yd_remaking.proofs.finding.group_behind.Goals as goal

pub grow-requires-clause-valid : goal.grow-requires-clause-valid
grow-requires-clause-valid c = valid_left c.args.piece.now (units_left c.args.view.now) c.requires.valid

pub grow-requires-clause-pieces : goal.grow-requires-clause-pieces
grow-requires-clause-pieces c = (first_piece c.args.piece.now c.args.skipped c.args.most c.kind_of-kind.result (units_left c.args.view.now) c.push.new.self.items c.new-pieces.result.items
    c.part_of-first.result c.requires.within c.requires.inside c.requires.some c.requires.makeable c.requires.valid c.part_of-first.ensures c.kind_of-kind.ensures c.new-pieces.ensures.items
    c.in_ok-push.ensures.items).0

pub returns-clause-units : goal.returns-clause-units
returns-clause-units c = group_contents c.args.piece.now (units_left c.args.view.now) c.args.skipped c.args.most (pieces_units c.grow.new.pieces.items) c.push.new.self.items c.part_of-first.result
    c.requires.within c.requires.inside c.requires.some c.requires.makeable c.part_of-first.ensures
    (c.in_ok-push.ensures.items ∙ ap (λ us. us ++ c.part_of-first.result ∷ []) c.new-pieces.ensures.items)
    (c.in_ok-more.ensures.units ∙ ap (λ k. pieces_units c.push.new.self.items ++ contents_of (row_behind k (record { client = c.args.piece.now.id.client; clock = c.args.piece.now.id.clock + c.args.skipped + c.part_of-first.result.len })
    (c.args.most - c.part_of-first.result.len) (units_left c.args.view.now))) c.kind_of-kind.ensures)

pub returns-clause-len : goal.returns-clause-len
returns-clause-len c = group_counted c.args.piece.now (units_left c.args.view.now) c.args.skipped c.args.most c.in_ok-more.more c.part_of-first.result
    c.requires.within c.requires.inside c.requires.some c.requires.makeable c.part_of-first.ensures
    (c.in_ok-more.ensures.len ∙ ap (λ k. length (row_behind k (record { client = c.args.piece.now.id.client; clock = c.args.piece.now.id.clock + c.args.skipped + c.part_of-first.result.len })
    (c.args.most - c.part_of-first.result.len) (units_left c.args.view.now))) c.kind_of-kind.ensures)
