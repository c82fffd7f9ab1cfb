use Rattle.std.proofs.lemmas.Result.{on_ok_weaker}
use Rattle.yd_view.proofs.TextLemmas.{deleted_piece, text_piece, other_piece}
use Rattle.yd_view.proofs.reading.take_piece.Goals as goal

pub returns-then-piece : goal.returns-then-piece
returns-then-piece c = deleted_piece c.args.halves.now c.args.piece.now c.if-piece.true

pub returns-in-Str : goal.returns-in-Str
returns-in-Str c = on_ok_weaker c.take_text.result
    (text_piece c.args.halves.now c.take_text.new.halves c.args.piece.now c.in-Str.units c.if-piece.false c.in-Str.is) c.take_text.ensures

pub returns-in_default : goal.returns-in_default
returns-in_default c = on_ok_weaker c.take.result
    (other_piece c.args.halves.now c.take.new.self c.args.piece.now c.requires.some c.requires.within c.if-piece.false c.in_default.not-Str) c.take.ensures.takes
