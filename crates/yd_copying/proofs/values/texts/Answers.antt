use Rattle.std.proofs.Common.{◌∙◌}
use Rattle.yd_copying.proofs.ValueLemmas.{texts_next}
use Rattle.yd_copying.proofs.values.texts.Goals as goal

pub loop-piece-preserved : goal.loop-piece-preserved
loop-piece-preserved c = texts_next c.args.pieces.now c.loop-piece.piece-index c.piece-item.result c.loop-piece.units.items c.add_text.new.all.items c.loop-piece-test.true c.piece-item.is
    c.in_ok-add_text.ensures ∙ c.loop-piece.invariant
