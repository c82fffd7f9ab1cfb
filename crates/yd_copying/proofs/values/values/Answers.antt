use Rattle.std.proofs.Common.{◌∙◌}
use Rattle.yd_any.specs.AnyView.{any_trees}
use Rattle.yd_copying.proofs.ValueLemmas.{trees_next, trees_end}
use Rattle.yd_copying.proofs.values.values.Goals as goal

pub loop-piece-preserved : goal.loop-piece-preserved
loop-piece-preserved c = trees_next c.args.pieces.now c.loop-piece.piece-index c.piece-item.result (any_trees c.loop-piece.values) (any_trees c.add_values.new.all) c.loop-piece-test.true
    c.piece-item.is c.in_ok-add_values.ensures ∙ c.loop-piece.invariant

pub returns : goal.returns
returns c = trees_end c.args.pieces.now c.loop-piece.piece-index (any_trees c.loop-piece.values) c.loop-piece-test.false ∙ c.loop-piece.invariant
