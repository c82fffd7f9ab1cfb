use Rattle.std.proofs.Common.{◌∙◌, map}
use Rattle.yd_ops.specs.View.{unit_value}
use Rattle.yd_copying.proofs.ValueLemmas.{json_next}
use Rattle.yd_copying.proofs.values.json_units.Goals as goal

pub loop-piece-preserved : goal.loop-piece-preserved
loop-piece-preserved c = json_next c.args.pieces.now c.loop-piece.piece-index c.piece-item.result (map unit_value c.loop-piece.units) (map unit_value c.add_json.new.all) c.loop-piece-test.true
    c.piece-item.is c.in_ok-add_json.ensures ∙ c.loop-piece.invariant
