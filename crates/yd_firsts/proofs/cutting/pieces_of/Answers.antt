use Rattle.std.proofs.Common.{take}
use Rattle.std.proofs.lemmas.List.{take_more}
use Rattle.yd_firsts.proofs.CutLemmas.{pieces_more}
use Rattle.yd_firsts.proofs.cutting.pieces_of.Goals as goal

pub loop-stretch-preserved : goal.loop-stretch-preserved
loop-stretch-preserved c = pieces_more c.loop-stretch.pieces.items c.push_pieces.new.pieces.items (take c.loop-stretch.stretch-index c.args.stretches.now) _ _
    c.loop-stretch.invariant c.in_ok-push_pieces.ensures (take_more c.args.stretches.now c.loop-stretch.stretch-index _ c.loop-stretch-test.true)
