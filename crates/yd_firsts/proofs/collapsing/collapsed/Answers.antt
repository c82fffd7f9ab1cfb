use Rattle.std.proofs.Common.{◌+◌, take}
use Rattle.std.proofs.lemmas.List.{take_more}
use Rattle.yd_firsts.proofs.FoundLemmas.{stand_more}
use Rattle.yd_firsts.proofs.collapsing.collapsed.Goals as goal

pub loop-piece-preserved : goal.loop-piece-preserved
loop-piece-preserved c = stand_more c.args.pieces.now (take c.loop-piece.piece-index c.args.pieces.now) (take (c.loop-piece.piece-index + 1) c.args.pieces.now)
    c.loop-piece.ones.items c.push.new.self.items _ c.in-Some.one c.loop-piece.invariant c.in-Some.ensures
    (take_more c.args.pieces.now c.loop-piece.piece-index _ c.loop-piece-test.true) c.in_ok-push.ensures.items
