use Rattle.std.proofs.Common.{◌∙◌}
use Rattle.yd_state.specs.Lent.{units_left}
use Rattle.yd_remaking.proofs.FoundLemmas.{fewer}
use Rattle.yd_remaking.proofs.LastLemmas.{piece_passed}
use Rattle.yd_remaking.proofs.last.last_made.Goals as goal

pub loop-piece-smaller : goal.loop-piece-smaller
loop-piece-smaller c = fewer c.in-Some.piece (units_left c.loop-piece.view) (units_left c.next.new.self) c.in-Some.ensures.some c.in-Some.ensures.within c.in-Some.ensures.lends

pub loop-piece-preserved : goal.loop-piece-preserved
loop-piece-preserved c = piece_passed c.args.named.now c.loop-piece.last c.last_in-last.result c.in-Some.piece (units_left c.loop-piece.view) (units_left c.next.new.self)
    c.in-Some.ensures.within c.in-Some.ensures.lends c.last_in-last.ensures ∙ c.loop-piece.invariant
