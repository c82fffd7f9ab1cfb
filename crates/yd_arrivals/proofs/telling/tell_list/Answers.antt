use Rattle.yd_state.specs.Lent.{units_left}
use Rattle.yd_doc.proofs.CountedLemmas.{fewer_left}
use Rattle.yd_arrivals.proofs.telling.tell_list.Goals as goal

pub loop-piece-smaller : goal.loop-piece-smaller
loop-piece-smaller c = fewer_left c.in-Some.piece (units_left c.loop-piece.view) (units_left c.next.new.self) c.in-Some.ensures.some c.in-Some.ensures.within c.in-Some.ensures.lends
