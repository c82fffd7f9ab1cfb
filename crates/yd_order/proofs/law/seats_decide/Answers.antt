use Rattle.yd_order.proofs.StandingLemmas as standing
use Rattle.yd_order.proofs.law.seats_decide.Goals as goal

pub returns : goal.returns
returns c = standing.seats_decide
