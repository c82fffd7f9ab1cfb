use Rattle.yd_firsts.proofs.FoundLemmas.{found_left}
use Rattle.yd_firsts.proofs.collapsing.piece_behind.Goals as goal

pub returns-in_ok-at-in-Some : goal.returns-in_ok-at-in-Some
returns-in_ok-at-in-Some c = found_left c.args.pieces.now c.args.left c.in-Some.id c.in_ok-at-in-Some.at _ c.in-Some.is c.in_ok-at-in-Some.ensures
