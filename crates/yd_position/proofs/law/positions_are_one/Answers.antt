use Rattle.yd_position.proofs.PositionLemmas.{positions_one}
use Rattle.yd_position.proofs.law.positions_are_one.Goals as goal

pub returns : goal.returns
returns c = positions_one
