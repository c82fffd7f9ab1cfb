use Rattle.yd_position.proofs.PositionLemmas.{positions_read}
use Rattle.yd_position.proofs.law.positions_are_read.Goals as goal

pub returns : goal.returns
returns c = positions_read
