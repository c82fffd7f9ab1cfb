use Rattle.yd_position.proofs.PositionLemmas.{number_in_range}
use Rattle.yd_position.proofs.reading.read_assoc.Goals as goal

pub whole_number-requires : goal.whole_number-requires
whole_number-requires c = number_in_range c.args.parts.now c.in-Ok.number c.signed.new.self c.in-Ok.ensures.given
