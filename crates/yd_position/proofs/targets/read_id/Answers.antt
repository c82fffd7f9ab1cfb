use Rattle.yd_position.proofs.PositionLemmas.{unsigned_part_in_range}
use Rattle.yd_position.proofs.targets.read_id.Goals as goal

pub returns-then-form-from-clause-ids : goal.returns-then-form-from-clause-ids
returns-then-form-from-clause-ids c = record {
  client = unsigned_part_in_range c.args.parts.now c.in_ok-client.client c.unsigned.new.self c.in_ok-client.ensures.given;
  clock = unsigned_part_in_range c.unsigned.new.self c.in_ok-clock.clock c.unsigned-2.new.self c.in_ok-clock.ensures.given;
}

pub returns-clause-ids : goal.returns-clause-ids
returns-clause-ids c = record {
  client = unsigned_part_in_range c.args.parts.now c.in_ok-client.client c.unsigned.new.self c.in_ok-client.ensures.given;
  clock = unsigned_part_in_range c.unsigned.new.self c.in_ok-clock.clock c.unsigned-2.new.self c.in_ok-clock.ensures.given;
}
