use Rattle.std.proofs.Common.{arith}
use Rattle.yd_store_cases.proofs.changing.take_back.Goals as goal

pub take_back-requires-clause-below : goal.take_back-requires-clause-below
take_back-requires-clause-below c = omega (arith, c.if-id-next_clock.true, c.next_clock.ensures.value, c.part_at.ensures.units.nexts c.args.id.client.0)
