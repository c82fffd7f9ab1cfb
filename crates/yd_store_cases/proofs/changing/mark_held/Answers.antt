use Rattle.std.proofs.Common.{arith}
use Rattle.yd_store_cases.proofs.changing.mark_held.Goals as goal

pub mark_deleted-requires-clause-held : goal.mark_deleted-requires-clause-held
mark_deleted-requires-clause-held c = omega (arith, c.requires.held, c.part_at.ensures.units.nexts c.args.span.client.0, c.part_at-2.ensures.units.nexts c.args.span.client.0)

pub mark_deleted-requires-clause-front : goal.mark_deleted-requires-clause-front
mark_deleted-requires-clause-front c = c.part_at-2.ensures.units.borders c.args.span.client.0 c.args.span.clock c.in_ok-part_at.ensures.border

pub mark_deleted-requires-clause-back : goal.mark_deleted-requires-clause-back
mark_deleted-requires-clause-back c = c.in_ok-part_at-2.ensures.border
