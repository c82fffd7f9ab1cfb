use Rattle.std.proofs.Common.{refl}
use Rattle.yd_gathering.proofs.GathererLemmas.{gathers_late_v1, gathers_row_v1}
use Rattle.yd_gathering.proofs.gatherer.GathererUpdateTaker.take_v1.Goals as goal

pub returns-then-is_in_turn-clause-took : goal.returns-then-is_in_turn-clause-took
returns-then-is_in_turn-clause-took c = gathers_row_v1 c.args.self.now _ c.args.bytes.now (c.is_in_turn.ensures c.if-is_in_turn.true) refl c.in_ok-take_v1.ensures.took

pub returns-clause-took : goal.returns-clause-took
returns-clause-took c = gathers_late_v1 c.args.self.now _ c.args.bytes.now refl c.in_ok-put_v1.ensures.took
