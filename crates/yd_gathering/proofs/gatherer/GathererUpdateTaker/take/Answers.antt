use Rattle.std.proofs.Common.{refl}
use Rattle.yd_ops.specs.View.{update_value}
use Rattle.yd_gathering.proofs.GathererLemmas.{gathers_late, gathers_row}
use Rattle.yd_gathering.proofs.gatherer.GathererUpdateTaker.take.Goals as goal

pub returns-then-is_in_turn : goal.returns-then-is_in_turn
returns-then-is_in_turn c = gathers_row c.args.self.now _ (update_value c.args.update) (c.is_in_turn.ensures c.if-is_in_turn.true) refl c.in_ok-take.ensures

pub returns : goal.returns
returns c = gathers_late c.args.self.now _ (update_value c.args.update) refl c.in_ok-put.ensures
