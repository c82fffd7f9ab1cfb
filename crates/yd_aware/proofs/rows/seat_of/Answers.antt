use Rattle.std.proofs.Common.{◌∙◌}
use Rattle.yd_aware.proofs.TreeLemmas.{lookup-seat}
use Rattle.yd_aware.proofs.rows.seat_of.Goals as goal

pub returns : goal.returns
returns c = c.get.ensures.value ∙ lookup-seat c.args.client c.args.rows.now.entries
