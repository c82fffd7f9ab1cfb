use Rattle.yd_order.proofs.PairLemmas.{pair_filled}
use Rattle.yd_order.proofs.filling.fill_pair.Goals as goal

pub returns : goal.returns
returns c =
    pair_filled c.args.rows.now c.args.cells.now c.args.a c.args.b _ _ c.requires.size c.requires.inside.0 c.requires.inside.1 c.requires.apart c.is_before-first.ensures c.is_before-back.ensures
