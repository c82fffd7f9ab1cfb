use Rattle.std.proofs.Common.{map, ap, ◌∙◌}
use Rattle.yd_order.specs.Counting.{id_of_rank}
use Rattle.yd_order.proofs.SortedLemmas.{sorted_rows}
use Rattle.yd_order.proofs.arranging.sorted.Goals as goal

pub returns : goal.returns
returns c =
    c.in_ok-order.ensures
    ∙ ap (map id_of_rank) c.deref.ensures.value
    ∙ sorted_rows c.args.rows.now c.requires.table c.in_ok-ranks.ranks.items c.sort_unstable.new.self.items c.in_ok-ranks.ensures c.sort_unstable.ensures.permutation c.sort_unstable.ensures.sorted
