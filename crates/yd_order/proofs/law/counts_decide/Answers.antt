use Rattle.yd_origins.specs.Sorted.{goes_first}
use Rattle.yd_origins.specs.Table.{ids_of}
use Rattle.yd_order.proofs.ArrangementLemmas.{one_order}
use Rattle.yd_order.proofs.SortedLemmas.{counts_line, sorted_in_order, in_order_is_order}
use Rattle.yd_order.proofs.law.counts_decide.Goals as goal

pub returns : goal.returns
returns c = record {
  in_order = λ table t. sorted_in_order (goes_first table) (counts_line table) (ids_of table) t.distinct;
  alone = λ table list t. in_order_is_order table t.distinct list;
  any_arrangement = one_order;
}
