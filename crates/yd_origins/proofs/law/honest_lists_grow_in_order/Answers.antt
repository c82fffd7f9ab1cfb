use Rattle.yd_origins.specs.Operations.{table_of_list}
use Rattle.yd_origins.proofs.GrowingLemmas.{growth_keeps, growth_gives_order}
use Rattle.yd_origins.proofs.HonestLemmas.{own_fits}
use Rattle.yd_origins.proofs.ListTableLemmas.{own_is_table}
use Rattle.yd_origins.proofs.law.honest_lists_grow_in_order.Goals as goal

pub returns : goal.returns
returns c start = λ names set name old new t honest closed sorted grows. record {
  closed = (growth_keeps (table_of_list set name) (own_is_table set t name) (own_fits set t honest name) old new closed sorted grows).0;
  in_order = (growth_keeps (table_of_list set name) (own_is_table set t name) (own_fits set t honest name) old new closed sorted grows).1;
  whole = λ all. growth_gives_order (table_of_list set name) (own_is_table set t name) (own_fits set t honest name) old new closed sorted grows all;
}
