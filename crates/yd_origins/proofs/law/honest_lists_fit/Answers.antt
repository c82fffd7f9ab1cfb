use Rattle.yd_origins.proofs.ListTableLemmas.{own_is_table, own_order, own_left}
use Rattle.yd_origins.proofs.HonestLemmas.{own_fits, right_is}
use Rattle.yd_origins.proofs.law.honest_lists_fit.Goals as goal

pub returns : goal.returns
returns c start = λ names set name t. record {
  is_table = own_is_table set t name;
  same = λ a b i j. own_order set t name a b i j;
  lefts = λ x i. own_left set t name x i;
  rights = λ honest x i. right_is set t honest name x i;
  fits = λ honest. own_fits set t honest name;
}
