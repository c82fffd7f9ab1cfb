use Rattle.yd_origins.proofs.PastLemmas.{closed_is_table, closed_honest, closed_list, closed_order}
use Rattle.yd_origins.proofs.law.closed_part_stays_honest.Goals as goal

pub returns : goal.returns
returns c start = λ names part set t closed. record {
  is_table = closed_is_table part set t closed;
  honest = λ honest. closed_honest part set t closed honest;
  same_list = λ x i. closed_list part set t closed x i;
  same_order = λ a b i j. closed_order part set t closed a b i j;
}
