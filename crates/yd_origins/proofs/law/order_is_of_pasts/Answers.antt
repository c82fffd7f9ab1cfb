use Rattle.yd_origins.proofs.PastLemmas.{pasts_order, first_list, second_list}
use Rattle.yd_origins.proofs.law.order_is_of_pasts.Goals as goal

pub returns : goal.returns
returns c start = λ names one other a b t u in_a in_b agree. record {
  order = pasts_order one other a b t u in_a in_b agree;
  first_list = first_list one other a b t u in_a in_b agree;
  second_list = second_list one other a b t u in_a in_b agree;
}
