use Rattle.yd_origins.proofs.SortedLemmas.{in_origin_order, origin_order_in, order_in_order, in_order_is_origin_order}
use Rattle.yd_origins.proofs.ArrangingLemmas.{any_arrangement}
use Rattle.yd_origins.proofs.law.sorting_gives_order.Goals as goal

pub returns : goal.returns
returns c = record {
  members = λ table x. (origin_order_in table x, in_origin_order table x);
  sorted = λ table t f. record {
    in_order = order_in_order table t f;
    alone = λ list s same. in_order_is_origin_order table t f list s (λ x. (same x).0) (λ x. (same x).1);
    any_arrangement = λ other u same. any_arrangement table other t f u same;
  };
}
