use Rattle.yd_origins.proofs.PartLemmas.{part_is_table, part_order, part_fits}
use Rattle.yd_origins.proofs.law.part_keeps_order.Goals as goal

pub returns : goal.returns
returns c = λ part table t p. record {
  is_table = part_is_table part table t p;
  same = λ a b i j. part_order part table t p a b i j;
  fits = λ f. part_fits part table t p f;
}
