use Rattle.yd_origins.proofs.GrowingLemmas.{growth_keeps, growth_gives_order}
use Rattle.yd_origins.proofs.law.scans_give_order.Goals as goal

pub returns : goal.returns
returns c = λ table old new t f closed sorted grows. record {
  closed = (growth_keeps table t f old new closed sorted grows).0;
  in_order = (growth_keeps table t f old new closed sorted grows).1;
  whole = λ all. growth_gives_order table t f old new closed sorted grows all;
}
