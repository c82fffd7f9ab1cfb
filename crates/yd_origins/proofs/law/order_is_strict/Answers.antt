use Rattle.yd_origins.proofs.FittingLemmas.{one_way, through, left_before, right_behind}
use Rattle.yd_origins.proofs.law.order_is_strict.Goals as goal

pub returns : goal.returns
returns c = λ table t f. record {
  one_way = λ a b p q e. one_way table t f a b p q e;
  through = λ x y z p q r e g. through table t f x y z p q r e g;
  after_left = λ x y p e. left_before table t f x y p (rw e at (t.has_left x p)) e;
  before_right = λ x y p e. right_behind table t f x y p (rw e at (t.has_right x p)) e;
}
