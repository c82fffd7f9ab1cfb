use Rattle.std.proofs.Common.{refl, arith}
use Rattle.yd_order.proofs.seating.are_seated.Goals as goal

pub returns : goal.returns
returns c = (
  (λ told. record {
    order_size = c.if-proposal-count.false;
    seats_size = c.if-seats-count.false;
    each = λ at lt. c.loop-at.invariant at (omega (arith, lt, c.loop-at-test.false));
  }),
  (λ seated. refl),
)
