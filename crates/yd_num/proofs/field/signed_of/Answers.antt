use Rattle.std.proofs.Common.{drop, arith}
use Rattle.yd_num.proofs.SignedLemmas.{seven_fit}
use Rattle.yd_num.proofs.field.signed_of.Goals as goal

pub overflow_mul-size : goal.overflow_mul-size
overflow_mul-size c = omega (arith, seven_fit c.in-Some.rest.now c.in-Number.value (drop c.in-Number.len c.in-Some.rest.now) c.in-Number.ensures.0)

pub overflow_add-size : goal.overflow_add-size
overflow_add-size c = omega (arith, seven_fit c.in-Some.rest.now c.in-Number.value (drop c.in-Number.len c.in-Some.rest.now) c.in-Number.ensures.0)
