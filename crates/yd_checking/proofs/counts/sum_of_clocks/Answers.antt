use Rattle.std.proofs.Common.{◌∙◌, arith}
use Rattle.yd_checking.proofs.HeldCountLemmas.{few_clocks, all_clocks}
use Rattle.yd_checking.proofs.counts.sum_of_clocks.Goals as goal

pub overflow_add-sum : goal.overflow_add-sum
overflow_add-sum c = omega (
  arith,
  c.loop-entry.invariant.summed,
  few_clocks c.args.vector.now c.loop-entry.yielded c.loop-entry.entry-iterator c.next.new.self c.in-Some.entry c.iter-entry-items.ensures.vector
      c.loop-entry.invariant.all c.in-Some.ensures.steps,
)

pub returns-clause-sum : goal.returns-clause-sum
returns-clause-sum c = c.loop-entry.invariant.summed ∙ all_clocks c.args.vector.now c.loop-entry.yielded c.loop-entry.entry-iterator c.loop-entry.invariant.all c.in-None.ensures.steps.0
