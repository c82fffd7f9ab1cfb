use Rattle.std.proofs.Common.{[], ◌∷◌, ◌++◌}
use Rattle.yd_agreement.specs.Sweep.{runs_in}
use Rattle.yd_agreement.proofs.EndsLemmas.{done_all, done_more, ends_all, ends_next, left_is_span}
use Rattle.yd_agreement.proofs.parting.parted_by.Goals as goal

pub parted_at_ends-requires-clause-span : goal.parted_at_ends-requires-clause-span
parted_at_ends-requires-clause-span c = left_is_span c.args.set.now c.loop-span.invariant.done c.loop-span.span-iterator c.next.new.self c.in-Some.span
    c.spans-span-items.ensures.maximal c.loop-span.invariant.both c.in-Some.ensures.steps

pub loop-span-preserved : goal.loop-span-preserved
loop-span-preserved c = record {
  done = c.loop-span.invariant.done ++ c.in-Some.span ∷ [];
  both = done_more c.args.set.now c.loop-span.invariant.done c.loop-span.span-iterator c.next.new.self c.in-Some.span c.loop-span.invariant.both c.in-Some.ensures.steps;
  first_so_far = ends_next (runs_in c.args.full.now) c.loop-span.invariant.done c.in-Some.span c.loop-span.first c.parted_at_ends.result c.first_of-first.result
      c.loop-span.invariant.first_so_far c.parted_at_ends.ensures c.first_of-first.ensures;
}

pub returns : goal.returns
returns c = ends_all (runs_in c.args.full.now) c.args.set.now c.loop-span.invariant.done c.loop-span.first c.spans-span-items.ensures.maximal
    (done_all c.args.set.now c.loop-span.invariant.done c.loop-span.span-iterator c.loop-span.invariant.both c.in-None.ensures.steps.0) c.loop-span.invariant.first_so_far
