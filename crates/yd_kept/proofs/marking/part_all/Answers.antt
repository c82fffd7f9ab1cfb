use Rattle.std.proofs.Common.{◌∙◌, subst}
use Rattle.yd_store.proofs.IntegratingLemmas.{keeps_itself, keeps_both}
use Rattle.yd_kept.specs.Marking.{AreParted}
use Rattle.yd_kept.proofs.MarkingLemmas.{one_more, next_of_set, parted_more, all_spans}
use Rattle.yd_kept.proofs.marking.part_all.Goals as goal

pub loop-span-init : goal.loop-span-init
loop-span-init c = record {
  all = c.into_iter-span-iterator.ensures.into_iter_gives ∙ c.spans-span-items.ensures.ascending;
  parted = tt;
  units = keeps_itself c.args.store.now;
}

pub part_span-requires : goal.part_span-requires
part_span-requires c = (next_of_set c.loop-span.yielded c.loop-span.span-iterator c.next.new.self c.args.ids.now c.in-Some.span
    c.spans-span-items.ensures.maximal c.loop-span.invariant.all c.in-Some.ensures.steps).0

pub loop-span-preserved : goal.loop-span-preserved
loop-span-preserved c = record {
  all = one_more c.loop-span.yielded c.loop-span.span-iterator c.next.new.self c.args.ids.now c.in-Some.span c.loop-span.invariant.all c.in-Some.ensures.steps;
  parted = parted_more c.loop-span.store c.part_span.new.store c.loop-span.yielded c.in-Some.span c.part_span.ensures.units c.loop-span.invariant.parted
      c.in_ok-part_span.ensures.parted;
  units = keeps_both c.args.store.now c.loop-span.store c.part_span.new.store c.loop-span.invariant.units c.part_span.ensures.units;
}

pub returns-in_err-part_span-clause-units : goal.returns-in_err-part_span-clause-units
returns-in_err-part_span-clause-units c =
    keeps_both c.args.store.now c.loop-span.store c.part_span.new.store c.loop-span.invariant.units c.part_span.ensures.units

pub returns-clause-parted : goal.returns-clause-parted
returns-clause-parted c = subst (AreParted c.loop-span.store)
    (all_spans c.loop-span.yielded c.loop-span.span-iterator c.args.ids.now c.loop-span.invariant.all c.in-None.ensures.steps.0) c.loop-span.invariant.parted
