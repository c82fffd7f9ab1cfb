use Rattle.std.proofs.Common.{◌∙◌, subst}
use Rattle.yd_kept.specs.Marking.{MarksUnits}
use Rattle.yd_kept.proofs.MarkingLemmas.{one_more, next_parted, next_held, still_held, still_parted, marks_none, marks_more, all_spans}
use Rattle.yd_kept.proofs.marking.mark_all.Goals as goal

pub loop-span-init : goal.loop-span-init
loop-span-init c = record {
  all = c.into_iter-span-iterator.ensures.into_iter_gives ∙ c.spans-span-items.ensures.ascending;
  marks = marks_none c.args.store.now;
}

pub mark_deleted-requires-clause-held : goal.mark_deleted-requires-clause-held
mark_deleted-requires-clause-held c = still_held c.args.store.now c.loop-span.store c.loop-span.yielded c.in-Some.span c.loop-span.invariant.marks
    (next_held c.args.store.now c.loop-span.yielded c.loop-span.span-iterator c.next.new.self c.args.ids.now c.in-Some.span c.spans-span-items.ensures.maximal
    c.requires.held c.loop-span.invariant.all c.in-Some.ensures.steps)

pub mark_deleted-requires-clause-front : goal.mark_deleted-requires-clause-front
mark_deleted-requires-clause-front c = (still_parted c.args.store.now c.loop-span.store c.loop-span.yielded c.in-Some.span c.loop-span.invariant.marks
    (next_parted c.args.store.now c.loop-span.yielded c.loop-span.span-iterator c.next.new.self c.args.ids.now c.in-Some.span
    c.requires.parted c.loop-span.invariant.all c.in-Some.ensures.steps)).front

pub mark_deleted-requires-clause-back : goal.mark_deleted-requires-clause-back
mark_deleted-requires-clause-back c = (still_parted c.args.store.now c.loop-span.store c.loop-span.yielded c.in-Some.span c.loop-span.invariant.marks
    (next_parted c.args.store.now c.loop-span.yielded c.loop-span.span-iterator c.next.new.self c.args.ids.now c.in-Some.span
    c.requires.parted c.loop-span.invariant.all c.in-Some.ensures.steps)).back

pub loop-span-preserved : goal.loop-span-preserved
loop-span-preserved c = record {
  all = one_more c.loop-span.yielded c.loop-span.span-iterator c.next.new.self c.args.ids.now c.in-Some.span c.loop-span.invariant.all c.in-Some.ensures.steps;
  marks = marks_more c.args.store.now c.loop-span.store c.mark_deleted.new.self c.loop-span.yielded c.in-Some.span c.loop-span.invariant.marks
      c.is_sound.ensures.arena
      (next_parted c.args.store.now c.loop-span.yielded c.loop-span.span-iterator c.next.new.self c.args.ids.now c.in-Some.span
      c.requires.parted c.loop-span.invariant.all c.in-Some.ensures.steps)
      (next_held c.args.store.now c.loop-span.yielded c.loop-span.span-iterator c.next.new.self c.args.ids.now c.in-Some.span c.spans-span-items.ensures.maximal
      c.requires.held c.loop-span.invariant.all c.in-Some.ensures.steps)
      c.mark_deleted.ensures.marked c.mark_deleted.ensures.placed c.mark_deleted.ensures.contents;
}

pub returns : goal.returns
returns c = subst (MarksUnits c.args.store.now c.loop-span.store)
    (all_spans c.loop-span.yielded c.loop-span.span-iterator c.args.ids.now c.loop-span.invariant.all c.in-None.ensures.steps.0) c.loop-span.invariant.marks
