use Rattle.std.proofs.Common.{List, subst}
use Rattle.yd_entries.specs.declared.entry.Entry.{Entry}
use Rattle.yd_held.proofs.WalkLemmas.{one_more, all_came}
use Rattle.yd_stretches.specs.Stretches.{AreGathered, stretch_lists}
use Rattle.yd_stretches.proofs.gathering.gathered.Goals as goal

pub loop-entry-preserved : goal.loop-entry-preserved
loop-entry-preserved c = record {
  all = one_more c.args.taken.now c.loop-entry.yielded c.loop-entry.entry-iterator c.next.new.self c.in-Some.entry c.loop-entry.invariant.all c.in-Some.ensures.steps;
  gathered = c.in_ok-gather_one.ensures c.loop-entry.yielded c.loop-entry.invariant.gathered;
}

pub returns : goal.returns
returns c = subst (λ (seen : List Entry). AreGathered c.args.stale.now seen (stretch_lists c.loop-entry.buckets.items))
    (all_came c.args.taken.now c.loop-entry.yielded _ c.loop-entry.invariant.all c.in-None.ensures.steps.0) c.loop-entry.invariant.gathered
