use Rattle.std.proofs.Common.{subst}
use Rattle.yd_words.specs.Each.{Each}
use Rattle.yd_words.specs.Member.{IsIn}
use Rattle.yd_entries.specs.declared.entry.Entry.{Entry}
use Rattle.yd_held.proofs.TryingLemmas.{entry_more}
use Rattle.yd_held.proofs.WalkLemmas.{one_more, all_came}
use Rattle.yd_held.proofs.trying.clients_of.Goals as goal

pub loop-entry-preserved : goal.loop-entry-preserved
loop-entry-preserved c = record {
  all = one_more c.args.entries.now c.loop-entry.yielded c.loop-entry.entry-iterator c.next.new.self c.in-Some.entry c.loop-entry.invariant.all c.in-Some.ensures.steps;
  tried = entry_more c.loop-entry.yielded c.in-Some.entry c.loop-entry.clients.items _ c.in_ok-try_client.ensures.tries c.loop-entry.invariant.tried;
}

pub returns : goal.returns
returns c = subst (Each (λ (t : Entry). IsIn t.id.client c.loop-entry.clients.items))
    (all_came c.args.entries.now c.loop-entry.yielded _ c.loop-entry.invariant.all c.in-None.ensures.steps.0) c.loop-entry.invariant.tried
