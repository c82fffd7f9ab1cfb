use Rattle.std.proofs.Common.{◌∙◌, true≢false}
use Rattle.yd_honesty.proofs.ClocksLemmas.{joins_none, joins_more, joins_all, next_member, next_all, ends_member, member_in_range}
use Rattle.yd_honesty.proofs.pasts.join.Goals as goal

pub loop-client-init : goal.loop-client-init
loop-client-init c = record {
  all = c.into_iter-client-iterator.ensures.into_iter_gives ∙ c.iter-client-items.ensures.descending;
  so = joins_none c.args.other.now c.args.past.now;
}

pub raise-requires-clause-client : goal.raise-requires-clause-client
raise-requires-clause-client c = (member_in_range c.args.other.now c.iter-client-items.ensures.vector (c.in-Some.client, c.in-Some.clock)
    (next_member c.args.other.now c.loop-client.yielded c.loop-client.client-iterator c.next.new.self (c.in-Some.client, c.in-Some.clock) c.loop-client.invariant.all c.in-Some.ensures.steps)).0

pub raise-requires-clause-clock : goal.raise-requires-clause-clock
raise-requires-clause-clock c = (member_in_range c.args.other.now c.iter-client-items.ensures.vector (c.in-Some.client, c.in-Some.clock)
    (next_member c.args.other.now c.loop-client.yielded c.loop-client.client-iterator c.next.new.self (c.in-Some.client, c.in-Some.clock) c.loop-client.invariant.all c.in-Some.ensures.steps)).1

pub loop-client-preserved-then-branch : goal.loop-client-preserved-then-branch
loop-client-preserved-then-branch c = record {
  all = next_all c.loop-client.yielded c.loop-client.client-iterator c.next.new.self _ (c.in-Some.client, c.in-Some.clock) c.loop-client.invariant.all c.in-Some.ensures.steps;
  so = joins_more c.args.other.now c.iter-client-items.ensures.vector c.args.past.now c.loop-client.past c.raise.new.past c.loop-client.yielded c.loop-client.client-iterator
      (c.in-Some.client, c.in-Some.clock)
      (next_member c.args.other.now c.loop-client.yielded c.loop-client.client-iterator c.next.new.self (c.in-Some.client, c.in-Some.clock) c.loop-client.invariant.all c.in-Some.ensures.steps)
      c.loop-client.grew _ _ c.loop-client.invariant.so c.in_ok-raise.ensures (λ e. absurd (true≢false e));
}

pub loop-client-preserved : goal.loop-client-preserved
loop-client-preserved c = record {
  all = next_all c.loop-client.yielded c.loop-client.client-iterator c.next.new.self _ (c.in-Some.client, c.in-Some.clock) c.loop-client.invariant.all c.in-Some.ensures.steps;
  so = joins_more c.args.other.now c.iter-client-items.ensures.vector c.args.past.now c.loop-client.past c.raise.new.past c.loop-client.yielded c.loop-client.client-iterator
      (c.in-Some.client, c.in-Some.clock)
      (next_member c.args.other.now c.loop-client.yielded c.loop-client.client-iterator c.next.new.self (c.in-Some.client, c.in-Some.clock) c.loop-client.invariant.all c.in-Some.ensures.steps)
      c.loop-client.grew _ _ c.loop-client.invariant.so c.in_ok-raise.ensures (λ e. (e, c.if-branch.false));
}

pub returns : goal.returns
returns c = joins_all c.args.other.now c.loop-client.yielded c.args.past.now c.loop-client.past c.loop-client.grew
    (ends_member c.args.other.now c.loop-client.yielded c.loop-client.client-iterator c.loop-client.invariant.all c.in-None.ensures.steps.0) c.loop-client.invariant.so
