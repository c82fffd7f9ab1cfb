use Rattle.std.proofs.Common.{◌<◌, refl, sym, subst}
use Rattle.yd_names.specs.Names.{IsOf, IsLastOf}
use Rattle.yd_listing.proofs.NotingLemmas.{AreNotedFrom, bound_of, noting_begins, noting_goes_on, noting_ends, lower}
use Rattle.yd_listing.proofs.closing.note_lists_of.Goals as goal

pub loop-last-init : goal.loop-last-init
loop-last-init c = (refl, noting_begins c.args.kept.now c.args.item c.args.queue.now c.last_of-last.result c.last_of-last.ensures.last c.last_of-last.ensures.within)

pub last_of-last-requires-in-Some : goal.last_of-last-requires-in-Some
last_of-last-requires-in-Some c = subst (λ p. IsOf c.args.kept.now.names p c.in-Some.list) (sym c.loop-last.invariant.0)
    (subst (AreNotedFrom c.args.kept.now c.args.item c.args.queue.now c.loop-last.queue) c.in-Some.is c.loop-last.invariant.1).own

pub loop-last-preserved : goal.loop-last-preserved
loop-last-preserved c = (
  c.loop-last.invariant.0,
  noting_goes_on c.args.kept.now c.args.item c.args.queue.now c.loop-last.queue c.add.new.self c.in-Some.list c.last_of-last-in-Some.result
      (subst (AreNotedFrom c.args.kept.now c.args.item c.args.queue.now c.loop-last.queue) c.in-Some.is c.loop-last.invariant.1)
      c.in_ok-add.ensures.queues c.in_ok-add.ensures.there
      (subst (λ p. IsLastOf c.args.kept.now.names p c.in-Some.list c.last_of-last-in-Some.result) c.loop-last.invariant.0 c.last_of-last-in-Some.ensures.last)
      c.last_of-last-in-Some.ensures.within,
)

pub loop-last-smaller : goal.loop-last-smaller
loop-last-smaller c = subst (λ o. bound_of c.last_of-last-in-Some.result < bound_of o) (sym c.in-Some.is)
    (lower c.args.kept.now c.args.item c.in-Some.list c.last_of-last-in-Some.result
    (subst (λ p. IsLastOf c.args.kept.now.names p c.in-Some.list c.last_of-last-in-Some.result) c.loop-last.invariant.0 c.last_of-last-in-Some.ensures.last))

pub returns-clause-queues : goal.returns-clause-queues
returns-clause-queues c = c.loop-last.invariant.1.queues

pub returns-clause-all : goal.returns-clause-all
returns-clause-all c = noting_ends c.args.kept.now c.args.item c.args.queue.now c.loop-last.queue
    (subst (AreNotedFrom c.args.kept.now c.args.item c.args.queue.now c.loop-last.queue) c.in_default.is c.loop-last.invariant.1)
