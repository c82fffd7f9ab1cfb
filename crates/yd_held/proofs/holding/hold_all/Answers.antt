use Rattle.std.proofs.Common.{get_or, subst}
use Rattle.std.specs.Global.{Vec}
use Rattle.yd_held.specs.declared.noting.Lack.{Lack}
use Rattle.yd_held.specs.Held.{held_value}
use Rattle.yd_held.specs.Noted.{Finds, Wakes}
use Rattle.yd_held.proofs.RoundLemmas.{round_first, only_then, round_then, round_last}
use Rattle.yd_held.proofs.UnreadyLemmas.{are_waiting}
use Rattle.yd_held.proofs.holding.hold_all.Goals as goal

pub loop-order-init : goal.loop-order-init
loop-order-init c =
    round_first (held_value c.args.held.now) c.args.tries.items c.new-order.result.items c.new-order.ensures.items c.requires.holding c.requires.noted c.requires.missing

pub next_ready-requires-clause-waiting : goal.next_ready-requires-clause-waiting
next_ready-requires-clause-waiting c = are_waiting (held_value c.loop-order.held) c.loop-order.invariant.holding

pub loop-order-preserved : goal.loop-order-preserved
loop-order-preserved c =
    let old = c.loop-order.held in
    let new = c.hold_at.new.held in
    let lacks = c.next_ready.new.lacks.items in
    let tries = c.next_ready.new.tries.items in
    let woken = subst (λ (ls : Vec Lack). Wakes (get_or new.received.entries c.in-Some.at c.get.result) ls.items c.wake.new.lacks.items tries c.wake.new.tries.items) c.in_ok-hold_at.ensures.lacks
    (subst (λ us. Wakes (get_or us c.in-Some.at c.get.result) new.lacks.items c.wake.new.lacks.items tries c.wake.new.tries.items) c.entries-in-Some.ensures.entries (subst (λ t. Wakes t new.lacks.items c.wake.new.lacks.items tries c.wake.new.tries.items) c.get.ensures c.in_ok-wake.ensures)) in
    round_then (held_value c.args.held.now) (held_value old) (held_value new) c.in-Some.at lacks tries
    (subst (Finds old.vector old.received.runs old.received.entries lacks tries) c.in-Some.is c.in_ok-at.ensures.finds) c.in_ok-hold_at.ensures.held c.in_ok-hold_at.ensures.runs
    c.in_ok-hold_at.ensures.grows c.wake.new.lacks.items c.wake.new.tries.items c.get.result woken _ c.loop-order.order.items _ c.in_ok-push.ensures.items c.loop-order.invariant c.in_ok-at.ensures.missing
    c.in_ok-hold_at.ensures.holding c.in_ok-hold_at.ensures.operations

pub returns-in_err-wake-clause-only : goal.returns-in_err-wake-clause-only
returns-in_err-wake-clause-only c =
    let old = c.loop-order.held in
    let lacks = c.next_ready.new.lacks.items in
    let tries = c.next_ready.new.tries.items in
    let only = only_then (held_value c.args.held.now) (held_value old) (held_value c.hold_at.new.held) c.in-Some.at lacks tries
    (subst (Finds old.vector old.received.runs old.received.entries lacks tries) c.in-Some.is c.in_ok-at.ensures.finds) c.in_ok-hold_at.ensures.held c.in_ok-hold_at.ensures.runs
    c.in_ok-hold_at.ensures.grows c.loop-order.invariant.rises c.loop-order.invariant.only in
    record { runs_are = only.runs_are; undone_is = only.undone_is; grows = only.grows }

pub returns-clause-held : goal.returns-clause-held
returns-clause-held c =
    let held = c.loop-order.held in
    round_last _ (held_value held) _ c.next_ready.new.lacks.items _ c.loop-order.invariant
    (subst (Finds held.vector held.received.runs held.received.entries c.next_ready.new.lacks.items c.next_ready.new.tries.items) c.in_default.is c.in_ok-at.ensures.finds)
    c.in_ok-at.ensures.missing
