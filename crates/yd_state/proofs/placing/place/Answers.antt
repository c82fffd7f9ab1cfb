use Rattle.std.proofs.Common.{get_or, refl}
use Rattle.yd_state.proofs.ErrorLemmas.{can_be_taken, as_before, can_be_undone}
use Rattle.yd_state.proofs.PlacingLemmas.{placing_none, next_is, placing_then, keeps_ids, places_all}
use Rattle.yd_state.proofs.placing.place.Goals as goal

pub loop-done-init : goal.loop-done-init
loop-done-init c = placing_none c.args.held.now c.args.order.now c.args.kept.now c.requires

pub place_entry-requires-clause-next : goal.place_entry-requires-clause-next
place_entry-requires-clause-next c =
    next_is c.args.held.now c.received.ensures.holds c.args.order.now c.args.kept.now c.loop-done.kept c.loop-done.done c.loop-done.invariant c.loop-done-test.true
    (get_or c.args.order.now c.loop-done.done 0) 0 refl

pub loop-done-preserved : goal.loop-done-preserved
loop-done-preserved c =
    let p = c.in-Ok.ensures.done in
    placing_then c.args.held.now c.received.ensures.holds c.args.order.now c.args.kept.now c.loop-done.kept c.loop-done.done c.loop-done.invariant c.loop-done-test.true
    (get_or c.args.order.now c.loop-done.done 0) 0 refl p.entry p.there c.place_entry.new.kept p.adds p.begins

pub take_out-requires : goal.take_out-requires
take_out-requires c =
    can_be_taken c.args.held.now c.args.order.now c.args.kept.now c.loop-done.kept c.place_entry.new.kept c.loop-done.done c.loop-done.invariant c.in_default.ensures.unchanged

pub returns-in_default-clause-unchanged : goal.returns-in_default-clause-unchanged
returns-in_default-clause-unchanged c =
    as_before c.args.held.now c.received.ensures.holds c.args.order.now c.args.kept.now c.loop-done.kept c.place_entry.new.kept c.take_out.new.kept c.loop-done.done
    c.requires c.loop-done.invariant c.in_default.ensures.unchanged c.take_out.ensures
    (record { arena = c.store.ensures.arena; lists = c.store.ensures.lists; told = c.store.ensures.told })
    (record { arena = c.store-in_default.ensures.arena; lists = c.store-in_default.ensures.lists; told = c.store-in_default.ensures.told })

pub returns-clause-ids : goal.returns-clause-ids
returns-clause-ids c =
    keeps_ids c.args.held.now c.received.ensures.holds c.args.order.now c.args.kept.now c.loop-done.kept c.loop-done.done c.requires c.loop-done.invariant c.loop-done-test.false

pub returns-clause-placed : goal.returns-clause-placed
returns-clause-placed c =
    places_all c.args.held.now c.received.ensures.holds c.args.order.now c.args.kept.now c.loop-done.kept c.loop-done.done c.requires c.loop-done.invariant c.loop-done-test.false

pub returns-clause-out : goal.returns-clause-out
returns-clause-out c =
    can_be_undone c.args.held.now c.received.ensures.holds c.args.order.now c.args.kept.now c.loop-done.kept c.loop-done.done c.requires c.loop-done.invariant c.loop-done-test.false
    (record { arena = c.store.ensures.arena; lists = c.store.ensures.lists; told = c.store.ensures.told })
