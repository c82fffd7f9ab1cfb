use Rattle.std.proofs.Common.{◌∙◌, sym, ap, subst, arith}
use Rattle.yd_received.specs.Received.{ReceivedValue}
use Rattle.yd_state.proofs.ReadyingLemmas.{IsReadying, ids_cut, cuts_both, readying_none, readying_more, readying_ends, next_there, next_is_less}
use Rattle.yd_state.proofs.less.ready.Goals as goal

pub loop-at-init : goal.loop-at-init
loop-at-init c = subst (λ less. IsReadying c.args.held.now c.args.told.now c.args.kept.now c.args.kept.now less 0) (sym c.new-less.ensures.items)
    (readying_none c.args.held.now c.args.told.now c.args.kept.now)

pub ready_entry-requires-clause-ids : goal.ready_entry-requires-clause-ids
ready_entry-requires-clause-ids c = ids_cut c.args.held.now c.received-received.ensures.holds c.args.kept.now c.loop-at.kept c.loop-at.invariant.cuts.keeps c.requires.ids

pub ready_entry-requires-clause-entry : goal.ready_entry-requires-clause-entry
ready_entry-requires-clause-entry c = next_is_less c.args.held.now c.received-received.ensures.holds c.args.kept.now c.loop-at.kept c.requires.ids c.requires.sound c.args.told.now c.requires.less
    c.loop-at.invariant.cuts c.loop-at.at-index c.loop-at-test.true c.entries.result.now
    (c.entries.ensures.entries ∙ ap (λ (r : ReceivedValue). r.entries) c.received-received.ensures.received) c.get.result c.get.ensures

pub returns-in_err-ready_entry-clause-cuts : goal.returns-in_err-ready_entry-clause-cuts
returns-in_err-ready_entry-clause-cuts c = cuts_both c.args.kept.now c.loop-at.kept c.ready_entry.new.kept c.loop-at.invariant.cuts c.ready_entry.ensures.cuts

pub loop-at-preserved : goal.loop-at-preserved
loop-at-preserved c = readying_more c.args.held.now c.args.told.now c.args.kept.now c.loop-at.kept c.ready_entry.new.kept c.loop-at.less.items c.ready_entry.new.less.items c.loop-at.at-index
    c.loop-at.invariant c.loop-at-test.true c.get.result
    (next_there c.args.held.now c.received-received.ensures.holds c.args.kept.now c.loop-at.kept c.requires.ids c.requires.sound c.args.told.now c.requires.less
    c.loop-at.invariant.cuts c.loop-at.at-index c.loop-at-test.true c.entries.result.now
    (c.entries.ensures.entries ∙ ap (λ (r : ReceivedValue). r.entries) c.received-received.ensures.received) c.get.result c.get.ensures)
    c.in_ok-ready_entry.ensures.ready c.ready_entry.ensures.cuts

pub returns-clause-less : goal.returns-clause-less
returns-clause-less c = readying_ends c.args.held.now c.args.told.now c.args.kept.now c.loop-at.kept c.loop-at.less.items c.loop-at.at-index c.loop-at.invariant (omega (arith, c.loop-at-test.false))
    c.requires.less.each
