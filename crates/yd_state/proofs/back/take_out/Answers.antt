use Rattle.std.proofs.Common.{◌-◌, ◌∙◌, ap, get_or, refl}
use Rattle.yd_received.specs.Received.{ReceivedValue}
use Rattle.yd_state.proofs.OutLemmas.{index_within, taken_below, taken_border, taken_then}
use Rattle.yd_state.proofs.back.take_out.Goals as goal

pub get-requires : goal.get-requires
get-requires c =
    index_within c.args.held.now c.args.order.now c.args.kept.now c.loop-left.kept c.loop-left.left c.loop-left.invariant c.loop-left-test.true
    (get_or c.args.order.now (c.loop-left.left - 1) 0) 0 refl c.requires
    c.entries-entries.result.now (c.entries-entries.ensures.entries ∙ ap (λ (r : ReceivedValue). r.entries) c.received.ensures.received)

pub go_back-requires-clause-below : goal.go_back-requires-clause-below
go_back-requires-clause-below c =
    taken_below c.args.held.now c.args.order.now c.args.kept.now c.loop-left.kept c.loop-left.left c.loop-left.invariant c.loop-left-test.true
    (get_or c.args.order.now (c.loop-left.left - 1) 0) 0 refl c.requires
    c.entries-entries.result.now (c.entries-entries.ensures.entries ∙ ap (λ (r : ReceivedValue). r.entries) c.received.ensures.received)
    c.get.result c.get.result c.get.ensures

pub go_back-requires-clause-border : goal.go_back-requires-clause-border
go_back-requires-clause-border c =
    taken_border c.args.held.now c.args.order.now c.args.kept.now c.loop-left.kept c.loop-left.left c.loop-left.invariant c.loop-left-test.true
    (get_or c.args.order.now (c.loop-left.left - 1) 0) 0 refl c.requires
    c.entries-entries.result.now (c.entries-entries.ensures.entries ∙ ap (λ (r : ReceivedValue). r.entries) c.received.ensures.received)
    c.get.result c.get.result c.get.ensures

pub loop-left-preserved : goal.loop-left-preserved
loop-left-preserved c =
    taken_then c.args.held.now c.args.order.now c.args.kept.now c.loop-left.kept c.loop-left.left c.loop-left.invariant c.loop-left-test.true
    (get_or c.args.order.now (c.loop-left.left - 1) 0) 0 refl c.requires
    c.entries-entries.result.now (c.entries-entries.ensures.entries ∙ ap (λ (r : ReceivedValue). r.entries) c.received.ensures.received)
    c.get.result c.get.result c.get.ensures
    c.go_back.new.self c.go_back.ensures.taken c.go_back.ensures.names
