use Rattle.yd_state.proofs.ReadyingLemmas.{entry_below, span_ready, ready_after}
use Rattle.yd_state.proofs.less.ready_span.Goals as goal

pub part_span-requires : goal.part_span-requires
part_span-requires c = record { held = entry_below c.args.held.now c.received.ensures.holds c.args.entry c.args.kept.now.store c.requires.entry c.args.kept.now c.requires.ids }

pub returns-clause-ready : goal.returns-clause-ready
returns-clause-ready c = span_ready c.args.held.now c.received.ensures.holds c.args.entry c.args.kept.now.store c.requires.entry c.args.level c.requires.level c.part_span.new.self.store
    (ready_after c.args.kept.now c.part_span.new.self c.part_span.ensures.kept _ c.args.level
    (entry_below c.args.held.now c.received.ensures.holds c.args.entry c.args.kept.now.store c.requires.entry c.args.kept.now c.requires.ids) c.in_ok-part_span.ensures.parted)
    c.args.less.now.items c.push.new.self.items c.in_ok-push.ensures.items
