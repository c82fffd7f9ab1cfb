use Rattle.std.proofs.Common.{◌∙◌, sym, ap, subst}
use Rattle.yd_entries.specs.Entries.{IsTakenOf}
use Rattle.yd_received.specs.Received.{ReceivedValue}
use Rattle.yd_state.proofs.ReadyingLemmas.{entry_is_taken}
use Rattle.yd_state.proofs.less.ready_entry.Goals as goal

pub level_of-requires : goal.level_of-requires
level_of-requires c = subst (λ runs. IsTakenOf runs c.args.entry) (sym (c.runs.ensures ∙ ap (λ (r : ReceivedValue). r.runs) c.received.ensures.received))
    (entry_is_taken c.args.held.now c.received.ensures.holds c.args.entry c.args.kept.now.store c.requires.entry)
