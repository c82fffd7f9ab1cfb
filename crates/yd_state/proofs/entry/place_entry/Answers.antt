use Rattle.std.proofs.Common.{◌∙◌, sym, ap, refl}
use Rattle.yd_kept.proofs.ChangeLemmas.{on_err}
use Rattle.yd_received.specs.Received.{ReceivedValue}
use Rattle.yd_state.proofs.SeenLemmas.{seen_next, seen_filled, seen_fits, seen_comes, listed_placed, lost_placed, gone_placed}
use Rattle.yd_state.proofs.StepLemmas.{kept_held}
use Rattle.yd_state.proofs.entry.place_entry.Goals as goal

pub hold-requires-clause-comes : goal.hold-requires-clause-comes
hold-requires-clause-comes c =
    seen_comes c.args.held.now c.received-received.ensures.holds c.args.kept.now c.args.at c.requires.next
    c.entries.result.now (c.entries.ensures.entries ∙ ap (λ (r : ReceivedValue). r.entries) c.received-received.ensures.received) c.get-entry.result c.get-entry.ensures
    c.runs.result.now (c.runs.ensures ∙ ap (λ (r : ReceivedValue). r.runs) c.received-received.ensures.received) c.in-Ok.group c.in-Ok.ensures
    c.in-Run.run' c.in-Run.is c.requires.filled (sym c.is_in_list.ensures ∙ c.if-is_in_list.true)

pub hold-requires-clause-fits : goal.hold-requires-clause-fits
hold-requires-clause-fits c =
    seen_fits c.args.held.now c.received-received.ensures.holds c.args.kept.now c.args.at c.requires.next
    c.entries.result.now (c.entries.ensures.entries ∙ ap (λ (r : ReceivedValue). r.entries) c.received-received.ensures.received) c.get-entry.result c.get-entry.ensures
    c.runs.result.now (c.runs.ensures ∙ ap (λ (r : ReceivedValue). r.runs) c.received-received.ensures.received) c.in-Ok.group c.in-Ok.ensures
    c.in-Run.run' c.in-Run.is

pub returns-then-is_in_list-clause-done : goal.returns-then-is_in_list-clause-done
returns-then-is_in_list-clause-done c =
    listed_placed c.args.held.now c.received-received.ensures.holds c.args.kept.now c.args.at c.requires.next
    c.entries.result.now (c.entries.ensures.entries ∙ ap (λ (r : ReceivedValue). r.entries) c.received-received.ensures.received) c.get-entry.result c.get-entry.ensures
    c.runs.result.now (c.runs.ensures ∙ ap (λ (r : ReceivedValue). r.runs) c.received-received.ensures.received) c.in-Ok.group c.in-Ok.ensures
    c.in-Run.run' c.in-Run.is c.store.ensures.arena c.requires.filled (sym c.is_in_list.ensures ∙ c.if-is_in_list.true) c.hold.new.self c.in-Ok-hold.ensures.done

pub hold_lost-requires-clause-next : goal.hold_lost-requires-clause-next
hold_lost-requires-clause-next c =
    seen_next c.args.held.now c.received-received.ensures.holds c.args.kept.now c.args.at c.requires.next
    c.entries.result.now (c.entries.ensures.entries ∙ ap (λ (r : ReceivedValue). r.entries) c.received-received.ensures.received) c.get-entry.result c.get-entry.ensures
    c.runs.result.now (c.runs.ensures ∙ ap (λ (r : ReceivedValue). r.runs) c.received-received.ensures.received) c.in-Ok.group c.in-Ok.ensures
    c.in-Run.run' c.in-Run.is

pub hold_lost-requires-clause-some : goal.hold_lost-requires-clause-some
hold_lost-requires-clause-some c =
    seen_filled c.args.held.now c.received-received.ensures.holds c.args.kept.now c.args.at c.requires.next
    c.entries.result.now (c.entries.ensures.entries ∙ ap (λ (r : ReceivedValue). r.entries) c.received-received.ensures.received) c.get-entry.result c.get-entry.ensures
    c.runs.result.now (c.runs.ensures ∙ ap (λ (r : ReceivedValue). r.runs) c.received-received.ensures.received) c.in-Ok.group c.in-Ok.ensures
    c.in-Run.run' c.in-Run.is

pub hold_lost-requires-clause-fits : goal.hold_lost-requires-clause-fits
hold_lost-requires-clause-fits c =
    seen_fits c.args.held.now c.received-received.ensures.holds c.args.kept.now c.args.at c.requires.next
    c.entries.result.now (c.entries.ensures.entries ∙ ap (λ (r : ReceivedValue). r.entries) c.received-received.ensures.received) c.get-entry.result c.get-entry.ensures
    c.runs.result.now (c.runs.ensures ∙ ap (λ (r : ReceivedValue). r.runs) c.received-received.ensures.received) c.in-Ok.group c.in-Ok.ensures
    c.in-Run.run' c.in-Run.is

pub returns-in-Ok-hold_lost-clause-done : goal.returns-in-Ok-hold_lost-clause-done
returns-in-Ok-hold_lost-clause-done c =
    lost_placed c.args.held.now c.received-received.ensures.holds c.args.kept.now c.args.at c.requires.next
    c.entries.result.now (c.entries.ensures.entries ∙ ap (λ (r : ReceivedValue). r.entries) c.received-received.ensures.received) c.get-entry.result c.get-entry.ensures
    c.runs.result.now (c.runs.ensures ∙ ap (λ (r : ReceivedValue). r.runs) c.received-received.ensures.received) c.in-Ok.group c.in-Ok.ensures
    c.in-Run.run' c.in-Run.is c.store.ensures.arena c.requires.filled (sym c.is_in_list.ensures ∙ c.if-is_in_list.false) c.hold_lost.new.self c.in-Ok-hold_lost.ensures.done c.in-Ok-hold_lost.ensures.filled

pub returns-in_ok-hold_gone-in-Gone-clause-done : goal.returns-in_ok-hold_gone-in-Gone-clause-done
returns-in_ok-hold_gone-in-Gone-clause-done c =
    gone_placed c.args.held.now c.received-received.ensures.holds c.args.kept.now c.args.at c.requires.next
    c.entries.result.now (c.entries.ensures.entries ∙ ap (λ (r : ReceivedValue). r.entries) c.received-received.ensures.received) c.get-entry.result c.get-entry.ensures
    c.runs.result.now (c.runs.ensures ∙ ap (λ (r : ReceivedValue). r.runs) c.received-received.ensures.received) c.in-Ok.group c.in-Ok.ensures
    c.in-Gone.id c.in-Gone.len c.in-Gone.is c.store.ensures.arena c.requires.filled c.hold_gone.new.self _ refl c.in_ok-hold_gone-in-Gone.ensures.done c.in_ok-hold_gone-in-Gone.ensures.filled

pub returns-in_err-hold_gone-in-Gone-clause-unchanged : goal.returns-in_err-hold_gone-in-Gone-clause-unchanged
returns-in_err-hold_gone-in-Gone-clause-unchanged c =
    on_err _ (kept_held c.args.kept.now c.hold_gone.new.self c.in_err-hold_gone-in-Gone.ensures.unchanged c.in_err-hold_gone-in-Gone.ensures.names)

pub returns-in_default-hold_lost-clause-unchanged : goal.returns-in_default-hold_lost-clause-unchanged
returns-in_default-hold_lost-clause-unchanged c =
    kept_held c.args.kept.now c.hold_lost.new.self c.in_default-hold_lost.ensures.unchanged c.in_default-hold_lost.ensures.names
