use Rattle.std.proofs.Common.{◌≡◌, List, ap, sym, ◌∙◌, subst}
use Rattle.yd_words.specs.Each.{Each}
use Rattle.yd_words.proofs.MemberLemmas.{in_each}
use Rattle.yd_ids.specs.Vector.{clock_of}
use Rattle.yd_editing.specs.Basis.{first_waiting}
use Rattle.yd_entries.specs.declared.entry.Entry.{Entry}
use Rattle.yd_entries.specs.Entries.{AreInOrder}
use Rattle.yd_received.specs.Received.{ReceivedValue, taken_of}
use Rattle.yd_held.specs.Held.{HeldValue}
use Rattle.yd_making.specs.Waiting.{first_clock, IsHeldBelow}
use Rattle.yd_making.proofs.WaitingLemmas.{waiting_is, held_below}
use Rattle.yd_making.proofs.basis.Basis.own_waiting.Goals as goal

pub first_clock-requires-clause-in_order : goal.first_clock-requires-clause-in_order
first_clock-requires-clause-in_order c =
    subst AreInOrder (sym (c.entries.ensures.entries ∙ ap (λ (r : ReceivedValue). r.entries) c.received.ensures.received)) c.received.ensures.sound.holds.in_order.in_order

pub first_clock-requires-clause-held : goal.first_clock-requires-clause-held
first_clock-requires-clause-held c =
    let s = c.args.self.now.state.now in
    let client = c.args.self.now.client.0 in
    let reached = c.get-reached.ensures.reached ∙ ap (λ v. clock_of v client) (c.vector.ensures.vector ∙ ap (λ (h : HeldValue). h.vector) c.held.ensures.held) in
    subst (λ k. Each (IsHeldBelow client k) c.entries.result.now) (sym reached)
    (subst (Each (IsHeldBelow client (clock_of s.held.vector client)))
    (sym (c.entries.ensures.entries ∙ ap (λ (r : ReceivedValue). r.entries) c.received.ensures.received))
    (in_each (IsHeldBelow client (clock_of s.held.vector client)) s.held.received.entries (held_below s.held c.received.ensures.sound.holds client)))

pub returns : goal.returns
returns c =
    let s = c.args.self.now.state.now in
    let client = c.args.self.now.client.0 in
    c.first_clock.ensures ∙ ap (first_clock client) (c.entries.ensures.entries ∙ ap (λ (r : ReceivedValue). r.entries) c.received.ensures.received)
    ∙ sym (waiting_is s.held.received c.received.ensures.sound.holds.in_order client)
    ∙ ap (λ held. first_waiting held client (taken_of s.held.received)) c.received.ensures.sound.holds.held
