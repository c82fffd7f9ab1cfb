use Rattle.std.proofs.Common.{◌≡◌, ◌∙◌, ℕ, true, false, Option, Some, None, length, inr, refl, sym, ap, subst}
use Rattle.std.specs.Prelude.{◌⊎◌, IsTrue, IfNone}
use Rattle.yd_words.specs.Each.{Each}
use Rattle.yd_words.specs.Member.{IsIn}
use Rattle.yd_ids.specs.Vector.{clock_of}
use Rattle.yd_ops.specs.Received.{groups_of}
use Rattle.yd_ops.specs.View.{update_value}
use Rattle.yd_entries.specs.declared.entry.Entry.{Entry}
use Rattle.yd_ops.specs.Operation.{operations_of}
use Rattle.yd_received.specs.Received.{lowers, taken_of, LowersOne}
use Rattle.yd_received.proofs.PlacingLemmas.{operations-wait}
use Rattle.yd_held.specs.Held.{HeldValue, held_value}
use Rattle.yd_held.specs.Holding.{IsHolding}
use Rattle.yd_held.specs.Joining.{NoneCameAlone}
use Rattle.yd_held.specs.Telling.{is_gone_listed, AreHeldLess}
use Rattle.yd_held.specs.Turn.{HoldsOn}
use Rattle.yd_held.proofs.BackLemmas.{none_back, added_back}
use Rattle.yd_held.proofs.HoldsOnLemmas.{holds_on, holds_on_added}
use Rattle.yd_held.proofs.LosingLemmas.{holding_waiting, none_gone, loses_one}
use Rattle.yd_held.proofs.StillHeldLemmas.{holding_still}
use Rattle.yd_held.proofs.KeptLemmas.{with_received, brought_adds, holding_added, noted_added, turn_alike}
use Rattle.yd_held.proofs.SingleLemmas.{firsts_stay, runs_more, turn_inside}
use Rattle.yd_held.proofs.changing.change.Goals as goal

pub returns-in_err-brought-clause-back : goal.returns-in_err-brought-clause-back
returns-in_err-brought-clause-back c = none_back (held_value c.args.held.now) c.requires.holds c.args.before.now c.requires.before c.take.new.self c.in_err-brought.ensures.unchanged

pub hold_new-requires-clause-holding : goal.hold_new-requires-clause-holding
hold_new-requires-clause-holding c =
    let adds = brought_adds c.args.held.now.received c.take.new.self c.in_ok-brought.brought c.in_default.not-Lowered c.in_ok-brought.ensures.brought in
    holding_added (held_value c.args.held.now) c.take.new.self c.requires.holds c.in_ok-brought.ensures.grows c.take.ensures.kept adds

pub hold_new-requires-clause-noted : goal.hold_new-requires-clause-noted
hold_new-requires-clause-noted c =
    let adds = brought_adds c.args.held.now.received c.take.new.self c.in_ok-brought.brought c.in_default.not-Lowered c.in_ok-brought.ensures.brought in
    noted_added (held_value c.args.held.now) c.take.new.self c.requires.holds c.in_ok-brought.ensures.grows c.take.ensures.kept adds _ (ap length c.runs-from.ensures)

pub returns-in_err-order-3-clause-back : goal.returns-in_err-order-3-clause-back
returns-in_err-order-3-clause-back c =
    let adds = brought_adds c.args.held.now.received c.take.new.self c.in_ok-brought.brought c.in_default.not-Lowered c.in_ok-brought.ensures.brought in
    added_back (held_value c.args.held.now) c.requires.holds c.take.new.self c.in_ok-brought.ensures.grows adds (held_value c.hold_new.new.held) c.hold_new.ensures.only
    c.args.before.now c.requires.before

pub returns-clause-back : goal.returns-clause-back
returns-clause-back c =
    let adds = brought_adds c.args.held.now.received c.take.new.self c.in_ok-brought.brought c.in_default.not-Lowered c.in_ok-brought.ensures.brought in
    added_back (held_value c.args.held.now) c.requires.holds c.take.new.self c.in_ok-brought.ensures.grows adds (held_value c.hold_new.new.held) c.hold_new.ensures.only
    c.args.before.now c.requires.before

pub returns-clause-order : goal.returns-clause-order
returns-clause-order c =
    let adds = brought_adds c.args.held.now.received c.take.new.self c.in_ok-brought.brought c.in_default.not-Lowered c.in_ok-brought.ensures.brought in
    let old = held_value c.args.held.now in
    let new = held_value c.hold_new.new.held in
    let order = c.in_ok-order-3.order.items in
    subst (λ told. HoldsOn told order old new) (sym c.new-2.ensures.items) (holds_on_added old new c.requires.holds c.in_ok-order-3.ensures.held.holds order
    (turn_alike old c.take.new.self c.requires.holds c.in_ok-brought.ensures.grows c.take.ensures.kept adds new order c.in_ok-order-3.ensures.turn))

pub single_of-single-requires : goal.single_of-single-requires
single_of-single-requires c =
    let old = c.args.held.now.received in
    let new = held_value c.hold_new.new.held in
    let adds = brought_adds old c.take.new.self c.in_ok-brought.brought c.in_default.not-Lowered c.in_ok-brought.ensures.brought in
    record {
      from = runs_more old.runs c.take.new.self.runs new.received.runs (length c.runs-from.result.now) (ap length c.runs-from.ensures) c.in_ok-brought.ensures.grows
          c.hold_new.ensures.only.runs_are;
      inside = rw c.deref.ensures.value (turn_inside new.received.runs new.received.entries (clock_of c.args.held.now.vector) c.in_ok-order-3.order.items (clock_of new.vector)
          c.in_ok-order-3.ensures.turn.turn);
      were = firsts_stay old c.take.new.self c.requires.holds.in_order adds (with_received (held_value c.args.held.now) c.take.new.self) new refl c.hold_new.ensures.only
          (length c.runs-from.result.now) c.len-count.result (ap length c.runs-from.ensures) (c.len-count.ensures ∙ ap length c.entries.ensures.entries);
    }

pub returns-clause-together : goal.returns-clause-together
returns-clause-together c = or_alone c.single_of-single.result c.single_of-single.ensures.none
  where
    k : HeldValue
    k = held_value c.hold_new.new.held

    or_alone : (single : Option ℕ) → IfNone single (NoneCameAlone (length c.runs-from.result.now) c.len-count.result c.deref.result.now k) →
        IfNone single (LowersOne (operations_of (update_value c.args.update)) (taken_of c.args.held.now.received)
        ⊎ NoneCameAlone (length c.args.held.now.received.runs) (length c.args.held.now.received.entries) c.in_ok-order-3.order.items k)
    or_alone (Some at) alone = tt
    or_alone None alone = inr (subst (λ order. NoneCameAlone (length c.args.held.now.received.runs) (length c.args.held.now.received.entries) order k) c.deref.ensures.value
        (subst (λ n. NoneCameAlone (length c.args.held.now.received.runs) n c.deref.result.now k) (c.len-count.ensures ∙ ap length c.entries.ensures.entries)
        (subst (λ n. NoneCameAlone n c.len-count.result c.deref.result.now k) (ap length c.runs-from.ensures) alone)))

-- ---- where a unit of a list is gone

pub hold_more-requires-clause-holding : goal.hold_more-requires-clause-holding
hold_more-requires-clause-holding c = subst IsHolding (sym c.set_aside.ensures.held) (holding_waiting c.take.new.self c.take.ensures.kept)

pub returns-then-loses_one-clause-received : goal.returns-then-loses_one-clause-received
returns-then-loses_one-clause-received c = c.in_ok-order.ensures.held.operations ∙ ap (λ (k : HeldValue). taken_of k.received) c.set_aside.ensures.held
    ∙ operations-wait c.take.new.self.runs c.take.new.self.entries ∙ c.in_ok-brought.ensures.received

pub returns-then-loses_one-clause-anew : goal.returns-then-loses_one-clause-anew
returns-then-loses_one-clause-anew c anew =
    let (t, i, e) = subst (λ ts. (t : Entry) × IsIn t ts × (is_gone_listed t ≡ true)) c.entries-in-Lowered.ensures.entries c.if-loses_one.ensures.one in (
      c.in_ok-brought.ensures.lowers (subst (λ b. IsTrue (lowers b)) (sym c.in-Lowered.is) anew),
      loses_one (held_value c.args.held.now) c.take.new.self c.requires.holds c.take.ensures.kept (groups_of (update_value c.args.update)) c.in_ok-brought.ensures.received
          c.in_ok-brought.ensures.places t i e (held_value c.set_aside.new.held) (held_value c.hold_more.new.held)
          (ap (λ (k : HeldValue). k.received) c.set_aside.ensures.held) c.in_ok-order.ensures.held,
    )

-- ---- where none is

pub hold_more-requires-in-Lowered-clause-holding : goal.hold_more-requires-in-Lowered-clause-holding
hold_more-requires-in-Lowered-clause-holding c =
    holding_still (held_value c.args.held.now) c.take.new.self c.requires.holds c.take.ensures.kept (groups_of (update_value c.args.update)) c.in_ok-brought.ensures.received
    c.in_ok-brought.ensures.places (none_gone c.take.new.self.entries (subst (Each (λ t. is_gone_listed t ≡ false)) c.entries-in-Lowered.ensures.entries c.if-loses_one.ensures.none))

pub returns-in-Lowered-clause-order : goal.returns-in-Lowered-clause-order
returns-in-Lowered-clause-order c =
    let from = length c.runs-from.result.now in
    holds_on (held_value c.args.held.now) c.take.new.self c.requires.holds c.take.ensures.kept (groups_of (update_value c.args.update)) c.in_ok-brought.ensures.received
    c.in_ok-brought.ensures.places from (ap length c.runs-from.ensures)
    (none_gone c.take.new.self.entries (subst (Each (λ t. is_gone_listed t ≡ false)) c.entries-in-Lowered.ensures.entries c.if-loses_one.ensures.none))
    c.in_ok-told.told.items c.in_ok-order-2.order.items
    (subst (λ ts. AreHeldLess from ts (length ts) c.in_ok-told.told.items) c.entries-in-Lowered-2.ensures.entries c.in_ok-told.ensures)
    (held_value c.hold_more-in-Lowered.new.held) c.in_ok-order-2.ensures.held.holds c.in_ok-order-2.ensures.turn c.in_ok-order-2.ensures.only
