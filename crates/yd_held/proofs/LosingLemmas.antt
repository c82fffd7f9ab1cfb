-- A unit that was in a list and is gone is lost, once all is held anew.
use Rattle.std.proofs.Common.{◌≡◌, Bool, true, false, List, [], refl, sym, ap, ◌∙◌, subst, true≢false}
use Rattle.std.specs.Prelude.{◌&&◌}
use Rattle.std.proofs.lemmas.Bool.{false_from_ne_true}
use Rattle.yd_words.specs.Each.{Each}
use Rattle.yd_words.specs.Member.{IsIn}
use Rattle.yd_words.proofs.MemberLemmas.{each_in}
use Rattle.yd_words.proofs.TestLemmas.{both_hold}
use Rattle.yd_ops.specs.Operation.{Operation}
use Rattle.yd_ops.specs.Received.{has_operation, with_groups}
use Rattle.yd_ops.proofs.OneOfLemmas.{operation_with, id_is_there}
use Rattle.yd_meaning.specs.Held.{held_set, is_gone, standing}
use Rattle.yd_meaning.proofs.GrownStayingLemmas.{lost_is}
use Rattle.yd_meaning.proofs.RowLemmas.{written_distinct, one_operation}
use Rattle.yd_meaning.proofs.StandingLemmas.{standing_in}
use Rattle.yd_entries.specs.declared.entry.Entry.{Entry}
use Rattle.yd_entries.specs.Entries.{is_held, is_listed}
use Rattle.yd_received.specs.Received.{ReceivedValue, IsReceived, all_waiting, taken_of, held_of, listed_of}
use Rattle.yd_received.proofs.PlacingLemmas.{operations-wait, are_taken-wait, none_held-wait}
use Rattle.yd_entries.proofs.WrittenLemmas.{taken_written}
use Rattle.yd_entries.specs.Staying.{KeepsPlaces}
use Rattle.yd_held.specs.Held.{HeldValue, HoldsAll}
use Rattle.yd_held.specs.Holding.{IsHolding, HoldsRest}
use Rattle.yd_held.specs.Telling.{is_gone_listed}
use Rattle.yd_held.specs.Turn.{LosesOne}
use Rattle.yd_held.proofs.HeldEntryLemmas.{is_taken, entry_taken, chosen_id, chosen_written, chosen_received}
use Rattle.yd_held.proofs.HeldUnitLemmas.{covers_first, first_unit, unit_gone}
use Rattle.yd_held.proofs.KeptLemmas.{holding_none}
use Rattle.yd_held.proofs.LeftLemmas.{has_left, held_lesser}
use Rattle.yd_held.proofs.StandingLemmas.{listed_is_held}
use Rattle.yd_held.proofs.KeptLemmas.{holds_holding}
use Rattle.yd_held.proofs.StillHeldLemmas.{listed_ids}

-- where all waits, nothing is held
pub holding_waiting : (r : ReceivedValue) → IsReceived r → IsHolding (record { received = all_waiting r; vector = []; names = []; lacks = [] })
holding_waiting r is = holding_none (all_waiting r) (are_taken-wait r.runs r.entries is) (none_held-wait r.entries)

-- where none is found that is gone and in a list, what is in lists is not gone
pub none_gone : (ts : List Entry) → Each (λ t. is_gone_listed t ≡ false) ts → (t : Entry) → IsIn t ts → is_listed t ≡ true → t.is_gone ≡ false
none_gone ts none t i listed = go t.is_gone refl (each_in (λ t. is_gone_listed t ≡ false) ts none t i)
  where
    go : (b : Bool) → t.is_gone ≡ b → is_gone_listed t ≡ false → t.is_gone ≡ false
    go true e not_both = absurd (true≢false (sym listed ∙ sym (ap (λ b. b && is_listed t) e) ∙ not_both))
    go false e not_both = e

-- ---- lemmas for callers

module _ (old : HeldValue) (mid : ReceivedValue) (holds : HoldsAll old) (is : IsReceived mid) (groups : List (List Operation))
    (same : taken_of mid ≡ with_groups groups (taken_of old.received)) (places : KeepsPlaces old.received.runs old.received.entries mid.runs mid.entries)
    (t : Entry) (i : IsIn t mid.entries) (gone_listed : is_gone_listed t ≡ true)
    (first new : HeldValue) (waits : first.received ≡ all_waiting mid) (rest : HoldsRest first new) where
  was_listed : has_operation (listed_of old.received) t.id ≡ true
  was_listed = sym (listed_ids old mid holds is groups same places t.id)
      ∙ chosen_id is_listed mid is t t.id i (both_hold t.is_gone (is_listed t) gone_listed).1 (covers_first mid.runs t (is_taken mid is t i))

  taken_same : taken_of new.received ≡ taken_of mid
  taken_same = rest.operations ∙ ap taken_of waits ∙ operations-wait mid.runs mid.entries

  -- one of its id is held, and it is gone
  still_there : (o : Operation) → IsIn o (listed_of old.received) → has_operation (held_of new.received) o.id ≡ true
  still_there o j =
      let held = listed_is_held old (holds_holding old holds) o j in
      subst (λ os. has_operation os o.id ≡ true) (sym (rest.holds.held ∙ ap held_set taken_same))
      (held_lesser (taken_of old.received) (taken_of mid)
      (λ p k. has_left groups (taken_of old.received) (taken_of mid) same (taken_written old.received.runs old.received.entries holds.in_order) p k) o.id
      (subst (λ os. has_operation os o.id ≡ true) holds.held (id_is_there (held_of old.received) o held)))

  none_stands : has_operation (standing (held_of new.received)) t.id ≡ false
  none_stands = false_from_ne_true (has_operation (standing (held_of new.received)) t.id) (λ e.
      let (q, j, f) = operation_with (standing (held_of new.received)) t.id e in
      let (k, there) = standing_in (held_of new.received) (chosen_written is_held new.received rest.holds.in_order) q j in
      let (p, l, first_is) = first_unit mid.runs t (is_taken mid is t i) in
      let taken = subst (λ os. IsIn q os) taken_same (chosen_received is_held new.received rest.holds.in_order q k) in
      let one : q ≡ p = one_operation (taken_of mid) (written_distinct (taken_of mid) (taken_written mid.runs mid.entries is)) q p taken (entry_taken mid is t i p l) (f ∙ sym first_is.has_id) in
      true≢false (sym (unit_gone mid.runs t (is_taken mid is t i) p l ∙ (both_hold t.is_gone (is_listed t) gone_listed).0) ∙ sym (ap is_gone one) ∙ there))

  pub loses_one : LosesOne old new
  loses_one = let (o, j, e) = operation_with (listed_of old.received) t.id was_listed in record {
    unit = o;
    was = j;
    lost = lost_is (held_of new.received) o.id (still_there o j) (subst (λ x. has_operation (standing (held_of new.received)) x ≡ false) (sym e) none_stands);
  }
