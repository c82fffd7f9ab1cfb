-- Where no entry is ready, all is held that can be.
use Rattle.std.proofs.Common.{◌≡◌, ℕ, ◌<◌, Bool, true, false, List, inl, inr, nat_eq, refl, sym, ap, ◌∙◌, subst, arith, tests, true≢false}
use Rattle.std.specs.Prelude.{not}
use Rattle.yd_words.specs.Member.{IsIn}
use Rattle.yd_words.proofs.MemberLemmas.{each_in}
use Rattle.yd_words.proofs.TestLemmas.{hold_both}
use Rattle.yd_ids.specs.declared.id.Id.{Id}
use Rattle.yd_ids.specs.Vector.{clock_of}
use Rattle.yd_ops.specs.Operation.{Operation}
use Rattle.yd_ops.specs.Received.{has_operation, IsWritten}
use Rattle.yd_ops.proofs.OneOfLemmas.{operation_with, id_is_there}
use Rattle.yd_ops.proofs.WritingLemmas.{written_alone}
use Rattle.yd_meaning.specs.Held.{item_carried, needs, held_set, held_clock}
use Rattle.yd_meaning.proofs.RowLemmas.{written_distinct, one_operation}
use Rattle.yd_meaning.proofs.NeedLemmas.{before_needed, left_needed, right_needed, item_needed}
use Rattle.yd_meaning.proofs.HeldLemmas.{held_in as held_is_received}
use Rattle.yd_meaning.proofs.VectorLemmas.{held_written as held_set_written}
use Rattle.yd_meaning.proofs.ClockLemmas.{AreFinal, below_held, held_is_below, held_clock-clocks}
use Rattle.yd_entries.specs.declared.entry.Entry.{Entry}
use Rattle.yd_entries.specs.Entries.{operations_of_taken, is_held, carried_of}
use Rattle.yd_received.specs.Received.{taken_of, held_of}
use Rattle.yd_entries.proofs.WrittenLemmas.{taken_written}
use Rattle.yd_held.specs.Held.{HeldValue}
use Rattle.yd_held.specs.Numbered.{IsVectorOf}
use Rattle.yd_held.specs.Readiness.{is_ready}
use Rattle.yd_held.specs.Holding.{IsHolding, AreUnready}
use Rattle.yd_held.proofs.HeldUnitLemmas.{IsFirst, Follows, id_at, unit_cases, covers_later}
use Rattle.yd_held.proofs.HeldEntryLemmas.{is_taken, taken_entry, entry_chosen, chosen_received, covers_chosen}
use Rattle.yd_held.proofs.HoldingLemmas.{some_below, reached, is_written}

same_clock : (m n : ℕ) → m ≡ n → nat_eq m n ≡ true
same_clock m n e = grind (arith, tests)

module _ (k : HeldValue) (h : IsHolding k) (unready : AreUnready k.vector k.received.runs k.received.entries) where
  abbrev received : List Operation
  received = taken_of k.received

  abbrev held : List Operation
  held = held_of k.received

  below : (x : Id) → has_operation held x ≡ true → x.clock < clock_of k.vector x.client.0
  below x = (h.tells x).0

  -- a first unit at its client's clock has not all that it needs
  first_lacks : (t : Entry) → IsIn t k.received.entries → is_held t ≡ false → (o : Operation) → IsFirst k.received.runs t o →
      o.id.clock ≡ clock_of k.vector o.id.client.0 → ((x : Id) → IsIn x (needs o) → x.clock < clock_of k.vector x.client.0) → ⊥
  first_lacks t i waits o first at_clock below =
      true≢false (sym ready ∙ each_in (λ u. is_ready k.vector k.received.runs u ≡ false) k.received.entries unready t i)
    where
      ready : is_ready k.vector k.received.runs t ≡ true
      ready = hold_both _ _ (ap not waits)
          (hold_both _ _ (same_clock t.id.clock (clock_of k.vector t.id.client.0) (subst (λ (x : Id). x.clock ≡ clock_of k.vector x.client.0) first.has_id at_clock))
          (hold_both _ _ (some_below k.vector t.left (λ x e. below x (left_needed o x (first.has_left ∙ e))))
          (hold_both _ _ (some_below k.vector t.right (λ x e. below x (right_needed o x (first.has_right ∙ e))))
          (some_below k.vector (item_carried (carried_of k.received.runs t)) (λ x e. below x (item_needed o x (ap item_carried first.has_list ∙ e)))))))

  -- a later unit waits only where the one before it does
  before_waits : (t : Entry) → IsIn t k.received.entries → is_held t ≡ false → (o : Operation) (j : ℕ) → Follows t o j →
      ((x : Id) → IsIn x (needs o) → x.clock < clock_of k.vector x.client.0) → ⊥
  before_waits t i waits o j later needed =
      let lt = needed (id_at o.id.client j) (before_needed o j (ap (λ (y : Id). y.clock) later.has_id)) in
      let there = (h.tells (id_at t.id.client j)).1 (subst (λ c. j < clock_of k.vector c.0) (ap (λ (y : Id). y.client) later.has_id) lt) in
      true≢false (sym (covers_chosen is_held k.received h.in_order t (id_at t.id.client j) i
      (covers_later k.received.runs t (is_taken k.received h.in_order t i) j later.above (omega (arith, later.below))) there) ∙ waits)

  final : AreFinal received (clock_of k.vector)
  final o i at_clock needed = let (t, j, l) = taken_entry k.received h.in_order o i in go t j l (is_held t) refl
    where
      go : (t : Entry) → IsIn t k.received.entries → IsIn o (operations_of_taken k.received.runs t) → (b : Bool) → is_held t ≡ b → ⊥
      go t j l true e = omega (arith, at_clock, below o.id (id_is_there held o (entry_chosen is_held k.received h.in_order t j e o l)))
      go t j l false e = elim (unit_cases k.received.runs t (is_taken k.received h.in_order t j) o l) [
        | inl first ↦ first_lacks t j e o first at_clock needed
        | inr later ↦ before_waits t j e o later.0 later.1 needed
      ]

  written : IsWritten received
  written = taken_written k.received.runs k.received.entries h.in_order

  -- ---- lemmas for callers

  -- what is held is all that can be
  pub held_all : held ≡ held_set received
  held_all = written_alone held (held_set received) (is_written k h) (held_set_written received written) forth back
    where
      forth : (o : Operation) → IsIn o held → IsIn o (held_set received)
      forth o i = below_held received written (clock_of k.vector) (reached k h) o (chosen_received is_held k.received h.in_order o i) (below o.id (id_is_there held o i))

      back : (o : Operation) → IsIn o (held_set received) → IsIn o held
      back o i =
          let lt = (held_is_below received written (clock_of k.vector) (reached k h) final o.id).0 (id_is_there (held_set received) o i) in
          let (p, j, e) = operation_with held o.id ((h.tells o.id).1 lt) in
          let one : p ≡ o = one_operation received (written_distinct received written) p o (chosen_received is_held k.received h.in_order p j) (held_is_received received o i) e in
          subst (λ q. IsIn q held) one j

  -- and the vector counts it
  pub counted_all : IsVectorOf k.vector k.received
  counted_all client = sym (ap (λ hs. held_clock hs client) held_all ∙ held_clock-clocks received written (clock_of k.vector) (reached k h) final client)
