-- Entries that became held in turn, from the first one and from the last one.
use Rattle.std.proofs.Common.{◌≡◌, ℕ, ◌≤◌, List, [], ◌∷◌, ◌++◌, inl, inr, Some, refl, sym, ap, ◌∙◌, subst, arith}
use Rattle.std.specs.Prelude.{slice_get}
use Rattle.yd_words.specs.Member.{IsIn}
use Rattle.yd_words.proofs.OptionLemmas.{some_is}
use Rattle.yd_words.proofs.TestLemmas.{same_or_other}
use Rattle.yd_ops.specs.declared.runs.Run.{Run}
use Rattle.yd_entries.specs.declared.entry.Entry.{Entry}
use Rattle.yd_held.specs.Turn.{clocks_with, IsNextHeld, AreHeldInTurn}
use Rattle.yd_held.proofs.TurnLemmas.{clocks_own, clocks_other}

module _ (runs : List Run) (taken : List Entry) where
  -- the clocks told otherwise
  pub turn_from : (clocks others after : ℕ → ℕ) (order : List ℕ) → ((client : ℕ) → others client ≡ clocks client) →
      AreHeldInTurn runs taken clocks order after → AreHeldInTurn runs taken others order after
  turn_from clocks others after order same turn = subst (λ f. AreHeldInTurn runs taken f order after) (λ i client. sym (same client) i) turn

  pub turn_to : (clocks after others : ℕ → ℕ) (order : List ℕ) → ((client : ℕ) → others client ≡ after client) →
      AreHeldInTurn runs taken clocks order after → AreHeldInTurn runs taken clocks order others
  turn_to clocks after others order same turn = subst (λ f. AreHeldInTurn runs taken clocks order f) (λ i client. sym (same client) i) turn

  rises_with : (t : Entry) (clocks : ℕ → ℕ) (client : ℕ) → t.id.clock ≡ clocks t.id.client.0 → clocks client ≤ clocks_with t clocks client
  rises_with t clocks client begins = elim (same_or_other client t.id.client.0) [
    | inl same ↦ omega (arith, clocks_own t clocks client same, begins, ap clocks same)
    | inr other ↦ omega (arith, clocks_other t clocks client other)
  ]

  -- no clock falls
  pub turn_rises : (clocks after : ℕ → ℕ) (order : List ℕ) → AreHeldInTurn runs taken clocks order after → (client : ℕ) → clocks client ≤ after client
  turn_rises clocks after [] turn client = omega (arith, turn client)
  turn_rises clocks after (at ∷ order) (t, got, next, rest) client =
      omega (arith, rises_with t clocks client next.begins, turn_rises (clocks_with t clocks) after order rest client)

  -- each of them begins at its client's last clock or before it
  pub turn_below : (clocks after : ℕ → ℕ) (order : List ℕ) → AreHeldInTurn runs taken clocks order after → (at : ℕ) (t : Entry) → IsIn at order → slice_get taken at ≡ Some t →
      t.id.clock ≤ after t.id.client.0
  turn_below clocks after [] turn at t i got = absurd i
  turn_below clocks after (k ∷ order) (u, there, next, rest) at t (inl e) got =
      let same : t ≡ u = some_is t u (sym got ∙ (ap (slice_get taken) e ∙ there)) in
      subst (λ v. v.id.clock ≤ after v.id.client.0) (sym same)
      (omega (arith, next.begins, rises_with u clocks u.id.client.0 next.begins, turn_rises (clocks_with u clocks) after order rest u.id.client.0))
  turn_below clocks after (k ∷ order) (u, there, next, rest) at t (inr i) got = turn_below (clocks_with u clocks) after order rest at t i got

  -- the last one, and the clocks before it
  pub record IsLastHeld (clocks : ℕ → ℕ) (front : List ℕ) (at : ℕ) (after : ℕ → ℕ) : Type 0 where
    pub mid : ℕ → ℕ
    pub entry : Entry
    pub there : slice_get taken at ≡ Some entry
    pub next : IsNextHeld runs mid entry
    pub turn : AreHeldInTurn runs taken clocks front mid
    pub clocks_are : (client : ℕ) → after client ≡ clocks_with entry mid client

  pub turn_last : (clocks after : ℕ → ℕ) (front : List ℕ) (at : ℕ) → AreHeldInTurn runs taken clocks (front ++ at ∷ []) after → IsLastHeld clocks front at after
  turn_last clocks after [] at (t, got, next, rest) = record { mid = clocks; entry = t; there = got; next = next; turn = λ client. refl; clocks_are = rest }
  turn_last clocks after (k ∷ front) at (u, there, first, rest) =
      let l = turn_last (clocks_with u clocks) after front at rest in
      record { mid = l.mid; entry = l.entry; there = l.there; next = l.next; turn = (u, there, first, l.turn); clocks_are = l.clocks_are }
