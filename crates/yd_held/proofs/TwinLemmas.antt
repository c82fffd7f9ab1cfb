-- The clocks from before entries became held, brought up to date one entry after another.
use Rattle.std.proofs.Common.{◌≡◌, ℕ, zero, suc, ◌<◌, ◌≤◌, ◌+◌, List, [], ◌∷◌, inl, inr, Some, length, drop, get_or, refl, sym, ap, ◌∙◌, subst, arith}
use Rattle.std.specs.Prelude.{slice_get}
use Rattle.std.proofs.lemmas.Option.{slice_get_read, slice_get_within}
use Rattle.yd_words.proofs.OptionLemmas.{some_is}
use Rattle.yd_words.proofs.TestLemmas.{same_or_other}
use Rattle.yd_ids.specs.declared.id.Client.{Client}
use Rattle.yd_ids.specs.Vector.{clock_of, RaisesOnly}
use Rattle.yd_ops.specs.declared.runs.Run.{Run}
use Rattle.yd_entries.specs.declared.entry.Entry.{Entry}
use Rattle.yd_entries.specs.Entries.{IsTakenOf}
use Rattle.yd_entries.proofs.ChangeLemmas.{entry_got}
use Rattle.yd_received.specs.Received.{ReceivedValue, IsReceived}
use Rattle.yd_held.specs.Turn.{clocks_with, IsNextHeld, AreHeldInTurn}
use Rattle.yd_held.proofs.HeldEntryLemmas.{is_taken}
use Rattle.yd_held.proofs.TurnLemmas.{clocks_own, clocks_other}

module _ (runs : List Run) (taken : List Entry) where
  -- the next entry is there, and the others come in turn behind it
  next_there : (order : List ℕ) (clocks after : ℕ → ℕ) (i : ℕ) → i < length order → AreHeldInTurn runs taken clocks (drop i order) after →
      (t : Entry) × (slice_get taken (get_or order i 0) ≡ Some t) × IsNextHeld runs clocks t × AreHeldInTurn runs taken (clocks_with t clocks) (drop (suc i) order) after
  next_there [] clocks after i lt turn = absurd (omega (arith, lt))
  next_there (at ∷ order) clocks after zero lt turn = turn
  next_there (at ∷ order) clocks after (suc i) lt turn = next_there order clocks after i (omega (arith, lt)) turn

  -- with no entry left, the clocks are those that are reached
  pub none_left : (order : List ℕ) (clocks after : ℕ → ℕ) (i : ℕ) → length order ≤ i → AreHeldInTurn runs taken clocks (drop i order) after → (client : ℕ) → clocks client ≡ after client
  none_left [] clocks after zero le turn client = sym (turn client)
  none_left [] clocks after (suc i) le turn client = sym (turn client)
  none_left (at ∷ order) clocks after zero le turn client = absurd (omega (arith, le))
  none_left (at ∷ order) clocks after (suc i) le turn client = none_left order clocks after i (omega (arith, le)) turn client

  -- a vector that is raised to the end of the next entry has its clocks
  raised_with : (order : List ℕ) (vector raised : List (Client × ℕ)) (after : ℕ → ℕ) (t : Entry) → IsNextHeld runs (clock_of vector) t →
      RaisesOnly vector raised t.id.client.0 (t.id.clock + t.len) → AreHeldInTurn runs taken (clocks_with t (clock_of vector)) order after → AreHeldInTurn runs taken (clock_of raised) order after
  raised_with order vector raised after t next raises = subst (λ clocks. AreHeldInTurn runs taken clocks order after) (λ i client. same client i)
    where
      same : (client : ℕ) → clocks_with t (clock_of vector) client ≡ clock_of raised client
      same client = elim (same_or_other client t.id.client.0) [
        | inl own ↦ clocks_own t (clock_of vector) client own ∙ (omega (arith, raises.this_client, next.begins) ∙ sym (ap (clock_of raised) own))
        | inr other ↦ clocks_other t (clock_of vector) client other ∙ sym (raises.other_clients client other)
      ]

module _ (r : ReceivedValue) (is : IsReceived r) (order : List ℕ) (vector : List (Client × ℕ)) (after : ℕ → ℕ) (i : ℕ) (lt : i < length order)
    (turn : AreHeldInTurn r.runs r.entries (clock_of vector) (drop i order) after) where
  pub next_inside : get_or order i 0 < length r.entries
  next_inside = let (t, there, next, rest) = next_there r.runs r.entries order (clock_of vector) after i lt turn in slice_get_within r.entries (get_or order i 0) t there

  module _ (ts : List Entry) (u : Entry) (same : ts ≡ r.entries) (got : u ≡ get_or ts (get_or order i 0) u) where
    here : slice_get r.entries (get_or order i 0) ≡ Some u
    here = slice_get_read r.entries (length r.entries) (get_or order i 0) u refl next_inside (got ∙ ap (λ us. get_or us (get_or order i 0) u) same)

    pub next_taken : IsTakenOf r.runs u
    next_taken = is_taken r is u (entry_got r.entries (get_or order i 0) u here)

    -- once its clock is raised, the others come in turn
    pub turn_raised : (raised : List (Client × ℕ)) → RaisesOnly vector raised u.id.client.0 (u.id.clock + u.len) → AreHeldInTurn r.runs r.entries (clock_of raised) (drop (i + 1) order) after
    turn_raised raised raises =
        let (t, there, next, rest) = next_there r.runs r.entries order (clock_of vector) after i lt turn in
        let one : t ≡ u = some_is t u (sym there ∙ here) in
        let more : suc i ≡ i + 1 = omega arith in
        subst (λ n. AreHeldInTurn r.runs r.entries (clock_of raised) (drop n order) after) more
        (raised_with r.runs r.entries (drop (suc i) order) vector raised after u (subst (IsNextHeld r.runs (clock_of vector)) one next) raises
        (subst (λ (v : Entry). AreHeldInTurn r.runs r.entries (clocks_with v (clock_of vector)) (drop (suc i) order) after) one rest))
