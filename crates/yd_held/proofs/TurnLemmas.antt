-- Entries that become held in turn: one more comes behind them, and an entry that gets a place changes nothing of it.
use Rattle.std.proofs.Common.{◌≡◌, ◌≢◌, ℕ, zero, suc, ◌+◌, ◌<◌, Bool, true, false, List, [], ◌∷◌, ◌++◌, ◌⊎◌, inl, inr, Some, set, refl, sym, ap, ◌∙◌, subst, arith, tests, nat_eq, true≢false}
use Rattle.std.specs.Prelude.{slice_get}
use Rattle.yd_words.specs.Member.{IsIn}
use Rattle.yd_words.proofs.OptionLemmas.{some_is}
use Rattle.yd_words.proofs.TestLemmas.{split, same_or_other}
use Rattle.yd_ids.specs.declared.id.Client.{Client}
use Rattle.yd_ids.specs.declared.id.Id.{Id}
use Rattle.yd_ids.specs.Vector.{clock_of}
use Rattle.yd_ops.specs.declared.runs.Run.{Run}
use Rattle.yd_ops.specs.Operation.{Operation}
use Rattle.yd_entries.specs.declared.entry.Entry.{Entry}
use Rattle.yd_entries.specs.declared.place.Place.{Place}
use Rattle.yd_entries.specs.Entries.{operations_of_taken, covers, is_held, is_held_at, carried_of}
use Rattle.yd_received.specs.Received.{ReceivedValue, IsReceived, held_of, with_place}
use Rattle.yd_entries.proofs.ChangeLemmas.{set_has, set_has_at}
use Rattle.yd_entries.proofs.EntryLemmas.{covers_in}
use Rattle.yd_held.specs.Holding.{HoldsEntry}
use Rattle.yd_held.specs.Readiness.{IsOriginOf}
use Rattle.yd_held.specs.Turn.{clocks_with, IsNextHeld, AreHeldInTurn}
use Rattle.yd_held.proofs.HeldEntryLemmas.{chosen_entry, entry_chosen}
use Rattle.yd_held.proofs.HeldUnitLemmas.{carried_at_place}
use Rattle.yd_held.proofs.HoldingLemmas.{IsReady}

-- ---- clocks

-- the client of the entry has the clock behind it
pub clocks_own : (t : Entry) (clocks : ℕ → ℕ) (client : ℕ) → client ≡ t.id.client.0 → clocks_with t clocks client ≡ t.id.clock + t.len
clocks_own t clocks client e = let same : nat_eq client t.id.client.0 ≡ true = grind (arith, tests) in rw same refl

-- and each other one its own
pub clocks_other : (t : Entry) (clocks : ℕ → ℕ) (client : ℕ) → client ≢ t.id.client.0 → clocks_with t clocks client ≡ clocks client
clocks_other t clocks client other = let apart : nat_eq client t.id.client.0 ≡ false = differ (nat_eq client t.id.client.0) refl in rw apart refl
  where
    differ : (b : Bool) → nat_eq client t.id.client.0 ≡ b → nat_eq client t.id.client.0 ≡ false
    differ true e = absurd (other (grind (arith, tests)))
    differ false e = e

-- ---- one more entry

next_alike : (runs : List Run) (clocks others : ℕ → ℕ) (t : Entry) → ((client : ℕ) → others client ≡ clocks client) → IsNextHeld runs clocks t → IsNextHeld runs others t
next_alike runs clocks others t same next = record {
  held = next.held;
  begins = next.begins ∙ sym (same t.id.client.0);
  origins = λ x origin. omega (arith, next.origins x origin, same x.client.0);
}

pub turn_more : (runs : List Run) (taken : List Entry) (order : List ℕ) (clocks mid after : ℕ → ℕ) (at : ℕ) (t : Entry) → AreHeldInTurn runs taken clocks order mid →
    slice_get taken at ≡ Some t → IsNextHeld runs mid t → ((client : ℕ) → after client ≡ clocks_with t mid client) → AreHeldInTurn runs taken clocks (order ++ at ∷ []) after
turn_more runs taken [] clocks mid after at t turn got next e =
    (t, got, next_alike runs mid clocks t (λ client. sym (turn client)) next, λ client. e client ∙ with_alike client)
  where
    with_alike : (client : ℕ) → clocks_with t mid client ≡ clocks_with t clocks client
    with_alike client = elim (same_or_other client t.id.client.0) [
      | inl same ↦ clocks_own t mid client same ∙ sym (clocks_own t clocks client same)
      | inr other ↦ clocks_other t mid client other ∙ (turn client ∙ sym (clocks_other t clocks client other))
    ]
turn_more runs taken (k ∷ order) clocks mid after at t (u, there, first, rest) got next e =
    (u, there, first, turn_more runs taken order (clocks_with u clocks) mid after at t rest got next e)

-- ---- an entry gets a place

other_got : {X : Type 0} (xs : List X) (i j : ℕ) (x : X) → j ≢ i → slice_get (set xs i x) j ≡ slice_get xs j
other_got [] i j x other = refl
other_got (y ∷ ys) zero zero x other = absurd (other refl)
other_got (y ∷ ys) zero (suc j) x other = refl
other_got (y ∷ ys) (suc i) zero x other = refl
other_got (y ∷ ys) (suc i) (suc j) x other = other_got ys i j x (λ e. other (ap suc e))

module _ (runs : List Run) (t : Entry) (p : Place) (held : is_held_at p ≡ true) where
  next_placed : (clocks : ℕ → ℕ) → IsNextHeld runs clocks t → IsNextHeld runs clocks (with_place t p)
  next_placed clocks next = record {
    held = held;
    begins = next.begins;
    origins = λ x origin. next.origins x (subst (IsOriginOf x t.left t.right) (carried_at_place runs t p) origin);
  }

  pub turn_placed : (taken : List Entry) (at : ℕ) → slice_get taken at ≡ Some t → (order : List ℕ) (clocks after : ℕ → ℕ) →
      AreHeldInTurn runs taken clocks order after → AreHeldInTurn runs (set taken at (with_place t p)) clocks order after
  turn_placed taken at got [] clocks after turn = turn
  turn_placed taken at got (k ∷ order) clocks after (u, there, next, rest) = elim (same_or_other k at) [
    | inl same ↦
        let is : u ≡ t = some_is u t (sym there ∙ (ap (slice_get taken) same ∙ got)) in
        let v : Entry = with_place t p in (
          v,
          ap (slice_get (set taken at v)) same ∙ set_has_at t v taken at got,
          next_placed clocks (subst (IsNextHeld runs clocks) is next),
          turn_placed taken at got order (clocks_with v clocks) after (subst (λ w. AreHeldInTurn runs taken (clocks_with w clocks) order after) is rest),
        )
    | inr other ↦ (u, other_got taken at k (with_place t p) other ∙ there, next, turn_placed taken at got order (clocks_with u clocks) after rest)
  ]

-- ---- lemmas for callers, of one that is held

module _ (at : ℕ) (old new : ReceivedValue) (vector raised : List (Client × ℕ)) (h : HoldsEntry at old.entries new.entries vector raised) (runs : new.runs ≡ old.runs)
    (ready : IsReady vector old.runs h.entry) (held : is_held_at h.place ≡ true) where
  abbrev placed : Entry
  placed = with_place h.entry h.place

  here : slice_get new.entries at ≡ Some placed
  here = ap (λ ts. slice_get ts at) h.placed ∙ set_has_at h.entry placed old.entries at h.there

  is_next : IsNextHeld new.runs (clock_of vector) placed
  is_next = record {
    held = held;
    begins = ready.begins;
    origins = λ x origin. ready.origins x (subst (IsOriginOf x h.entry.left h.entry.right)
        (ap (λ rs. carried_of rs placed) runs ∙ carried_at_place old.runs h.entry h.place) origin);
  }

  clocks_are : (client : ℕ) → clock_of raised client ≡ clocks_with placed (clock_of vector) client
  clocks_are client = elim (same_or_other client h.entry.id.client.0) [
    | inl same ↦ ap (clock_of raised) same ∙ (omega (arith, h.raises.this_client, ready.begins) ∙ sym (clocks_own placed (clock_of vector) client same))
    | inr other ↦ h.raises.other_clients client other ∙ sym (clocks_other placed (clock_of vector) client other)
  ]

  -- it comes behind those that were held in turn
  pub turn_held : (order : List ℕ) (clocks : ℕ → ℕ) → AreHeldInTurn old.runs old.entries clocks order (clock_of vector) →
      AreHeldInTurn new.runs new.entries clocks (order ++ at ∷ []) (clock_of raised)
  turn_held order clocks turn = turn_more new.runs new.entries order clocks (clock_of vector) (clock_of raised) at placed
      (subst (λ rs. AreHeldInTurn rs new.entries clocks order (clock_of vector)) (sym runs)
      (subst (λ ts. AreHeldInTurn old.runs ts clocks order (clock_of vector)) (sym h.placed)
      (turn_placed old.runs h.entry h.place held old.entries at h.there order clocks (clock_of vector) turn)))
      here is_next clocks_are

  -- and what was held stays so
  pub stays_held : IsReceived old → IsReceived new → (o : Operation) → IsIn o (held_of old) → IsIn o (held_of new)
  stays_held is_old is_new o i =
      let (u, j, u_held, l) = chosen_entry is_held old is_old o i in
      elim (set_has h.entry placed old.entries at h.there u j) [
        | inl e ↦ absurd (true≢false (sym u_held ∙ (ap is_held e ∙ ready.waits)))
        | inr m ↦ entry_chosen is_held new is_new u (subst (λ ts. IsIn u ts) (sym h.placed) m) u_held o
            (subst (λ rs. IsIn o (operations_of_taken rs u)) (sym runs) l)
      ]

-- ---- lemmas for callers, of all that became held

-- an id below the clocks that are reached was so before, or is one of an entry in turn
pub turn_covers : (runs : List Run) (taken : List Entry) (order : List ℕ) (clocks after : ℕ → ℕ) → AreHeldInTurn runs taken clocks order after → (x : Id) → x.clock < after x.client.0 →
    (x.clock < clocks x.client.0) ⊎ ((at : ℕ) × IsIn at order × (t : Entry) × (slice_get taken at ≡ Some t) × (covers t x ≡ true))
turn_covers runs taken [] clocks after turn x lt = inl (omega (arith, lt, turn x.client.0))
turn_covers runs taken (at ∷ order) clocks after (t, got, next, rest) x lt = elim (turn_covers runs taken order (clocks_with t clocks) after rest x lt) [
  | inl low ↦ elim (same_or_other x.client.0 t.id.client.0) [
    | inl same ↦ elim (split t.id.clock x.clock) [
      | inl above ↦ inr (at, inl refl, t, got, covers_in t x (sym same) above (omega (arith, low, clocks_own t clocks x.client.0 same)))
      | inr less ↦ inl (omega (arith, less, next.begins, ap clocks same))
    ]
    | inr other ↦ inl (omega (arith, low, clocks_other t clocks x.client.0 other))
  ]
  | inr (k, i, u, there, covered) ↦ inr (k, inr i, u, there, covered)
]
