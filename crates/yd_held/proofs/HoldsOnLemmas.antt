-- What was held is held as it was or less: where not as it was, a held entry has it that is gone, or of a new run, and all of it is deleted or U+FFFD.
use Rattle.std.proofs.Common.{◌≡◌, ℕ, zero, suc, ◌+◌, ◌<◌, ◌≤◌, true, false, List, [], ◌∷◌, ◌⊎◌, inl, inr, Some, length, map, refl, sym, ap, ◌∙◌, subst, arith, tests, nat_lt, true≢false}
use Rattle.std.specs.Prelude.{slice_get, not, ◌&&◌, ◌||◌}
use Rattle.std.proofs.lemmas.Bool.{cases_Bool}
use Rattle.yd_words.specs.Member.{IsIn}
use Rattle.yd_words.proofs.OptionLemmas.{some_is}
use Rattle.yd_words.proofs.TestLemmas.{both_hold, hold_both}
use Rattle.yd_ids.specs.declared.id.Client.{Client}
use Rattle.yd_ids.specs.Vector.{clock_of}
use Rattle.yd_ops.specs.Operation.{Operation}
use Rattle.yd_ops.specs.Received.{with_groups}
use Rattle.yd_meaning.specs.Held.{is_gone, held_set}
use Rattle.yd_meaning.specs.Law.{IsPartOf}
use Rattle.yd_meaning.specs.Staying.{AreSeenAlike, StaysHeld}
use Rattle.yd_meaning.proofs.GrownHeldLemmas.{part_stays_held}
use Rattle.yd_meaning.proofs.RowLemmas.{written_distinct, one_operation}
use Rattle.yd_entries.specs.declared.entry.Entry.{Entry}
use Rattle.yd_entries.specs.declared.place.Place.TheVariants.{Waits}
use Rattle.yd_entries.specs.Entries.{operations_of_taken, covers, is_held, is_listed}
use Rattle.yd_received.specs.Received.{ReceivedValue, IsReceived, taken_of, held_of, is_below, undone, with_place}
use Rattle.yd_entries.proofs.ChangeLemmas.{entry_got}
use Rattle.yd_entries.proofs.WrittenLemmas.{taken_written}
use Rattle.yd_entries.specs.Staying.{is_told_by_first, is_held_by_later, IsLess, KeepsPlaces}
use Rattle.yd_held.specs.Held.{HeldValue, HoldsAll}
use Rattle.yd_held.specs.Holding.{IsHolding, OnlyHolds}
use Rattle.yd_held.specs.Telling.{is_held_less, AreHeldLess}
use Rattle.yd_held.specs.Turn.{HoldsInTurn, IsToldAs, IsToldAnew, IsHeldLess, HoldsOn}
use Rattle.yd_held.proofs.HeldEntryLemmas.{is_taken, chosen_entry, entry_chosen, chosen_received, chosen_id}
use Rattle.yd_held.proofs.HeldUnitLemmas.{id_at, unit_gone, unit_covers, covers_first, covers_later}
use Rattle.yd_held.proofs.HoldingLemmas.{is_written, has_needs, less_below}
use Rattle.yd_held.proofs.KeptLemmas.{with_received, holds_holding}
use Rattle.yd_held.proofs.LeftLemmas.{told_left}
use Rattle.yd_held.proofs.StillHeldLemmas.{held_left, holding_still, still_held}

-- ---- what stays held, once more

seen_through : (o q r : Operation) → AreSeenAlike o q → AreSeenAlike q r → AreSeenAlike o r
seen_through o q r a b = record { id = b.id ∙ a.id; left = b.left ∙ a.left; right = b.right ∙ a.right; list = b.list ∙ a.list }

stays_through : (part mid held : List Operation) → StaysHeld part mid → StaysHeld mid held → StaysHeld part held
stays_through part mid held a b = record {
  written = a.written;
  ids = λ x e. b.ids x (a.ids x e);
  clocks = a.clocks;
  stands = λ o i. let (q, j, seen) = a.stands o i in let (r, k, more) = b.stands q j in (r, k, seen_through o q r seen more);
  lost = λ x e. b.lost x (a.lost x e);
}

-- what is held stays so as more is held in turn
turn_stays : (old new : HeldValue) → IsHolding old → HoldsAll new → (order : List ℕ) → HoldsInTurn order old new → StaysHeld (held_of old.received) (held_of new.received)
turn_stays old new holds now order turn = subst (StaysHeld (held_of old.received)) (sym now.held)
    (part_stays_held (taken_of new.received) (taken_written new.received.runs new.received.entries now.in_order) (held_of old.received) part)
  where
    part : IsPartOf (held_of old.received) (held_set (taken_of new.received))
    part = record {
      written = is_written old holds;
      within = λ o i. subst (λ os. IsIn o os) now.held (turn.stays o i);
      closed = λ o i x n. has_needs old holds o i x n;
    }

-- ---- entries that were held have their numbers still

-- what is got of one list is got of the other, up to a function that makes both one
map_got : (f : Entry → Entry) (ts us : List Entry) (at : ℕ) (u : Entry) → map f ts ≡ map f us → slice_get us at ≡ Some u →
    (t : Entry) × (slice_get ts at ≡ Some t) × (f t ≡ f u)
map_got f ts [] at u e got = absurd cc
map_got f [] (v ∷ us) at u e got = absurd cc
map_got f (t ∷ ts) (v ∷ us) zero u e got = let same : f t ≡ f v = cc in (t, refl, same ∙ ap f (some_is v u got))
map_got f (t ∷ ts) (v ∷ us) (suc at) u e got = map_got f ts us at u (let rest : map f ts ≡ map f us = cc in rest) got

undone_below : (vector : List (Client × ℕ)) (t : Entry) → is_below vector t.id ≡ true → undone vector t ≡ t
undone_below vector t e = rw e refl

undone_above : (vector : List (Client × ℕ)) (t : Entry) → is_below vector t.id ≡ false → undone vector t ≡ with_place t Waits
undone_above vector t e = rw e refl

got_still : (vector : List (Client × ℕ)) (ts us : List Entry) (at : ℕ) (u : Entry) → map (undone vector) ts ≡ map (undone vector) us → slice_get us at ≡ Some u →
    is_below vector u.id ≡ true → slice_get ts at ≡ Some u
got_still vector ts us at u e got below =
    let (t, there, same) = map_got (undone vector) ts us at u e got in
    elim (cases_Bool (is_below vector t.id)) [
      | inl f ↦ there ∙ ap (λ (s : Entry). Some s) (sym (undone_below vector t f) ∙ same ∙ undone_below vector u below)
      | inr f ↦
          let is : with_place t Waits ≡ u = sym (undone_above vector t f) ∙ same ∙ undone_below vector u below in
          absurd (true≢false (sym below ∙ ap (λ (s : Entry). is_below vector s.id) (sym is) ∙ f))
    ]

-- an entry has a number
number_got : (ts : List Entry) (t : Entry) → IsIn t ts → (at : ℕ) × (at < length ts) × (slice_get ts at ≡ Some t)
number_got [] t i = absurd i
number_got (s ∷ ss) t (inl e) = (zero, omega arith, ap (λ (u : Entry). Some u) (sym e))
number_got (s ∷ ss) t (inr i) = let (at, lt, got) = number_got ss t i in (suc at, omega (arith, lt), got)

-- ---- of which entries less is told

-- of a held entry less is told, or one of the first runs tells it
less_or_first : (from : ℕ) (t : Entry) → is_held t ≡ true → (is_held_less from t ≡ true) ⊎ (is_told_by_first from t ≡ true)
less_or_first from t held = elim (cases_Bool t.is_gone) [
  | inl gone ↦ inl (rw (held, gone) refl)
  | inr there ↦ elim (cases_Bool (nat_lt t.run from)) [ inl e ↦ inr (rw (there, e) refl) | inr e ↦ inl (rw (held, there, e) refl) ]
]

less_held : (from : ℕ) (t : Entry) → is_held_less from t ≡ true → is_held t ≡ true
less_held from t e = (both_hold (is_held t) (t.is_gone || not (nat_lt t.run from)) e).0

less_later : (from : ℕ) (t : Entry) → is_held_less from t ≡ true → t.is_gone ≡ false → is_held_by_later from t ≡ true
less_later from t e there =
    let (held, rest) = both_hold (is_held t) (t.is_gone || not (nat_lt t.run from)) e in
    hold_both (is_held t) (not t.is_gone && not (nat_lt t.run from)) held (hold_both (not t.is_gone) (not (nat_lt t.run from)) (ap not there)
    (sym (ap (λ b. b || not (nat_lt t.run from)) there) ∙ rest))

later_run : (from : ℕ) (t : Entry) → is_held_by_later from t ≡ true → t.run < from → ⊥
later_run from t e lt =
    let later = (both_hold (not t.is_gone) (not (nat_lt t.run from)) (both_hold (is_held t) (not t.is_gone && not (nat_lt t.run from)) e).1).1 in
    let first : nat_lt t.run from ≡ true = grind (arith, tests) in
    true≢false (sym later ∙ ap not first)

-- ---- lemmas for callers

module _ (old : HeldValue) (mid : ReceivedValue) (holds : HoldsAll old) (is : IsReceived mid) (groups : List (List Operation))
    (same : taken_of mid ≡ with_groups groups (taken_of old.received)) (places : KeepsPlaces old.received.runs old.received.entries mid.runs mid.entries)
    (from : ℕ) (runs_were : from ≡ length old.received.runs) (none_gone : (t : Entry) → IsIn t mid.entries → is_listed t ≡ true → t.is_gone ≡ false)
    (told order : List ℕ) (less : AreHeldLess from mid.entries (length mid.entries) told)
    (new : HeldValue) (now : HoldsAll new) (turn : HoldsInTurn order (with_received old mid) new) (only : OnlyHolds (with_received old mid) new) where
  abbrev was : ReceivedValue
  was = old.received

  still : IsHolding (with_received old mid)
  still = holding_still old mid holds is groups same places none_gone

  -- a held entry has its number
  got_held : (at : ℕ) (t : Entry) → slice_get mid.entries at ≡ Some t → is_held t ≡ true → slice_get new.received.entries at ≡ Some t
  got_held at t got held =
      let i = entry_got mid.entries at t got in
      got_still old.vector new.received.entries mid.entries at t only.undone_is got
      (less_below old.vector t.id ((still.tells t.id).0 (chosen_id is_held mid is t t.id i held (covers_first mid.runs t (is_taken mid is t i)))))

  -- what one of the first runs tells is as it was
  as_it_was : (o q : Operation) → IsIn o (taken_of was) → q.id ≡ o.id → (t : Entry) → IsIn t mid.entries → is_told_by_first from t ≡ true →
      IsIn q (operations_of_taken mid.runs t) → q ≡ o
  as_it_was o q i e t j first k =
      let l = places.told from (omega (arith, runs_were)) q (entry_chosen (is_told_by_first from) mid is t j first q k) in
      one_operation (taken_of was) (written_distinct (taken_of was) (taken_written was.runs was.entries holds.in_order)) q o
      (chosen_received (is_told_by_first from) was holds.in_order q l) i e

  each_on : (o : Operation) → IsIn o (held_of was) → (q : Operation) × IsIn q (held_of new.received) × IsToldAs o q × ((q ≡ o) ⊎ IsToldAnew new.received told o.id)
  each_on o i =
      let (q, j, left) = held_left old mid holds is groups same places o i in
      let (t, k, held, l) = chosen_entry is_held mid is q j in (
        q,
        turn.stays q j,
        told_left o q left,
        elim (less_or_first from t held) [
          | inr first ↦ inl (as_it_was o q (chosen_received is_held was holds.in_order o i) left.id t k first l)
          | inl fewer ↦ inr (
              let (at, lt, got) = number_got mid.entries t k in (
                at,
                less.all at lt t got fewer,
                t,
                got_held at t got held,
                subst (λ x. covers t x ≡ true) left.id (unit_covers mid.runs t (is_taken mid is t k) q l),
              ))
        ],
      )

  -- its last unit is below the clock
  ends_below : (t : Entry) → IsIn t mid.entries → is_held t ≡ true → t.id.clock + t.len ≤ clock_of old.vector t.id.client.0
  ends_below t i held = go t.len refl (is_taken mid is t i).has_units
    where
      go : (n : ℕ) → t.len ≡ n → 0 < n → t.id.clock + t.len ≤ clock_of old.vector t.id.client.0
      go zero e lt = absurd (omega (arith, lt))
      go (suc n) e lt =
          let last = id_at t.id.client (t.id.clock + n) in
          omega (
            arith,
            e,
            (still.tells last).0 (chosen_id is_held mid is t last i held
                (covers_later mid.runs t (is_taken mid is t i) (t.id.clock + n) (omega arith) (omega (arith, e)))),
          )

  less_told : (t : Entry) → IsIn t mid.entries → is_held_less from t ≡ true → (q : Operation) → IsIn q (operations_of_taken mid.runs t) → (is_gone q ≡ true) ⊎ IsLess q
  less_told t i fewer q j = elim (cases_Bool t.is_gone) [
    | inl gone ↦ inl (unit_gone mid.runs t (is_taken mid is t i) q j ∙ gone)
    | inr there ↦ elim (places.less from (omega (arith, runs_were)) q (entry_chosen (is_held_by_later from) mid is t i (less_later from t fewer there) q j)) [
      | inl before ↦
          let (u, k, later, l) = chosen_entry (is_held_by_later from) was holds.in_order q before in
          absurd (later_run from u later (omega (arith, (is_taken was holds.in_order u k).run_there, runs_were)))
      | inr so ↦ inr so
    ]
  ]

  less_on : (at : ℕ) → IsIn at told → IsHeldLess old new at
  less_on at i =
      let (t, got, fewer) = less.each at i in
      let j = entry_got mid.entries at t got in
      let held = less_held from t fewer in
      record {
        entry = t;
        there = got_held at t got held;
        held = held;
        was = ends_below t j held;
        less = λ q k. less_told t j fewer q (subst (λ rs. IsIn q (operations_of_taken rs t)) only.runs_are k);
        lost = λ gone. elim (cases_Bool (is_listed t)) [ inl e ↦ absurd (true≢false (sym gone ∙ none_gone t j e)) | inr e ↦ e ];
      }

  pub holds_on : HoldsOn told order old new
  holds_on = record {
    stays = stays_through (held_of was) (held_of mid) (held_of new.received) (still_held old mid holds is groups same places none_gone)
        (turn_stays (with_received old mid) new still now order turn);
    each = each_on;
    less = less_on;
    turn = turn.turn;
  }

-- ---- where units were added alone

-- what was held is held as it was
pub holds_on_added : (old new : HeldValue) → HoldsAll old → HoldsAll new → (order : List ℕ) → HoldsInTurn order old new → HoldsOn [] order old new
holds_on_added old new holds now order turn = record {
  stays = turn_stays old new (holds_holding old holds) now order turn;
  each = λ o i. (o, turn.stays o i, told_itself o, inl refl);
  less = λ at i. absurd i;
  turn = turn.turn;
}
  where
    told_itself : (o : Operation) → IsToldAs o o
    told_itself o = record {
      id = refl;
      alike = elim (cases_Bool (is_gone o)) [ inl gone ↦ inl gone | inr there ↦ inr (there, there, record { id = refl; left = refl; right = refl; list = refl }) ];
      text = λ e. (0xFFFD, e);
    }
