-- What was held is held alike where waiting units were added: it has the same operations, clocks and places, and what waited is noted alike.
use Rattle.std.proofs.Common.{◌≡◌, ℕ, ◌<◌, true, List, [], Some, inl, inr, length, refl, sym, ap, ◌∙◌, subst, arith, true≢false}
use Rattle.std.specs.Prelude.{◌↔◌, filter, slice_get}
use Rattle.std.proofs.lemmas.Bool.{cases_Bool}
use Rattle.yd_words.specs.Each.{Each}
use Rattle.yd_words.specs.Member.{IsIn}
use Rattle.yd_words.proofs.EachLemmas.{each_both}
use Rattle.yd_words.proofs.FilterLemmas.{kept_one, one_kept}
use Rattle.yd_words.proofs.MemberLemmas.{each_in, in_each}
use Rattle.yd_ids.specs.declared.id.Client.{Client}
use Rattle.yd_ids.specs.declared.id.Id.{Id}
use Rattle.yd_ids.specs.Vector.{clock_of}
use Rattle.yd_ops.specs.declared.lists.List.{List as DocList}
use Rattle.yd_ops.specs.declared.runs.Run.{Run}
use Rattle.yd_ops.specs.Operation.{Operation}
use Rattle.yd_ops.specs.Received.{has_operation, IsWritten}
use Rattle.yd_meaning.specs.Held.{held_set, held_clock}
use Rattle.yd_meaning.proofs.HeldLemmas.{held_needs, held_set-part}
use Rattle.yd_meaning.proofs.VectorLemmas.{held_below}
use Rattle.yd_received.specs.declared.brought.Brought.{Brought}
use Rattle.yd_received.specs.declared.brought.Brought.TheVariants.{Nothing, Added, Lowered}
use Rattle.yd_entries.specs.declared.entry.Entry.{Entry}
use Rattle.yd_entries.specs.declared.place.Place.{Place}
use Rattle.yd_entries.specs.declared.place.Place.TheVariants.{Waits, Lost, In}
use Rattle.yd_entries.specs.Entries.{operations_in, carried_of, list_at, IsTakenOf, is_held, is_held_at, is_of_first, GrowBy, OnlyAdds}
use Rattle.yd_received.specs.Received.{ReceivedValue, IsReceived, IsBrought, taken_of, held_of}
use Rattle.yd_entries.proofs.EntriesLemmas.{each_kept}
use Rattle.yd_received.proofs.RestoringLemmas.{of_first, filter-all}
use Rattle.yd_entries.proofs.TakenLemmas.{grown_get, grown_in}
use Rattle.yd_entries.proofs.WrittenLemmas.{taken_written}
use Rattle.yd_held.specs.declared.noting.Lack.{Lack}
use Rattle.yd_held.specs.Held.{HeldValue, HoldsAll}
use Rattle.yd_held.specs.Holding.{IsHolding}
use Rattle.yd_held.specs.Noted.{IsNotedOrTried, AreNoted}
use Rattle.yd_held.specs.Numbered.{number_of}
use Rattle.yd_held.specs.Placed.{IsPlaced, ArePlaced}
use Rattle.yd_held.specs.Readiness.{IsOriginOf}
use Rattle.yd_held.specs.Turn.{HoldsInTurn}
use Rattle.yd_held.proofs.NumberOfLemmas.{number_of-held}
use Rattle.yd_held.proofs.PlacedLemmas.{placed_alike}

-- the same, with other runs and entries received
abbrev pub with_received : HeldValue → ReceivedValue → HeldValue
with_received k r = record { received = r; vector = k.vector; names = k.names; lacks = k.lacks }

-- ---- where all is held that can be

held_own : (os : List Operation) → IsWritten os → held_set (held_set os) ≡ held_set os
held_own os w = held_set-part os (held_set os) w (λ o i. i) (λ o i x n. held_needs os o i x n)

-- what is held is its own held set
pub holds_holding : (k : HeldValue) → HoldsAll k → IsHolding k
holds_holding k holds = record {
  in_order = holds.in_order;
  own = holds.held ∙ sym (held_own (taken_of k.received) written) ∙ ap held_set (sym holds.held);
  tells = λ x. subst (λ n. has_operation (held_of k.received) x ≡ true ↔ x.clock < n) (sym (holds.counted x.client.0))
      (subst (λ hs. has_operation hs x ≡ true ↔ x.clock < held_clock hs x.client.0) (sym holds.held) (held_below (taken_of k.received) written x.client x.clock));
  placed = holds.placed;
  distinct = holds.numbered.distinct;
  parents = holds.numbered.parents;
}
  where
    written : IsWritten (taken_of k.received)
    written = taken_written k.received.runs k.received.entries holds.in_order

-- ---- what is noted

carried_grown : (old new : List Run) (t : Entry) → GrowBy old new → IsTakenOf old t → carried_of new t ≡ carried_of old t
carried_grown old new t grow is = elim (cases_Bool t.is_gone) [
  | inl e ↦ rw e refl
  | inr e ↦ rw e (ap (λ run. list_at run t.offset) (grown_get old new t.run grow is.run_there))
]

-- it is noted of the same entries where runs were added behind the others
noted_grown : (old new : List Run) (vector : List (Client × ℕ)) (lacks : List Lack) (ts : List Entry) → GrowBy old new → Each (IsTakenOf old) ts →
    AreNoted vector old lacks [] ts → AreNoted vector new lacks [] ts
noted_grown old new vector lacks ts grow each noted = record {
  sorted = noted.sorted;
  each = each_both (IsTakenOf old) (IsNotedOrTried vector old lacks []) (IsNotedOrTried vector new lacks []) one ts each noted.each;
}
  where
    one : (t : Entry) → IsTakenOf old t → IsNotedOrTried vector old lacks [] t → IsNotedOrTried vector new lacks [] t
    one t is noted at_clock = elim (noted at_clock) [
      | inl none ↦ inl none
      | inr there ↦ inr (record {
        id = there.id;
        needed = subst (IsOriginOf there.id t.left t.right) (sym (carried_grown old new t grow is)) there.needed;
        missing = there.missing;
        there = there.there;
      })
    ]

-- ---- lemmas for callers, where waiting units were added

pub nothing_adds : (old new : ReceivedValue) → new ≡ old → OnlyAdds (length old.runs) old.entries new.entries
nothing_adds old new same = subst (λ (r : ReceivedValue). OnlyAdds (length old.runs) old.entries r.entries) (sym same) (record { first = λ n le. refl; held = refl })

pub brought_adds : (old new : ReceivedValue) (b : Brought) → ((entries : List Entry) → b ≡ Lowered entries → ⊥) → IsBrought b old new → OnlyAdds (length old.runs) old.entries new.entries
brought_adds old new Nothing other same = nothing_adds old new same
brought_adds old new Added other adds = adds
brought_adds old new (Lowered entries) other is = absurd (other entries refl)

module _ (old : HeldValue) (mid : ReceivedValue) (holds : HoldsAll old) (grow : GrowBy old.received.runs mid.runs) (is : IsReceived mid)
    (adds : OnlyAdds (length old.received.runs) old.received.entries mid.entries) where
  -- the same operations are held
  held_same : held_of mid ≡ held_of old.received
  held_same = ap (operations_in mid.runs) adds.held
      ∙ grown_in old.received.runs mid.runs (filter is_held old.received.entries) grow (each_kept is_held (IsTakenOf old.received.runs) old.received.entries holds.in_order.each)

  number_same : (x : Id) → number_of mid.entries x ≡ number_of old.received.entries x
  number_same x = sym (number_of-held mid.entries is.in_order x) ∙ ap (λ ts. number_of ts x) adds.held ∙ number_of-held old.received.entries holds.in_order.in_order x

  placed_same : ArePlaced mid old.names
  placed_same = in_each (λ t. IsPlaced mid old.names t t.place) mid.entries (λ t i. go t i t.place refl)
    where
      was_there : (t : Entry) → IsIn t mid.entries → is_held t ≡ true → IsIn t old.received.entries
      was_there t i held = (kept_one is_held old.received.entries t (subst (λ ts. IsIn t ts) adds.held (one_kept is_held mid.entries t held i))).1

      alike : (t : Entry) → IsIn t mid.entries → is_held t ≡ true → IsPlaced mid old.names t t.place
      alike t i held =
          let j = was_there t i held in
          placed_alike old.received mid old.names old.names t
          (carried_grown old.received.runs mid.runs t grow (each_in (IsTakenOf old.received.runs) old.received.entries holds.in_order.each t j))
          (λ x origin. number_same x) (λ n name e. e) t.place (each_in (λ u. IsPlaced old.received old.names u u.place) old.received.entries holds.placed t j)

      go : (t : Entry) → IsIn t mid.entries → (p : Place) → t.place ≡ p → IsPlaced mid old.names t t.place
      go t i Waits e = subst (IsPlaced mid old.names t) (sym e) tt
      go t i Lost e = alike t i (ap is_held_at e)
      go t i (In n) e = alike t i (ap is_held_at e)

  pub holding_added : IsHolding (with_received old mid)
  holding_added = let h = holds_holding old holds in record {
    in_order = is;
    own = held_same ∙ h.own ∙ ap held_set (sym held_same);
    tells = λ x. subst (λ hs. has_operation hs x ≡ true ↔ x.clock < clock_of old.vector x.client.0) (sym held_same) (h.tells x);
    placed = placed_same;
    distinct = h.distinct;
    parents = λ n name y e item. let (m, less, number) = h.parents n name y e item in (m, less, number_same y ∙ number);
  }

  pub noted_added : (from : ℕ) → from ≡ length old.received.runs → AreNoted old.vector mid.runs old.lacks [] (filter (is_of_first from) mid.entries)
  noted_added from first = subst (AreNoted old.vector mid.runs old.lacks []) (sym entries)
      (noted_grown old.received.runs mid.runs old.vector old.lacks old.received.entries grow holds.in_order.each holds.noted)
    where
      entries : filter (is_of_first from) mid.entries ≡ old.received.entries
      entries = ap (λ n. filter (is_of_first n) mid.entries) first ∙ adds.first (length old.received.runs) (omega arith)
          ∙ filter-all (length old.received.runs) old.received.entries (of_first old.received.runs old.received.entries holds.in_order.each)

  -- what is held in turn from there on is so from the old ones on
  pub turn_alike : (new : HeldValue) (order : List ℕ) → HoldsInTurn order (with_received old mid) new → HoldsInTurn order old new
  turn_alike new order h = record { stays = λ o i. h.stays o (subst (λ os. IsIn o os) (sym held_same) i); turn = h.turn }

-- ---- lemmas for callers, where nothing is held

pub holding_none : (r : ReceivedValue) → IsReceived r → filter is_held r.entries ≡ [] → IsHolding (record { received = r; vector = []; names = []; lacks = [] })
holding_none r is waits = record {
  in_order = is;
  own = none ∙ sym (ap held_set none);
  tells = λ x. subst (λ hs. has_operation hs x ≡ true ↔ x.clock < 0) (sym none) ((λ e. absurd (true≢false (sym e))), (λ lt. absurd (omega arith)));
  placed = in_each (λ t. IsPlaced r [] t t.place) r.entries (λ t i. go t i t.place refl);
  distinct = λ m n name e f. absurd (nowhere m name e);
  parents = λ n name y e item. absurd (nowhere n name e);
}
  where
    none : held_of r ≡ []
    none = ap (operations_in r.runs) waits

    nowhere : (m : ℕ) (name : DocList) → slice_get [] m ≡ Some name → ⊥
    nowhere m name e = cc

    no_one : (t : Entry) → IsIn t [] → ⊥
    no_one t i = i

    go : (t : Entry) → IsIn t r.entries → (p : Place) → t.place ≡ p → IsPlaced r [] t t.place
    go t i Waits e = subst (IsPlaced r [] t) (sym e) tt
    go t i Lost e = absurd (no_one t (subst (λ ts. IsIn t ts) waits (one_kept is_held r.entries t (ap is_held_at e) i)))
    go t i (In n) e = absurd (no_one t (subst (λ ts. IsIn t ts) waits (one_kept is_held r.entries t (ap is_held_at e) i)))
