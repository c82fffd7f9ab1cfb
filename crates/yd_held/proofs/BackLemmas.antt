-- What is put back after a change is what was held: runs and names as long as before, and units that wait unless they were held.
use Rattle.std.proofs.Common.{◌≡◌, ℕ, Bool, true, false, cond, List, [], ◌∷◌, inl, inr, take, length, map, filter, refl, sym, ap, ◌∙◌, arith, true≢false}
use Rattle.std.proofs.lemmas.Bool.{cases_Bool, false_from_ne_true}
use Rattle.yd_words.specs.Each.{Each}
use Rattle.yd_words.specs.Member.{IsIn}
use Rattle.yd_words.proofs.MemberLemmas.{in_each}
use Rattle.yd_ids.specs.declared.id.Client.{Client}
use Rattle.yd_entries.specs.declared.entry.Entry.{Entry}
use Rattle.yd_entries.specs.declared.place.Place.{Place}
use Rattle.yd_entries.specs.declared.place.Place.TheVariants.{Waits, Lost, In}
use Rattle.yd_entries.specs.Entries.{GrowBy, is_held, is_held_at, is_of_first, OnlyAdds}
use Rattle.yd_received.specs.Received.{ReceivedValue, with_place, undone, is_below, put_back}
use Rattle.yd_received.proofs.RestoringLemmas.{filter-all, of_first, front_back}
use Rattle.yd_held.specs.declared.parts.Before.{Before}
use Rattle.yd_held.specs.Changing.{IsOf, back_to, received_before, names_before}
use Rattle.yd_held.specs.Held.{HeldValue, HoldsAll}
use Rattle.yd_held.specs.Holding.{OnlyHolds}
use Rattle.yd_held.proofs.HeldEntryLemmas.{is_taken, chosen_id}
use Rattle.yd_held.proofs.HeldUnitLemmas.{covers_first}
use Rattle.yd_held.proofs.HoldingLemmas.{less_below}
use Rattle.yd_held.proofs.KeptLemmas.{with_received, holds_holding, nothing_adds}
use Rattle.yd_held.proofs.RoundLemmas.{grow_none, only_none}

-- ---- units that wait

undone_run : (vector : List (Client × ℕ)) (n : ℕ) (t : Entry) → is_of_first n (undone vector t) ≡ is_of_first n t
undone_run vector n t = elim (cases_Bool (is_below vector t.id)) [ inl e ↦ rw e refl | inr e ↦ rw e refl ]

filter-undone : (vector : List (Client × ℕ)) (n : ℕ) (ts : List Entry) → filter (is_of_first n) (map (undone vector) ts) ≡ map (undone vector) (filter (is_of_first n) ts)
filter-undone vector n [] = refl
filter-undone vector n (t ∷ ts) = go (is_of_first n t) (undone_run vector n t) (filter-undone vector n ts)
  where
    go : (b : Bool) → is_of_first n (undone vector t) ≡ b → filter (is_of_first n) (map (undone vector) ts) ≡ map (undone vector) (filter (is_of_first n) ts) →
        cond (is_of_first n (undone vector t)) (undone vector t ∷ filter (is_of_first n) (map (undone vector) ts)) (filter (is_of_first n) (map (undone vector) ts))
        ≡ map (undone vector) (cond b (t ∷ filter (is_of_first n) ts) (filter (is_of_first n) ts))
    go true e rest = rw e (ap (λ us. undone vector t ∷ us) rest)
    go false e rest = rw e rest

map-same : (f : Entry → Entry) (ts : List Entry) → Each (λ t. f t ≡ t) ts → map f ts ≡ ts
map-same f [] each = refl
map-same f (t ∷ ts) each = (λ i. each.0 i ∷ map f ts) ∙ ap (λ us. t ∷ us) (map-same f ts each.1)

at_own_place : (t : Entry) → is_held t ≡ false → with_place t Waits ≡ t
at_own_place t waits = go t.place refl waits
  where
    go : (p : Place) → t.place ≡ p → is_held_at p ≡ false → with_place t Waits ≡ t
    go Waits e f = λ i. with_place t (sym e i)
    go Lost e f = absurd (true≢false f)
    go (In n) e f = absurd (true≢false f)

-- ---- where waiting units were added

module _ (k : HeldValue) (holds : HoldsAll k) where
  waits_above : (t : Entry) → IsIn t k.received.entries → is_below k.vector t.id ≡ false → is_held t ≡ false
  waits_above t i above = false_from_ne_true (is_held t) (λ held.
      let there = chosen_id is_held k.received holds.in_order t t.id i held (covers_first k.received.runs t (is_taken k.received holds.in_order t i)) in
      true≢false (sym (less_below k.vector t.id (((holds_holding k holds).tells t.id).0 there)) ∙ above))

  undone_same : map (undone k.vector) k.received.entries ≡ k.received.entries
  undone_same = map-same (undone k.vector) k.received.entries (in_each (λ t. undone k.vector t ≡ t) k.received.entries (λ t i. elim (cases_Bool (is_below k.vector t.id)) [
    | inl e ↦ rw e refl
    | inr e ↦ rw e (at_own_place t (waits_above t i e))
  ]))

  module _ (mid : ReceivedValue) (grow : GrowBy k.received.runs mid.runs) (adds : OnlyAdds (length k.received.runs) k.received.entries mid.entries)
      (new : HeldValue) (only : OnlyHolds (with_received k mid) new) where
    abbrev first : Entry → Bool
    first = is_of_first (length k.received.runs)

    received_back : put_back (length k.received.runs) k.vector new.received ≡ k.received
    received_back = λ i. record { runs = runs i; entries = entries i }
      where
        runs : take (length k.received.runs) new.received.runs ≡ k.received.runs
        runs = ap (take (length k.received.runs)) only.runs_are ∙ front_back k.received.runs mid.runs grow

        entries : map (undone k.vector) (filter first new.received.entries) ≡ k.received.entries
        entries = sym (filter-undone k.vector (length k.received.runs) new.received.entries) ∙ ap (filter first) only.undone_is
            ∙ filter-undone k.vector (length k.received.runs) mid.entries
            ∙ ap (map (undone k.vector)) (adds.first (length k.received.runs) (omega arith)
            ∙ filter-all (length k.received.runs) k.received.entries (of_first k.received.runs k.received.entries holds.in_order.each))
            ∙ undone_same

    -- what was held is put back
    pub added_back : (before : Before) → IsOf k before → back_to before new ≡ k
    added_back before of = λ i. record { received = received i; vector = of.vector_is i; names = names i; lacks = of.lacks_are i }
      where
        received : received_before before.kept before.runs before.vector new.received ≡ k.received
        received = ap (λ kept. received_before kept before.runs before.vector new.received) of.kept_are ∙ ap (λ n. put_back n before.vector new.received) of.runs_are
            ∙ ap (λ v. put_back (length k.received.runs) v new.received) of.vector_is ∙ received_back

        names : names_before before.kept new.names ≡ k.names
        names = ap (λ kept. names_before kept new.names) of.kept_are ∙ front_back k.names new.names only.grows

  -- so it is where nothing changed
  pub none_back : (before : Before) → IsOf k before → (r : ReceivedValue) → r ≡ k.received → back_to before (with_received k r) ≡ k
  none_back before of r same = ap (λ q. back_to before (with_received k q)) same
      ∙ added_back k.received (grow_none k.received.runs) (nothing_adds k.received k.received refl) k (only_none k) before of
