-- All is still held that can be, where an entry was joined to the one before it.
use Rattle.std.proofs.Common.{◌≡◌, ℕ, ◌+◌, Bool, true, false, ◌||◌, cond, List, [], ◌∷◌, ◌++◌, Some, inl, inr, refl, sym, ap, ◌∙◌, subst, arith, tests}
use Rattle.std.specs.Bool.{OnTrue, OnFalse}
use Rattle.std.specs.Prelude.{slice_get, IfSome}
use Rattle.yd_words.specs.Each.{Each}
use Rattle.yd_words.proofs.EachLemmas.{each_both}
use Rattle.yd_ids.specs.declared.id.Client.{Client}
use Rattle.yd_ids.specs.declared.id.Id.{Id}
use Rattle.yd_meaning.specs.Held.{held_set, held_clock, standing}
use Rattle.yd_meaning.specs.Order.{list_of}
use Rattle.yd_entries.specs.declared.entry.Entry.{Entry}
use Rattle.yd_entries.specs.Entries.{carried_of, covers}
use Rattle.yd_entries.specs.Joining.{GoesOn, joined_entry}
use Rattle.yd_received.specs.Received.{ReceivedValue, KeepsTold, JoinsAt, listed_of}
use Rattle.yd_held.specs.Held.{HeldValue, HoldsAll}
use Rattle.yd_held.specs.Joining.{StaysSame}
use Rattle.yd_held.specs.Noted.{IsNotedOrTried}
use Rattle.yd_held.specs.Numbered.{list_at_place, number_of}
use Rattle.yd_held.specs.Placed.{IsPlaced}
use Rattle.yd_held.specs.Readiness.{IsOriginOf}
use Rattle.yd_held.proofs.KeptLemmas.{with_received}
use Rattle.yd_held.proofs.PlacedLemmas.{placed_alike}

-- ---- what is asked of each entry

without_next : (P : Entry → Type 0) (before behind : List Entry) (s t : Entry) → Each P (before ++ s ∷ t ∷ behind) → Each P (before ++ s ∷ behind)
without_next P [] behind s t each = (each.0, each.1.1)
without_next P (u ∷ us) behind s t each = (each.0, without_next P us behind s t each.1)

with_other : (P : Entry → Type 0) (before behind : List Entry) (s t : Entry) → (P s → P t) → Each P (before ++ s ∷ behind) → Each P (before ++ t ∷ behind)
with_other P [] behind s t to each = (to each.0, each.1)
with_other P (u ∷ us) behind s t to each = (each.0, with_other P us behind s t to each.1)

-- ---- the lists of ids

covers_both : (front back : Entry) (x : Id) → GoesOn front back → covers (joined_entry front back) x ≡ (covers front x || covers back x)
covers_both front back x goes = both (ap (λ (c : Client). c.0) goes.client) goes.clock
  where
    both : back.id.client.0 ≡ front.id.client.0 → back.id.clock ≡ front.id.clock + front.len → covers (joined_entry front back) x ≡ (covers front x || covers back x)
    both e f = grind (arith, tests)

number_joined : (before behind : List Entry) (front back : Entry) (x : Id) → GoesOn front back →
    number_of (before ++ joined_entry front back ∷ behind) x ≡ number_of (before ++ front ∷ back ∷ behind) x
number_joined [] behind front back x goes =
    ap (λ b. cond b (list_at_place front.place) (number_of behind x)) (covers_both front back x goes) ∙ go (covers front x) (covers back x)
  where
    go : (a b : Bool) → cond (a || b) (list_at_place front.place) (number_of behind x)
        ≡ cond a (list_at_place front.place) (cond b (list_at_place back.place) (number_of behind x))
    go true b = refl
    go false true = ap list_at_place (sym goes.place)
    go false false = refl
number_joined (t ∷ ts) behind front back x goes = ap (λ z. cond (covers t x) (list_at_place t.place) z) (number_joined ts behind front back x goes)

-- ---- where it joined

module _ (k : HeldValue) (new : ReceivedValue) (at : ℕ) (holds : HoldsAll k) (told : KeepsTold k.received new) (joins : JoinsAt at k.received new) where
  numbers : (x : Id) → number_of new.entries x ≡ number_of k.received.entries x
  numbers x = ap (λ ts. number_of ts x) joins.joined ∙ number_joined joins.before joins.behind joins.front joins.back x joins.goes_on ∙ sym (ap (λ ts. number_of ts x) joins.was)

  -- what holds of an entry, as long as it carries the same, holds of each, and of the joined one if of the first
  each_joined : (P Q : Entry → Type 0) → ((t : Entry) → carried_of new.runs t ≡ carried_of k.received.runs t → P t → Q t) → (Q joins.front → Q (joined_entry joins.front joins.back)) →
      Each P k.received.entries → Each Q new.entries
  each_joined P Q same to each = subst (Each Q) (sym joins.joined) (with_other Q joins.before joins.behind joins.front (joined_entry joins.front joins.back) to
      (each_both (λ t. carried_of new.runs t ≡ carried_of k.received.runs t) P Q same (joins.before ++ joins.front ∷ joins.behind) joins.carried
      (without_next P joins.before joins.behind joins.front joins.back (subst (Each P) joins.was each))))

  joins_hold : HoldsAll (with_received k new)
  joins_hold = record {
    in_order = told.kept;
    held = told.held ∙ holds.held ∙ ap held_set (sym told.operations);
    stands = told.standing ∙ holds.stands ∙ ap standing (sym told.held);
    counted = λ client. holds.counted client ∙ ap (λ os. held_clock os client) (sym told.held);
    placed = each_joined (λ t. IsPlaced k.received k.names t t.place) (λ t. IsPlaced new k.names t t.place)
        (λ t carried is. placed_alike k.received new k.names k.names t carried (λ x origin. numbers x) (λ n name e. e) t.place is) (λ is. is) holds.placed;
    numbered = record {
      named = each_joined (λ (t : Entry). IfSome (list_at_place t.place) (λ n. slice_get k.names n ≡ Some (list_of (listed_of k.received) t.id)))
          (λ (t : Entry). IfSome (list_at_place t.place) (λ n. slice_get k.names n ≡ Some (list_of (listed_of new) t.id)))
          (λ t carried is. subst (λ os. IfSome (list_at_place t.place) (λ n. slice_get k.names n ≡ Some (list_of os t.id))) (sym told.standing) is) (λ is. is) holds.numbered.named;
      distinct = holds.numbered.distinct;
      parents = λ n name y e item. let (m, less, number) = holds.numbered.parents n name y e item in (m, less, numbers y ∙ number);
    };
    noted = record {
      sorted = holds.noted.sorted;
      each = each_joined (IsNotedOrTried k.vector k.received.runs k.lacks []) (IsNotedOrTried k.vector new.runs k.lacks []) one first holds.noted.each;
    };
    missing = holds.missing;
  }
    where
      one : (t : Entry) → carried_of new.runs t ≡ carried_of k.received.runs t → IsNotedOrTried k.vector k.received.runs k.lacks [] t → IsNotedOrTried k.vector new.runs k.lacks [] t
      one t carried noted at_clock = elim (noted at_clock) [
        | inl none ↦ inl none
        | inr there ↦ inr (record {
          id = there.id;
          needed = subst (IsOriginOf there.id t.left t.right) (sym carried) there.needed;
          missing = there.missing;
          there = there.there;
        })
      ]

      first : IsNotedOrTried k.vector new.runs k.lacks [] joins.front → IsNotedOrTried k.vector new.runs k.lacks [] (joined_entry joins.front joins.back)
      first noted at_clock = elim (noted at_clock) [
        | inl none ↦ inl none
        | inr there ↦ inr (record { id = there.id; needed = there.needed; missing = there.missing; there = there.there })
      ]

-- ---- lemmas for callers: whether it joined or not

module _ (k : HeldValue) (new : ReceivedValue) (at : ℕ) (holds : HoldsAll k) (result : Bool) (told : KeepsTold k.received new) (joined : OnTrue result (JoinsAt at k.received new))
    (unchanged : OnFalse result (new ≡ k.received)) where
  pub holds_joined : HoldsAll (with_received k new)
  holds_joined = go result joined unchanged
    where
      go : (b : Bool) → OnTrue b (JoinsAt at k.received new) → OnFalse b (new ≡ k.received) → HoldsAll (with_received k new)
      go true joins e = joins_hold k new at holds told joins
      go false joins e = subst (λ r. HoldsAll (with_received k r)) (sym e) holds

  pub same_joined : StaysSame k (with_received k new)
  same_joined = record {
    taken = told.operations;
    held = told.held;
    listed = told.standing;
    covered = told.covered;
    numbers = go result joined unchanged;
    vector = refl;
    names = refl;
    lacks = refl;
  }
    where
      go : (b : Bool) → OnTrue b (JoinsAt at k.received new) → OnFalse b (new ≡ k.received) → (x : Id) → number_of new.entries x ≡ number_of k.received.entries x
      go true joins e x = numbers k new at holds told joins x
      go false joins e x = ap (λ (r : ReceivedValue). number_of r.entries x) e
