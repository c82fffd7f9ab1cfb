-- Where all that waits is noted, nothing is ready; and all is noted or to be tried, where it was for the older runs and the clients of the new ones are to be tried.
use Rattle.std.proofs.Common.{◌≡◌, ℕ, zero, suc, ◌<◌, ◌≤◌, true, false, List, [], ◌∷◌, inl, inr, Option, Some, None, length, drop, filter, refl, subst, arith, tests}
use Rattle.std.specs.Prelude.{slice_get, IfSome}
use Rattle.std.proofs.lemmas.Bool.{cases_Bool, false_from_ne_true}
use Rattle.yd_words.specs.Each.{Each}
use Rattle.yd_words.proofs.EachLemmas.{each_weaker}
use Rattle.yd_words.proofs.OptionLemmas.{some_is}
use Rattle.yd_ids.specs.declared.id.Client.{Client}
use Rattle.yd_ids.specs.Vector.{clock_of}
use Rattle.yd_ops.specs.declared.runs.Run.{Run}
use Rattle.yd_entries.specs.declared.entry.Entry.{Entry}
use Rattle.yd_entries.specs.Entries.{is_held, is_of_first, IsTakenOf}
use Rattle.yd_words.specs.Member.{IsIn}
use Rattle.yd_words.proofs.MemberLemmas.{each_in, in_each}
use Rattle.yd_words.proofs.FilterLemmas.{one_kept}
use Rattle.yd_held.specs.declared.noting.Lack.{Lack}
use Rattle.yd_held.specs.Held.{HeldValue}
use Rattle.yd_held.specs.Holding.{IsHolding, AreUnready}
use Rattle.yd_held.specs.Noted.{AreSorted, IsNoted, IsNotedOrTried, AreNoted}
use Rattle.yd_held.specs.Readiness.{is_ready}
use Rattle.yd_held.specs.Trying.{AreWaiting}
use Rattle.yd_held.proofs.HeldUnitLemmas.{covers_first, none_there}
use Rattle.yd_held.proofs.HeldEntryLemmas.{is_taken, chosen_id}
use Rattle.yd_held.proofs.HoldingLemmas.{ready_is}
use Rattle.yd_held.proofs.NotedLemmas.{not_below}

module _ (k : HeldValue) (h : IsHolding k) where
  waits : (t : Entry) → IsIn t k.received.entries → t.id.clock ≡ clock_of k.vector t.id.client.0 → is_held t ≡ false
  waits t i at_clock = false_from_ne_true (is_held t) (λ held.
      omega (arith, (h.tells t.id).0 (chosen_id is_held k.received h.in_order t t.id i held (covers_first k.received.runs t (is_taken k.received h.in_order t i))), at_clock))

  -- units at their client's clock wait
  pub are_waiting : AreWaiting k.vector k.received.entries
  are_waiting = in_each (λ t. t.id.clock ≡ clock_of k.vector t.id.client.0 → is_held t ≡ false) k.received.entries waits

-- ready units lack nothing, so nothing is noted of them
pub ready_lacks_nothing : (runs : List Run) (vector : List (Client × ℕ)) (lacks : List Lack) (t : Entry) → IsNoted vector runs lacks t → is_ready vector runs t ≡ true → ⊥
ready_lacks_nothing runs vector lacks t noted e =
    omega (arith, (ready_is vector runs t e).origins noted.id noted.needed, not_below vector noted.id noted.missing)

pub none_ready : (runs : List Run) (ts : List Entry) (vector : List (Client × ℕ)) (lacks : List Lack) → AreNoted vector runs lacks [] ts → AreUnready vector runs ts
none_ready runs ts vector lacks noted = in_each (λ t. is_ready vector runs t ≡ false) ts (λ t i. false_from_ne_true (is_ready vector runs t) (λ e.
    elim (each_in (IsNotedOrTried vector runs lacks []) ts noted.each t i (ready_is vector runs t e).begins) [
      | inl none ↦ none
      | inr there ↦ ready_lacks_nothing runs vector lacks t there e
    ]))

-- ---- at the beginning

-- what is true of each behind the first ones is true of one that is got there
each_behind : {X : Type 0} (P : X → Type 0) (xs : List X) (from at : ℕ) (x : X) → Each P (drop from xs) → from ≤ at → slice_get xs at ≡ Some x → P x
each_behind P [] from at x each le e = absurd cc
each_behind P (y ∷ ys) zero zero x each le e = subst P (some_is y x e) each.0
each_behind P (y ∷ ys) zero (suc at) x each le e = each_behind P ys zero at x each.1 (omega arith) e
each_behind P (y ∷ ys) (suc from) zero x each le e = absurd (omega arith)
each_behind P (y ∷ ys) (suc from) (suc at) x each le e = each_behind P ys from at x each (omega arith) e

module _ (runs : List Run) (from : ℕ) (ts : List Entry) (each : Each (IsTakenOf runs) ts) (clients : List Client)
    (all : Each (λ (run : Run). IsIn run.id.client clients) (drop from runs)) where
  -- the client of units of a new run is to be tried
  new_tried : (t : Entry) → IsIn t ts → from ≤ t.run → IsIn t.id.client clients
  new_tried t i le = go (slice_get runs t.run) refl (each_in (IsTakenOf runs) ts each t i).client (each_in (IsTakenOf runs) ts each t i).run_there
    where
      go : (z : Option Run) → slice_get runs t.run ≡ z → IfSome z (λ (run : Run). run.id.client ≡ t.id.client) → t.run < length runs → IsIn t.id.client clients
      go None e same lt = absurd (none_there runs t.run lt e)
      go (Some run) e same lt = subst (λ c. IsIn c clients) same (each_behind (λ (r : Run). IsIn r.id.client clients) runs from t.run run all le e)

  pub noted_first : (vector : List (Client × ℕ)) (lacks : List Lack) → AreNoted vector runs lacks [] (filter (is_of_first from) ts) → AreNoted vector runs lacks clients ts
  noted_first vector lacks noted = record {
    sorted = noted.sorted;
    each = in_each (IsNotedOrTried vector runs lacks clients) ts (λ t i at_clock. elim (cases_Bool (is_of_first from t)) [
      | inl old ↦ elim (each_in (IsNotedOrTried vector runs lacks []) (filter (is_of_first from) ts) noted.each t (one_kept (is_of_first from) ts t old i) at_clock) [
        | inl none ↦ absurd none
        | inr there ↦ inr there
      ]
      | inr new ↦ inl (new_tried t i (grind (arith, tests)))
    ]);
  }

-- the clients of all entries are to be tried, whatever is noted
pub noted_all : (vector : List (Client × ℕ)) (runs : List Run) (lacks : List Lack) (ts : List Entry) (clients : List Client) → AreSorted lacks →
    Each (λ (t : Entry). IsIn t.id.client clients) ts → AreNoted vector runs lacks clients ts
noted_all vector runs lacks ts clients sorted all = record {
  sorted = sorted;
  each = each_weaker (λ (t : Entry). IsIn t.id.client clients) (IsNotedOrTried vector runs lacks clients) (λ t i at_clock. inl i) ts all;
}
