-- What is noted of units that wait: it stays right when a client is found to have none, when a lack is noted, and when units are held.
use Rattle.std.proofs.Common.{◌≡◌, ℕ, ◌+◌, ◌≤◌, Bool, true, false, cond, not, nat_eq, List, [], ◌∷◌, ◌++◌, inl, inr, Option, Some, None, map, filter, refl, sym, ap, ◌∙◌, subst, arith, tests, true≢false}
use Rattle.std.proofs.lemmas.Bool.{cases_Bool}
use Rattle.yd_words.proofs.MemberLemmas.{in_left_part, in_right_part}
use Rattle.yd_words.specs.Each.{Each}
use Rattle.yd_words.proofs.FilterLemmas.{one_kept}
use Rattle.yd_words.proofs.TestLemmas.{split, hold_both, same_or_other}
use Rattle.yd_ids.specs.declared.id.Client.{Client}
use Rattle.yd_ids.specs.declared.id.Id.{Id}
use Rattle.yd_ids.specs.Vector.{clock_of}
use Rattle.yd_ids.proofs.IdLemmas.{same_numbers}
use Rattle.yd_ops.specs.declared.runs.Run.{Run}
use Rattle.yd_entries.specs.declared.entry.Entry.{Entry}
use Rattle.yd_entries.specs.Entries.{covers, carried_of, is_held, IsTakenOf, AreInOrder}
use Rattle.yd_entries.proofs.EntriesLemmas.{one_entry}
use Rattle.yd_words.specs.Member.{IsIn}
use Rattle.yd_words.proofs.MemberLemmas.{each_in, in_each}
use Rattle.yd_meaning.specs.Held.{item_carried}
use Rattle.yd_held.specs.declared.noting.Lack.{Lack}
use Rattle.yd_received.specs.Received.{is_below, with_place}
use Rattle.yd_held.specs.Readiness.{IsOriginOf, is_none_or_below, missing_of, first_of, lack_of, is_ready}
use Rattle.yd_held.specs.Noted.{AreSorted, with_lack, Wakes, IsNoted, IsNotedOrTried, AreNoted, AreMissing}
use Rattle.yd_held.specs.Holding.{HoldsEntry}
use Rattle.yd_held.specs.Trying.{IsNext}
use Rattle.yd_entries.proofs.EntryLemmas.{covers_in}
use Rattle.yd_held.proofs.HeldUnitLemmas.{covers_first}
use Rattle.yd_held.proofs.HoldingLemmas.{above_not}
use Rattle.yd_entries.proofs.ChangeLemmas.{set_is}
use Rattle.yd_held.proofs.LackLemmas.{sorted_kept, with_has, with_stays, with_sorted, each_with}

-- ---- standing in a list

in_map : {X Y : Type 0} (f : X → Y) (x : X) (xs : List X) → IsIn x xs → IsIn (f x) (map f xs)
in_map f x [] i = absurd i
in_map f x (z ∷ zs) (inl e) = inl (ap f e)
in_map f x (z ∷ zs) (inr i) = inr (in_map f x zs i)

pub one_client : (a b : Client) → a.0 ≡ b.0 → a ≡ b
one_client a b e = λ i. record { 0 = e i }

-- ---- what units lack

pub not_below : (vector : List (Client × ℕ)) (x : Id) → is_below vector x ≡ false → clock_of vector x.client.0 ≤ x.clock
not_below vector x e = grind (arith, tests)

missing_is : (vector : List (Client × ℕ)) (z : Option Id) (x : Id) → missing_of vector z ≡ Some x → (z ≡ Some x) × (is_below vector x ≡ false)
missing_is vector None x e = absurd cc
missing_is vector (Some y) x e = go (is_below vector y) refl e
  where
    go : (b : Bool) → is_below vector y ≡ b → cond b None (Some y) ≡ Some x → (Some y ≡ Some x) × (is_below vector x ≡ false)
    go true f g = absurd cc
    go false f g = let same : y ≡ x = cc in (g, subst (λ w. is_below vector w ≡ false) same f)

none_missing : (vector : List (Client × ℕ)) (z : Option Id) → missing_of vector z ≡ None → is_none_or_below vector z ≡ true
none_missing vector None e = refl
none_missing vector (Some y) e = go (is_below vector y) e
  where
    go : (b : Bool) → ◌≡◌ {A = Option Id} (cond b None (Some y)) None → b ≡ true
    go true f = refl
    go false f = absurd cc

module _ (vector : List (Client × ℕ)) (runs : List Run) (t : Entry) where
  abbrev lefts : Option Id
  lefts = missing_of vector t.left

  abbrev rights : Option Id
  rights = missing_of vector t.right

  abbrev items : Option Id
  items = missing_of vector (item_carried (carried_of runs t))

  -- what they lack they need, and it is not held
  pub lack_is : (x : Id) → lack_of vector runs t ≡ Some x → IsOriginOf x t.left t.right (carried_of runs t) × (is_below vector x ≡ false)
  lack_is x e = go lefts rights items refl refl refl e
    where
      go : (l r i : Option Id) → lefts ≡ l → rights ≡ r → items ≡ i → first_of l (first_of r i) ≡ Some x →
          IsOriginOf x t.left t.right (carried_of runs t) × (is_below vector x ≡ false)
      go (Some y) r i f g h e = let (is, low) = missing_is vector t.left x (f ∙ e) in (inl is, low)
      go None (Some y) i f g h e = let (is, low) = missing_is vector t.right x (g ∙ e) in (inr (inl is), low)
      go None None i f g h e = let (is, low) = missing_is vector (item_carried (carried_of runs t)) x (h ∙ e) in (inr (inr is), low)

  -- what lacks nothing, waits and stands at its client's clock is ready
  pub lacks_nothing : lack_of vector runs t ≡ None → is_held t ≡ false → t.id.clock ≡ clock_of vector t.id.client.0 → is_ready vector runs t ≡ true
  lacks_nothing e waits at_clock = go lefts rights items refl refl refl e
    where
      same : (m n : ℕ) → m ≡ n → nat_eq m n ≡ true
      same m n e = grind (arith, tests)

      go : (l r i : Option Id) → lefts ≡ l → rights ≡ r → items ≡ i → first_of l (first_of r i) ≡ None → is_ready vector runs t ≡ true
      go (Some y) r i f g h e = absurd cc
      go None (Some y) i f g h e = absurd cc
      go None None (Some y) f g h e = absurd cc
      go None None None f g h e = hold_both _ _ (ap not waits) (hold_both _ _ (same t.id.clock (clock_of vector t.id.client.0) at_clock)
          (hold_both _ _ (none_missing vector t.left f) (hold_both _ _ (none_missing vector t.right g) (none_missing vector (item_carried (carried_of runs t)) h))))

-- what is noted of them is missing
pub missing_with : (vector : List (Client × ℕ)) (runs : List Run) (t : Entry) (x : Id) (client : Client) (lacks : List Lack) → lack_of vector runs t ≡ Some x →
    AreMissing vector lacks → AreMissing vector (with_lack (record { id = x; client = client }) lacks)
missing_with vector runs t x client lacks lacked missing =
    each_with (record { id = x; client = client }) (λ (l : Lack). is_below vector l.id ≡ false) lacks missing (lack_is vector runs t x lacked).1

-- ---- the clients that are to be tried

-- only which clients are to be tried counts
pub noted_among : (vector : List (Client × ℕ)) (runs : List Run) (lacks : List Lack) (tries more : List Client) (ts : List Entry) →
    ((client : Client) → IsIn client tries → IsIn client more) → AreNoted vector runs lacks tries ts → AreNoted vector runs lacks more ts
noted_among vector runs lacks tries more ts stay noted = record {
  sorted = noted.sorted;
  each = in_each (IsNotedOrTried vector runs lacks more) ts (λ t i at_clock. elim (each_in (IsNotedOrTried vector runs lacks tries) ts noted.each t i at_clock) [
    | inl tried ↦ inl (stay t.id.client tried)
    | inr there ↦ inr there
  ]);
}

-- a client without next units need not be tried
pub noted_without : (vector : List (Client × ℕ)) (runs : List Run) (lacks : List Lack) (client : Client) (tries : List Client) (ts : List Entry) →
    Each (λ t. IsNext vector client t → ⊥) ts → AreNoted vector runs lacks (client ∷ tries) ts → AreNoted vector runs lacks tries ts
noted_without vector runs lacks client tries ts none noted = record {
  sorted = noted.sorted;
  each = in_each (IsNotedOrTried vector runs lacks tries) ts (λ t i at_clock. elim (each_in (IsNotedOrTried vector runs lacks (client ∷ tries)) ts noted.each t i at_clock) [
    | inl (inl same) ↦ absurd (each_in (λ t. IsNext vector client t → ⊥) ts none t i (record { of_client = same; at_clock = at_clock ∙ ap (λ (c : Client). clock_of vector c.0) same }))
    | inl (inr tried) ↦ inl tried
    | inr there ↦ inr there
  ]);
}

-- nor one whose next units lack something, once that is noted
pub noted_more : (vector : List (Client × ℕ)) (runs : List Run) (lacks : List Lack) (client : Client) (tries : List Client) (ts : List Entry) →
    Each (IsTakenOf runs) ts → AreInOrder ts → (t : Entry) → IsIn t ts → IsNext vector client t → (x : Id) → lack_of vector runs t ≡ Some x →
    AreNoted vector runs lacks (client ∷ tries) ts → AreNoted vector runs (with_lack (record { id = x; client = client }) lacks) tries ts
noted_more vector runs lacks client tries ts each order t here next x lacked noted = record {
  sorted = with_sorted lack lacks noted.sorted;
  each = in_each (IsNotedOrTried vector runs (with_lack lack lacks) tries) ts (λ s i at_clock. elim (each_in (IsNotedOrTried vector runs lacks (client ∷ tries)) ts noted.each s i at_clock) [
    | inl (inl same) ↦ inr (subst (IsNoted vector runs (with_lack lack lacks)) (sym (one s i (same_numbers s.id t.id (ap (λ (c : Client). c.0) (same ∙ sym next.of_client))
        (at_clock ∙ ap (λ (c : Client). clock_of vector c.0) same ∙ sym next.at_clock)))) this)
    | inl (inr tried) ↦ inl tried
    | inr there ↦ inr (record { id = there.id; needed = there.needed; missing = there.missing; there = with_stays lack lacks (record { id = there.id; client = s.id.client }) there.there })
  ]);
}
  where
    lack : Lack
    lack = record { id = x; client = client }

    one : (s : Entry) → IsIn s ts → s.id ≡ t.id → s ≡ t
    one s i same = one_entry ts order s t t.id i here (subst (λ y. covers s y ≡ true) same (covers_first runs s (each_in (IsTakenOf runs) ts each s i)))
        (covers_first runs t (each_in (IsTakenOf runs) ts each t here))

    this : IsNoted vector runs (with_lack lack lacks) t
    this = let (needed, missing) = lack_is vector runs t x lacked in record {
      id = x;
      needed = needed;
      missing = missing;
      there = subst (λ (c : Client). IsIn (record { id = x; client = c }) (with_lack lack lacks)) (sym next.of_client) (with_has lack lacks);
    }

-- ---- units are held

module _ (vector : List (Client × ℕ)) (runs : List Run) (lacks left : List Lack) (tries more : List Client) (at : ℕ) (ts new : List Entry)
    (raised : List (Client × ℕ)) (h : HoldsEntry at ts new vector raised) (wakes : Wakes h.entry lacks left tries more) (begins : h.entry.id.clock ≡ clock_of vector h.entry.id.client.0) where
  this_tried : IsIn h.entry.id.client more
  this_tried = subst (IsIn h.entry.id.client) (sym wakes.tried)
      (in_right_part h.entry.id.client (tries ++ map (λ (l : Lack). l.client) (filter (λ (l : Lack). covers h.entry l.id) lacks)) (h.entry.id.client ∷ []) (inl refl))

  tried_stays : (client : Client) → IsIn client tries → IsIn client more
  tried_stays client i = subst (IsIn client) (sym wakes.tried)
      (in_left_part client (tries ++ map (λ (l : Lack). l.client) (filter (λ (l : Lack). covers h.entry l.id) lacks)) (h.entry.id.client ∷ [])
      (in_left_part client tries (map (λ (l : Lack). l.client) (filter (λ (l : Lack). covers h.entry l.id) lacks)) i))

  woken : (l : Lack) → IsIn l lacks → covers h.entry l.id ≡ true → IsIn l.client more
  woken l i e = subst (IsIn l.client) (sym wakes.tried)
      (in_left_part l.client (tries ++ map (λ (l : Lack). l.client) (filter (λ (l : Lack). covers h.entry l.id) lacks)) (h.entry.id.client ∷ [])
      (in_right_part l.client tries (map (λ (l : Lack). l.client) (filter (λ (l : Lack). covers h.entry l.id) lacks))
      (in_map (λ (l : Lack). l.client) l (filter (λ (l : Lack). covers h.entry l.id) lacks) (one_kept (λ (l : Lack). covers h.entry l.id) lacks l e i))))

  stays : (l : Lack) → IsIn l lacks → covers h.entry l.id ≡ false → IsIn l left
  stays l i e = subst (IsIn l) (sym wakes.stays) (one_kept (λ (l : Lack). not (covers h.entry l.id)) lacks l (ap not e) i)

  -- an id that is missing and not of the units is missing then
  still_missing : (x : Id) → is_below vector x ≡ false → covers h.entry x ≡ false → is_below raised x ≡ false
  still_missing x e other = above_not raised x (elim (same_or_other x.client.0 h.entry.id.client.0) [
    | inl same ↦ elim (split (h.entry.id.clock + h.entry.len) x.clock) [
      | inl le ↦ omega (arith, le, not_below vector x e, h.raises.this_client, begins, ap (λ c. clock_of raised c) same, ap (λ c. clock_of vector c) same)
      | inr lt ↦ absurd (true≢false (sym (covers_in h.entry x (sym same) (omega (arith, not_below vector x e, begins, ap (λ c. clock_of vector c) same)) lt) ∙ other))
    ]
    | inr differs ↦ omega (arith, not_below vector x e, h.raises.other_clients x.client.0 differs)
  ])

  -- what is noted then is still missing
  pub missing_after : AreMissing vector lacks → AreMissing raised left
  missing_after missing = subst (AreMissing raised) (sym wakes.stays) (go lacks missing)
    where
      go : (ls : List Lack) → AreMissing vector ls → AreMissing raised (filter (λ (l : Lack). not (covers h.entry l.id)) ls)
      go [] each = tt
      go (l ∷ ls) each = step (covers h.entry l.id) refl (go ls each.1)
        where
          others : List Lack
          others = filter (λ (m : Lack). not (covers h.entry m.id)) ls

          step : (b : Bool) → covers h.entry l.id ≡ b → AreMissing raised others → AreMissing raised (cond (not b) (l ∷ others) others)
          step true e rest = rest
          step false e rest = (still_missing l.id each.0 e, rest)

  -- where the units are held and what lacked them is to be tried, all is noted as before
  pub noted_after : AreNoted vector runs lacks (h.entry.id.client ∷ tries) ts → AreNoted raised runs left more new
  noted_after noted = record {
    sorted = subst AreSorted (sym wakes.stays) (sorted_kept (λ (l : Lack). not (covers h.entry l.id)) lacks noted.sorted);
    each = in_each (IsNotedOrTried raised runs left more) new (λ t i at_clock. elim (same_or_other t.id.client.0 h.entry.id.client.0) [
      | inl same ↦ inl (subst (λ c. IsIn c more) (sym (one_client t.id.client h.entry.id.client same)) this_tried)
      | inr other ↦ elim (set_is h.entry (with_place h.entry h.place) ts at t (subst (IsIn t) h.placed i)) [
        | inl e ↦ absurd (other (ap (λ (u : Entry). u.id.client.0) e))
        | inr j ↦ elim (each_in (IsNotedOrTried vector runs lacks (h.entry.id.client ∷ tries)) ts noted.each t j (at_clock ∙ h.raises.other_clients t.id.client.0 other)) [
          | inl (inl same) ↦ absurd (other (ap (λ (c : Client). c.0) same))
          | inl (inr tried) ↦ inl (tried_stays t.id.client tried)
          | inr there ↦ elim (cases_Bool (covers h.entry there.id)) [
            | inl met ↦ inl (woken (record { id = there.id; client = t.id.client }) there.there met)
            | inr unmet ↦ inr (record {
              id = there.id;
              needed = there.needed;
              missing = still_missing there.id there.missing unmet;
              there = stays (record { id = there.id; client = t.id.client }) there.there unmet;
            })
          ]
        ]
      ]
    ]);
  }
