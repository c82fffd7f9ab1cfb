-- Where an id stands among what was taken: only the last entry that begins at the id or before it can have it.
use Rattle.std.proofs.Common.{◌≡◌, ◌≢◌, ℕ, zero, suc, ◌+◌, ◌<◌, ◌≤◌, Bool, true, false, not, ◌||◌, ◌&&◌, nat_eq, List, [], ◌∷◌, inl, inr, length, get_or, take, drop, refl, sym, ap, ◌∙◌, subst, arith, tests, true≢false}
use Rattle.std.specs.List.Sorted.{IsPartitionedBy}
use Rattle.std.proofs.lemmas.List.{get_or_default}
use Rattle.yd_words.specs.Each.{Each}
use Rattle.yd_words.proofs.EachLemmas.{each_weaker}
use Rattle.yd_ids.specs.declared.id.Id.{Id}
use Rattle.yd_entries.specs.declared.entry.Entry.{Entry}
use Rattle.yd_entries.specs.Entries.{covers, StandsBefore, AreInOrder}
use Rattle.yd_entries.specs.Lookup.{PartsAt, begins_by}
use Rattle.yd_entries.specs.declared.lookup.Bounds.{Bounds}
use Rattle.yd_entries.specs.Taking.{is_covered, HasUnits}

-- what stands before something that begins by the id begins by it too
begins_through : (s t : Entry) (x : Id) → StandsBefore s t → begins_by t x ≡ true → begins_by s x ≡ true
begins_through s t x (inl lt) e = grind (arith, tests)
begins_through s t x (inr same) e = let client = ap (λ c. c.0) same.0 in grind (arith, tests)

parted_from : (s : Entry) (ts : List Entry) (x : Id) → Each (StandsBefore s) ts → (j : ℕ) (d : Entry) → j < length ts → begins_by (get_or ts j d) x ≡ true → begins_by s x ≡ true
parted_from s [] x each j d lt e = absurd (omega arith)
parted_from s (t ∷ ts) x each zero d lt e = begins_through s t x each.0 e
parted_from s (t ∷ ts) x each (suc j) d lt e = parted_from s ts x each.1 j d (omega arith) e

-- those that begin by the id come first
pub taken_parted : (ts : List Entry) (x : Id) → AreInOrder ts → IsPartitionedBy (λ (t : Entry). begins_by t x) ts
taken_parted [] x order i j d le lt e = absurd (omega arith)
taken_parted (t ∷ ts) x order zero zero d le lt e = e
taken_parted (t ∷ ts) x order zero (suc j) d le lt e = parted_from t ts x order.0 j d (omega arith) e
taken_parted (t ∷ ts) x order (suc i) zero d le lt e = absurd (omega arith)
taken_parted (t ∷ ts) x order (suc i) (suc j) d le lt e = taken_parted ts x order.1 i j d (omega arith) (omega arith) e

-- ---- bounds

not_begun : (ts : List Entry) (x : Id) (at k : ℕ) (d : Entry) → AreInOrder ts → at ≤ k → k < length ts → begins_by (get_or ts at d) x ≡ false → begins_by (get_or ts k d) x ≡ false
not_begun ts x at k d order le lt none = go (begins_by (get_or ts k d) x) refl
  where
    go : (b : Bool) → begins_by (get_or ts k d) x ≡ b → b ≡ false
    go false e = refl
    go true e = absurd (true≢false (sym (taken_parted ts x order at k d le lt e) ∙ none))

-- an entry between them begins by the id, and so do all before it
pub parts_low : (ts : List Entry) (x : Id) (bounds : Bounds) (at : ℕ) (d : Entry) → AreInOrder ts → at < length ts → begins_by (get_or ts at d) x ≡ true → PartsAt ts x bounds →
    PartsAt ts x (record { low = at + 1; high = bounds.high })
parts_low ts x bounds at d order lt begun parts = record { before = before; behind = parts.behind }
  where
    before : (k : ℕ) (e : Entry) → k < at + 1 → begins_by (get_or ts k e) x ≡ true
    before k e less = taken_parted ts x order k at e (omega (arith, less)) lt (subst (λ t. begins_by t x ≡ true) (get_or_default ts at d e lt) begun)

-- or it does not, and no entry behind it does
pub parts_high : (ts : List Entry) (x : Id) (bounds : Bounds) (at : ℕ) (d : Entry) → AreInOrder ts → at < length ts → begins_by (get_or ts at d) x ≡ false → PartsAt ts x bounds →
    PartsAt ts x (record { low = bounds.low; high = at })
parts_high ts x bounds at d order lt none parts = record {
  before = parts.before;
  behind = λ k e le less. not_begun ts x at k e order le less (subst (λ t. begins_by t x ≡ false) (get_or_default ts at d e lt) none);
}

pub parts_none : (ts : List Entry) (x : Id) → PartsAt ts x (record { low = 0; high = length ts })
parts_none ts x = record { before = λ k d lt. absurd (omega (arith, lt)); behind = λ k d le lt. absurd (omega (arith, le, lt)) }

-- ---- the entry of an id

pub covered_begins : (t : Entry) (x : Id) → covers t x ≡ true → begins_by t x ≡ true
covered_begins t x e = grind (arith, tests)

-- what stands behind the entry of an id does not begin by it
pub behind_covered : (s t : Entry) (x : Id) → StandsBefore s t → covers s x ≡ true → begins_by t x ≡ true → ⊥
behind_covered s t x (inl lt) c e = absurd (grind (arith, tests))
behind_covered s t x (inr same) c e = let client = ap (λ c. c.0) same.0 in absurd (grind (arith, tests))

none_covered : (ts : List Entry) (x : Id) → Each (λ t. begins_by t x ≡ false) ts → is_covered ts x ≡ true → ⊥
none_covered [] x each e = true≢false (sym e)
none_covered (t ∷ ts) x each e = go (covers t x) refl e (none_covered ts x each.1)
  where
    go : (b : Bool) → covers t x ≡ b → (b || is_covered ts x) ≡ true → (is_covered ts x ≡ true → ⊥) → ⊥
    go true f g rest = true≢false (sym (covered_begins t x f) ∙ each.0)
    go false f g rest = rest g

-- ---- lemmas for callers

-- where so many entries begin by an id that is covered, the last of them has it
pub entry_before : (ts : List Entry) (x : Id) (p : ℕ) → AreInOrder ts → is_covered ts x ≡ true → p ≤ length ts →
    Each (λ t. begins_by t x ≡ true) (take p ts) → Each (λ t. begins_by t x ≡ false) (drop p ts) →
    (m : ℕ) × (p ≡ suc m) × ((d : Entry) → covers (get_or ts m d) x ≡ true)
entry_before [] x p order e le before behind = absurd (true≢false (sym e))
entry_before (t ∷ ts) x zero order e le before behind = absurd (none_covered (t ∷ ts) x behind e)
entry_before (t ∷ ts) x (suc n) order e le before behind = go (covers t x) refl e (λ g. entry_before ts x n order.1 g (omega arith) before.1 behind)
  where
    here : (n : ℕ) (ts : List Entry) → n ≤ length ts → Each (StandsBefore t) ts → Each (λ t. begins_by t x ≡ true) (take n ts) → covers t x ≡ true → n ≡ 0
    here zero ts le each before f = refl
    here (suc n) [] le each before f = absurd (omega arith)
    here (suc n) (s ∷ ss) le each before f = absurd (behind_covered t s x each.0 f before.0)

    go : (b : Bool) → covers t x ≡ b → (b || is_covered ts x) ≡ true →
        (is_covered ts x ≡ true → (m : ℕ) × (n ≡ suc m) × ((d : Entry) → covers (get_or ts m d) x ≡ true)) →
        (m : ℕ) × (suc n ≡ suc m) × ((d : Entry) → covers (get_or (t ∷ ts) m d) x ≡ true)
    go true f g rest = (0, ap suc (here n ts (omega arith) order.0 before.1 f), (λ d. f))
    go false f g rest = let (m, same, has) = rest g in (suc m, ap suc same, has)

-- ---- lemmas for callers: an id at which no entry begins

begins_at : (t : Entry) (x : Id) → t.id ≡ x → begins_by t x ≡ true
begins_at t x e = subst (λ y. begins_by t y ≡ true) e own
  where
    own : begins_by t t.id ≡ true
    own = grind (arith, tests)

covers_first : (t : Entry) (x : Id) → HasUnits t → t.id ≡ x → covers t x ≡ true
covers_first t x some e = subst (λ y. covers t y ≡ true) e own
  where
    own : covers t t.id ≡ true
    own = grind (arith, tests)

-- ids that the test tells apart
pub ids_apart : (a b : Id) → true ≡ not (nat_eq a.client.0 b.client.0 && nat_eq a.clock b.clock) → a ≢ b
ids_apart a b apart e = true≢false (subst (λ (x : Id). true ≡ not (nat_eq x.client.0 b.client.0 && nat_eq x.clock b.clock)) e apart ∙ own)
  where
    own : not (nat_eq b.client.0 b.client.0 && nat_eq b.clock b.clock) ≡ false
    own = grind (arith, tests)

-- where so many entries begin by an id, and the last of them does not begin at it, none does
pub none_at : (ts : List Entry) (x : Id) (p : ℕ) (d : Entry) → AreInOrder ts → Each HasUnits ts → p ≤ length ts →
    Each (λ t. begins_by t x ≡ true) (take p ts) → Each (λ t. begins_by t x ≡ false) (drop p ts) →
    ((m : ℕ) → p ≡ suc m → (get_or ts m d).id ≢ x) → Each (λ (t : Entry). t.id ≢ x) ts
none_at [] x p d order each le before behind last = tt
none_at (t ∷ ts) x zero d order each le before behind last =
    each_weaker (λ (s : Entry). begins_by s x ≡ false) (λ (s : Entry). s.id ≢ x) (λ s none e. true≢false (sym (begins_at s x e) ∙ none)) (t ∷ ts) behind
none_at (t ∷ ts) x (suc n) d order each le before behind last =
    (first n ts (omega arith) order.0 before.1 (λ e. last 0 (ap suc e)), none_at ts x n d order.1 each.1 (omega arith) before.1 behind (λ m e. last (suc m) (ap suc e)))
  where
    first : (k : ℕ) (ss : List Entry) → k ≤ length ss → Each (StandsBefore t) ss → Each (λ s. begins_by s x ≡ true) (take k ss) → (k ≡ 0 → t.id ≢ x) → t.id ≢ x
    first zero ss le apart begin alone = alone refl
    first (suc k) [] le apart begin alone = absurd (omega arith)
    first (suc k) (s ∷ ss) le apart begin alone = λ e. behind_covered t s x apart.0 (covers_first t x each.0 e) begin.0
