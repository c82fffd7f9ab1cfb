-- Entries in the order of writing: where an id goes among them, and which ids they have.
use Rattle.std.proofs.Common.{◌≡◌, ℕ, zero, suc, ◌+◌, ◌-◌, ◌<◌, ◌≤◌, Bool, true, false, List, [], ◌∷◌, length, get_or, take, drop, min, None, inl, inr, refl, sym, ap, ◌∙◌, subst, arith, tests, true≢false}
use Rattle.std.specs.List.Sorted.{IsPartitionedBy}
use Rattle.std.proofs.lemmas.Bool.{cases_lt, or_left, or_right}
use Rattle.std.proofs.lemmas.List.{get_or_default, take-append-drop}
use Rattle.yd_words.specs.Each.{Each}
use Rattle.yd_words.proofs.EachLemmas.{each_weaker, each_append, each_at, each_take, each_drop}
use Rattle.yd_ids.specs.declared.id.Id.{Id}
use Rattle.yd_ids.proofs.IdLemmas.{same_client}
use Rattle.yd_ops.specs.Operation.{later_id}
use Rattle.yd_entries.specs.declared.entry.Entry.{Entry}
use Rattle.yd_entries.specs.declared.place.Place.TheVariants.{Waits}
use Rattle.yd_entries.specs.Entries.{StandsBefore, AreInOrder, covers}
use Rattle.yd_ops.proofs.OperationLemmas.{later_none, later_later}
use Rattle.yd_entries.specs.Taking.{is_covered, AreCovered, HasUnits, EndsBy, EndsBehind, ends_by, BeginsBehind, IsRoom, IsGap}

-- what is read of a place without an entry
abbrev pub no_entry : Entry
no_entry = record { id = record { client = record { 0 = 0 }; clock = 0 }; len = 0; left = None; right = None; run = 0; offset = 0; is_gone = false; place = Waits }

-- ---- one entry and an id

-- the clients of the two, as numbers
pub client_of : (a b : Id) → a.client ≡ b.client → a.client.0 ≡ b.client.0
client_of a b e = ap (λ c. c.0) e

pub ends_true : (id : Id) (t : Entry) → ends_by id t ≡ true → EndsBy id t
ends_true id t e = elim (cases_lt id.client.0 t.id.client.0) [
  | inl lt ↦ inl lt
  | inr ge ↦ inr (same_client t.id id (grind (arith, tests)), grind (arith, tests))
]

pub ends_false : (id : Id) (t : Entry) → ends_by id t ≡ false → EndsBehind id t
ends_false id t e = elim (cases_lt t.id.client.0 id.client.0) [
  | inl lt ↦ inl lt
  | inr ge ↦ inr (same_client t.id id (grind (arith, tests)), grind (arith, tests))
]

ends_is : (id : Id) (t : Entry) → EndsBy id t → ends_by id t ≡ true
ends_is id t (inl lt) = grind (arith, tests)
ends_is id t (inr (one, le)) = let e = client_of t.id id one in grind (arith, tests)

ends_through : (id : Id) (s t : Entry) → StandsBefore s t → EndsBy id t → EndsBy id s
ends_through id s t (inl lt) (inl more) = inl (omega arith)
ends_through id s t (inl lt) (inr (one, le)) = inl (omega (arith, client_of t.id id one))
ends_through id s t (inr (same, le)) (inl more) = inl (omega (arith, client_of s.id t.id same))
ends_through id s t (inr (same, le)) (inr (one, more)) = inr (same ∙ one, omega arith)

begins_through : (id : Id) (count : ℕ) (s t : Entry) → BeginsBehind id count s → StandsBefore s t → BeginsBehind id count t
begins_through id count s t (inl less) (inl lt) = inl (omega arith)
begins_through id count s t (inl less) (inr (same, le)) = inl (omega (arith, client_of s.id t.id same))
begins_through id count s t (inr (one, more)) (inl lt) = inl (omega (arith, client_of id s.id one))
begins_through id count s t (inr (one, more)) (inr (same, le)) = inr (one ∙ same, omega arith)

-- ---- the place of an id

apart_at : (xs : List Entry) (i j : ℕ) (d : Entry) → AreInOrder xs → i < j → j < length xs → StandsBefore (get_or xs i d) (get_or xs j d)
apart_at [] i j d o lt le = absurd (omega arith)
apart_at (x ∷ xs) i zero d o lt le = absurd (omega arith)
apart_at (x ∷ xs) zero (suc j) d o lt le = each_at (StandsBefore x) xs j d o.0 (omega arith)
apart_at (x ∷ xs) (suc i) (suc j) d o lt le = apart_at xs i j d o.1 (omega arith) (omega arith)

pub entries_parted : (xs : List Entry) (id : Id) → AreInOrder xs → IsPartitionedBy (λ (t : Entry). ends_by id t) xs
entries_parted xs id o i j d le lt t = elim (cases_lt i j) [
  | inl less ↦ ends_is id (get_or xs i d) (ends_through id (get_or xs i d) (get_or xs j d) (apart_at xs i j d o less lt) (ends_true id (get_or xs j d) t))
  | inr ge ↦ let same : i ≡ j = omega arith in rw same t
]

-- where the last of the first n ends by an id, all of them do
pub ends_before : (xs : List Entry) (id : Id) (n : ℕ) (d : Entry) → AreInOrder xs → 0 < n → n ≤ length xs → ends_by id (get_or xs (n - 1) d) ≡ true → Each (EndsBy id) (take n xs)
ends_before xs id n d o some le e = each_take (EndsBy id) xs n (λ k c low lt. ends_true id (get_or xs k c)
    (entries_parted xs id o k (n - 1) c (omega (arith, low)) (omega (arith, some))
    (subst (λ t. ends_by id t ≡ true) (get_or_default xs (n - 1) d c (omega (arith, some))) e)))

-- where it does not, none from it on does
pub ends_behind : (xs : List Entry) (id : Id) (n : ℕ) (d : Entry) → AreInOrder xs → 0 < n → n ≤ length xs → ends_by id (get_or xs (n - 1) d) ≡ false →
    (0 < n) × Each (EndsBehind id) (drop (n - 1) xs)
ends_behind xs id n d o some le e = (some, each_drop (EndsBehind id) xs (n - 1) (λ k c low lt. ends_false id (get_or xs k c) (go k c low lt (ends_by id (get_or xs k c)) refl)))
  where
    go : (k : ℕ) (c : Entry) → n - 1 ≤ k → k < length xs → (b : Bool) → ends_by id (get_or xs k c) ≡ b → b ≡ false
    go k c low lt false f = refl
    go k c low lt true f = absurd (true≢false (sym (entries_parted xs id o (n - 1) k c low lt f)
        ∙ subst (λ t. ends_by id t ≡ false) (get_or_default xs (n - 1) d c (omega (arith, some))) e))

pub each_from : (P : Entry → Type 0) (xs : List Entry) (n : ℕ) (d : Entry) → Each P (drop n xs) → n < length xs → P (get_or xs n d)
each_from P [] n d e lt = absurd (omega arith)
each_from P (x ∷ xs) zero d e lt = e.0
each_from P (x ∷ xs) (suc n) d e lt = each_from P xs n d e (omega arith)

pub each_past : (P : Entry → Type 0) (xs : List Entry) (n : ℕ) → length xs ≤ n → Each P (drop n xs)
each_past P [] zero le = tt
each_past P [] (suc n) le = tt
each_past P (x ∷ xs) zero le = absurd (omega arith)
each_past P (x ∷ xs) (suc n) le = each_past P xs n (omega arith)

pub begins_from : (id : Id) (count : ℕ) (xs : List Entry) (n : ℕ) (d : Entry) → AreInOrder xs → n < length xs → BeginsBehind id count (get_or xs n d) →
    Each (BeginsBehind id count) (drop n xs)
begins_from id count [] n d o lt b = absurd (omega arith)
begins_from id count (x ∷ xs) zero d o lt b = (b, each_weaker (StandsBefore x) (BeginsBehind id count) (λ t before. begins_through id count x t b before) xs o.0)
begins_from id count (x ∷ xs) (suc n) d o lt b = begins_from id count xs n d o.1 (omega arith) b

-- ---- ids that entries have

pub covered_at : (xs : List Entry) (n : ℕ) (d : Entry) (x : Id) → n < length xs → covers (get_or xs n d) x ≡ true → is_covered xs x ≡ true
covered_at [] n d x lt e = absurd (omega arith)
covered_at (t ∷ ts) zero d x lt e = or_left (covers t x) (is_covered ts x) e
covered_at (t ∷ ts) (suc n) d x lt e = or_right (covers t x) (is_covered ts x) (covered_at ts n d x (omega arith) e)

pub covers_in : (t : Entry) (x : Id) → t.id.client.0 ≡ x.client.0 → t.id.clock ≤ x.clock → x.clock < t.id.clock + t.len → covers t x ≡ true
covers_in t x e le lt = grind (arith, tests)

-- ---- lemmas for callers: the ids in a row from one on

module _ (xs : List Entry) (n : ℕ) (id : Id) (most : ℕ) (order : AreInOrder xs) (units : Each HasUnits xs) (before : Each (EndsBy id) (take n xs)) (behind : Each (EndsBehind id) (drop n xs)) where
  pub gap_last : length xs ≤ n → n ≤ length xs → IsGap xs n id most most
  gap_last past bound = record {
    room = record { bound = bound; before = before; behind = each_past (BeginsBehind id most) xs n past };
    ends = λ lt. absurd (omega arith);
  }

  pub gap_of_client : (d : Entry) → n < length xs → (((get_or xs n d).id.client.0 ≡ id.client.0) → ⊥) → IsGap xs n id most most
  gap_of_client d lt other = record {
    room = record {
      bound = omega arith;
      before = before;
      behind = begins_from id most xs n d order lt (elim (each_from (EndsBehind id) xs n d behind lt) [
        | inl less ↦ inl less
        | inr (one, le) ↦ absurd (other (client_of (get_or xs n d).id id one))
      ]);
    };
    ends = λ less. absurd (omega arith);
  }

  pub gap_before : (d : Entry) → n < length xs → (get_or xs n d).id.client.0 ≡ id.client.0 → id.clock < (get_or xs n d).id.clock →
      IsGap xs n id (min most ((get_or xs n d).id.clock - id.clock)) most
  gap_before d lt same less = record {
    room = record { bound = omega arith; before = before; behind = begins_from id (min most ((get_or xs n d).id.clock - id.clock)) xs n d order lt (inr (same_client id (get_or xs n d).id (sym same), omega arith)) };
    ends = λ fewer. covered_at xs n d (later_id id (min most ((get_or xs n d).id.clock - id.clock))) lt
        (let some : 0 < (get_or xs n d).len = each_at HasUnits xs n d units lt in
        covers_in (get_or xs n d) (later_id id (min most ((get_or xs n d).id.clock - id.clock))) same (omega arith) (omega arith));
  }

  pub covered_from : (d : Entry) → n < length xs → (get_or xs n d).id.client.0 ≡ id.client.0 → (get_or xs n d).id.clock ≤ id.clock →
      AreCovered xs id (min most ((get_or xs n d).len - (id.clock - (get_or xs n d).id.clock)))
  covered_from d lt same le k less = covered_at xs n d (later_id id k) lt (covers_in (get_or xs n d) (later_id id k) same (omega arith) (omega arith))

-- ---- lemmas for callers: ids that no entry has

covers_none_before : (id : Id) (k : ℕ) (t : Entry) → EndsBy id t → covers t (later_id id k) ≡ false
covers_none_before id k t (inl less) = grind (arith, tests)
covers_none_before id k t (inr (one, le)) = let e = client_of t.id id one in grind (arith, tests)

covers_none_behind : (id : Id) (count k : ℕ) (t : Entry) → k < count → BeginsBehind id count t → covers t (later_id id k) ≡ false
covers_none_behind id count k t lt (inl less) = grind (arith, tests)
covers_none_behind id count k t lt (inr (one, le)) = let e = client_of id t.id one in grind (arith, tests)

covered_none : (xs : List Entry) (x : Id) → Each (λ (t : Entry). covers t x ≡ false) xs → is_covered xs x ≡ false
covered_none [] x none = refl
covered_none (t ∷ ts) x none = rw (none.0, covered_none ts x none.1) refl

-- ids that have room are those of no entry
pub room_is_free : (xs : List Entry) (n : ℕ) (id : Id) (count k : ℕ) → IsRoom xs n id count → k < count → is_covered xs (later_id id k) ≡ false
room_is_free xs n id count k room lt =
    covered_none xs (later_id id k) (subst (Each (λ (t : Entry). covers t (later_id id k) ≡ false)) (take-append-drop n xs)
    (each_append (λ (t : Entry). covers t (later_id id k) ≡ false) (take n xs) (drop n xs)
    (each_weaker (EndsBy id) (λ (t : Entry). covers t (later_id id k) ≡ false) (λ t e. covers_none_before id k t e) (take n xs) room.before)
    (each_weaker (BeginsBehind id count) (λ (t : Entry). covers t (later_id id k) ≡ false) (λ t e. covers_none_behind id count k t lt e) (drop n xs) room.behind)))

-- the first of them too
pub gap_is_free : (xs : List Entry) (n : ℕ) (id : Id) (count most : ℕ) → IsGap xs n id count most → 0 < count → is_covered xs id ≡ false
gap_is_free xs n id count most gap some = subst (λ x. is_covered xs x ≡ false) (later_none id) (room_is_free xs n id count 0 gap.room some)

-- covered ids in a row, and behind them some more
pub covered_on : (xs : List Entry) (id : Id) (m n : ℕ) → AreCovered xs id m → AreCovered xs (later_id id m) n → AreCovered xs id (m + n)
covered_on xs id m n front back k lt = elim (cases_lt k m) [
  | inl less ↦ front k less
  | inr ge ↦
      let e : later_id (later_id id m) (k - m) ≡ later_id id k = later_later id m (k - m) ∙ ap (λ (i : ℕ). later_id id i) (omega arith) in
      subst (λ x. is_covered xs x ≡ true) e (back (k - m) (omega arith))
]
