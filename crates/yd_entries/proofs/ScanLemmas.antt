-- Entries that are looked through from an id on: which come before it, which behind, and which say no more than a level.
use Rattle.std.proofs.Common.{◌≡◌, ℕ, zero, suc, ◌+◌, ◌<◌, ◌≤◌, Bool, true, false, List, [], ◌∷◌, length, take, drop, get_or, ◌⊎◌, inl, inr, sym, ap, ◌∙◌, subst, arith, tests}
use Rattle.std.specs.Prelude.{slice_get, Option, Some, None}
use Rattle.std.proofs.lemmas.List.{take-append-drop}
use Rattle.yd_words.specs.Each.{Each}
use Rattle.yd_words.specs.Member.{IsIn}
use Rattle.yd_words.proofs.EachLemmas.{each_weaker, each_append}
use Rattle.yd_words.proofs.MemberLemmas.{in_left_part, in_right_part}
use Rattle.yd_words.proofs.TestLemmas.{split}
use Rattle.yd_ids.specs.declared.id.Id.{Id}
use Rattle.yd_ops.specs.declared.runs.Run.{Run}
use Rattle.yd_ops.specs.Operation.{Operation, UnitContent, later_id, level_of}
use Rattle.yd_ops.proofs.OneOfLemmas.{operation_with}
use Rattle.yd_ops.specs.View.{content_value}
use Rattle.yd_entries.specs.declared.entry.Entry.{Entry}
use Rattle.yd_entries.specs.Entries.{units_of, list_at, covers, operations_told, operations_of_taken, operations_in, IsTakenOf, AreInOrder}
use Rattle.yd_entries.specs.Lowering.{is_among, begins_within, level_of_run, level_told, level_of_entry, SaysMore, IsBeside}
use Rattle.yd_entries.specs.Splitting.{IsAstride, begins_before}
use Rattle.yd_entries.specs.Taking.{EndsBy, EndsBehind, BeginsBehind}
use Rattle.yd_entries.proofs.EntryLemmas.{client_of, each_from, each_past, begins_from}
use Rattle.yd_entries.proofs.PieceLemmas.{get_in_take, get_in_drop}
use Rattle.yd_entries.proofs.SpelledLemmas.{units_level}
use Rattle.yd_entries.proofs.TakenLemmas.{has_taken, taken_id}
use Rattle.yd_entries.proofs.UnitLemmas.{from_unit, from_gone}
use Rattle.yd_entries.proofs.WrittenLemmas.{each_operation}

-- the units are written wholly before an id, or behind so many from it on, or say no more than a level
abbrev pub IsLow : Id → ℕ → ℕ → List Run → Entry → Type 0
IsLow id count level runs t = EndsBy id t ⊎ (BeginsBehind id count t ⊎ (level_of_entry runs t ≤ level))

-- ---- a list in two parts

-- what holds of each of both parts
pub each_both : (P : Entry → Type 0) (xs : List Entry) (n : ℕ) → Each P (take n xs) → Each P (drop n xs) → Each P xs
each_both P xs n front back = subst (Each P) (take-append-drop n xs) (each_append P (take n xs) (drop n xs) front back)

pub each_one_more : (P : Entry → Type 0) (xs : List Entry) (n : ℕ) (d : Entry) → n < length xs → Each P (take n xs) → P (get_or xs n d) → Each P (take (n + 1) xs)
each_one_more P [] n d lt front here = absurd (omega arith)
each_one_more P (x ∷ xs) zero d lt front here = (here, tt)
each_one_more P (x ∷ xs) (suc n) d lt front here = subst (λ k. Each P (take k (x ∷ xs))) next (front.0, each_one_more P xs n d (omega arith) front.1 here)
  where
    next : suc (n + 1) ≡ suc n + 1
    next = omega arith

pub each_one_less : (P : Entry → Type 0) (xs : List Entry) (n : ℕ) → Each P (drop n xs) → Each P (drop (n + 1) xs)
each_one_less P [] zero back = tt
each_one_less P [] (suc n) back = subst (λ k. Each P (drop k [])) next tt
  where
    next : suc (n + 1) ≡ suc n + 1
    next = omega arith
each_one_less P (x ∷ xs) zero back = back.1
each_one_less P (x ∷ xs) (suc n) back = subst (λ k. Each P (drop k (x ∷ xs))) next (each_one_less P xs n back)
  where
    next : suc (n + 1) ≡ suc n + 1
    next = omega arith

-- ---- an id

-- units that do not end by the id and do not begin before it begin behind it
pub begins_after : (id : Id) (count : ℕ) (t : Entry) → EndsBehind id t → begins_within id count t ≡ false → BeginsBehind id count t
begins_after id count t (inl lt) e = inl lt
begins_after id count t (inr (one, lt)) e = let same = client_of t.id id one in inr (sym one, grind (arith, tests))

pub begins_there : (id : Id) (t : Entry) → EndsBehind id t → begins_before id t ≡ false → BeginsBehind id 0 t
begins_there id t (inl lt) e = inl lt
begins_there id t (inr (one, lt)) e = let same = client_of t.id id one in inr (sym one, grind (arith, tests))

pub is_astride : (id : Id) (t : Entry) → EndsBehind id t → begins_before id t ≡ true → IsAstride id t
is_astride id t (inl lt) e = absurd (grind (arith, tests))
is_astride id t (inr (one, lt)) e = record { client = one; begins = grind (arith, tests); ends = lt }

-- where the next entry begins behind so many ids, all do
pub rest_behind : (xs : List Entry) (id : Id) (n : ℕ) (d : Entry) (count : ℕ) → AreInOrder xs → Each (EndsBehind id) (drop n xs) →
    (n < length xs → begins_within id count (get_or xs n d) ≡ false) → Each (BeginsBehind id count) (drop n xs)
rest_behind xs id n d count order behind next = elim (split (length xs) n) [
  | inl past ↦ each_past (BeginsBehind id count) xs n past
  | inr lt ↦ begins_from id count xs n d order lt (begins_after id count (get_or xs n d) (each_from (EndsBehind id) xs n d behind lt) (next lt))
]

-- where the next entry does not begin before the id, no entry has units on both sides of it
pub all_beside : (xs : List Entry) (id : Id) (n : ℕ) (d : Entry) → AreInOrder xs → Each (EndsBy id) (take n xs) → Each (EndsBehind id) (drop n xs) →
    (n < length xs → begins_before id (get_or xs n d) ≡ false) → Each (IsBeside id) xs
all_beside xs id n d order before behind next = each_both (IsBeside id) xs n (each_weaker (EndsBy id) (IsBeside id) (λ t e. inl e) (take n xs) before) (elim (split (length xs) n) [
  | inl past ↦ each_past (IsBeside id) xs n past
  | inr lt ↦ each_weaker (BeginsBehind id 0) (IsBeside id) (λ t e. inr e) (drop n xs)
      (begins_from id 0 xs n d order lt (begins_there id (get_or xs n d) (each_from (EndsBehind id) xs n d behind lt) (next lt)))
])

-- entries that say no more than a level, and behind them ones that begin behind so many ids
pub low_and_behind : (runs : List Run) (xs : List Entry) (id : Id) (n count level : ℕ) → Each (IsLow id count level runs) (take n xs) →
    Each (BeginsBehind id count) (drop n xs) → Each (IsLow id count level runs) xs
low_and_behind runs xs id n count level low behind = each_both (IsLow id count level runs) xs n low
    (each_weaker (BeginsBehind id count) (IsLow id count level runs) (λ t b. inr (inl b)) (drop n xs) behind)

-- ---- how much is told

-- each operation of an entry says as much as the entry
pub taken_level : (runs : List Run) (t : Entry) (o : Operation) → IsTakenOf runs t → IsIn o (operations_of_taken runs t) → level_of o.content ≡ level_of_entry runs t
taken_level runs t o is i = go t.is_gone i
  where
    by_run : (r : Option Run) (k : ℕ) → slice_get (take t.len (drop t.offset (units_of r))) k ≡ Some o.content → level_of o.content ≡ level_of_run r
    by_run None k u = absurd (none_there (get_in_drop t.offset [] k) (get_in_take t.len (drop t.offset []) k o.content u))
      where
        none_there : slice_get {X = UnitContent} (drop t.offset []) k ≡ slice_get [] (t.offset + k) → slice_get {X = UnitContent} (drop t.offset []) k ≡ Some o.content → ⊥
        none_there e f = absurd cc
    by_run (Some run) k u = units_level (content_value run.content) (t.offset + k) o.content
        (sym (get_in_drop t.offset (units_of (Some run)) k) ∙ get_in_take t.len (drop t.offset (units_of (Some run))) k o.content u)

    go : (gone : Bool) → IsIn o (operations_told gone runs t) → level_of o.content ≡ level_told gone runs t
    go true i = let (k, lt, e) = from_gone t.id t.len o i in ap (λ (q : Operation). level_of q.content) e
    go false i =
        let (k, lt, x, u) = from_unit t.id t.left t.right (list_at (slice_get runs t.run) t.offset) (take t.len (drop t.offset (units_of (slice_get runs t.run)))) o i in
        by_run (slice_get runs t.run) k u

-- an entry has an operation of each of its ids
pub taken_at : (runs : List Run) (t : Entry) (x : Id) → IsTakenOf runs t → covers t x ≡ true → (o : Operation) × IsIn o (operations_of_taken runs t) × (o.id ≡ x)
taken_at runs t x is e = operation_with (operations_of_taken runs t) x (has_taken runs t x is ∙ e)

-- units that begin before so many ids end, and do not end by the first, share one with them
pub says_more_at : (runs : List Run) (t : Entry) (id : Id) (count level : ℕ) → 0 < count → IsTakenOf runs t → EndsBehind id t → begins_within id count t ≡ true →
    level < level_of_entry runs t →
    (o : Operation) × IsIn o (operations_of_taken runs t) × (is_among id count o.id ≡ true) × (level < level_of o.content)
says_more_at runs t id count level some is (inl lt) within less = absurd (grind (arith, tests))
says_more_at runs t id count level some is (inr (one, lt)) within less = elim (split id.clock t.id.clock) [
  | inl le ↦ found t.id covers_first (among_first le)
  | inr gt ↦ found id (covers_id gt) among_id
]
  where
    same : t.id.client.0 ≡ id.client.0
    same = client_of t.id id one

    has_units : 0 < t.len
    has_units = is.has_units

    covers_first : covers t t.id ≡ true
    covers_first = grind (arith, tests)

    among_first : id.clock ≤ t.id.clock → is_among id count t.id ≡ true
    among_first le = grind (arith, tests)

    covers_id : t.id.clock < id.clock → covers t id ≡ true
    covers_id gt = grind (arith, tests)

    among_id : is_among id count id ≡ true
    among_id = grind (arith, tests)

    found : (x : Id) → covers t x ≡ true → is_among id count x ≡ true →
        (o : Operation) × IsIn o (operations_of_taken runs t) × (is_among id count o.id ≡ true) × (level < level_of o.content)
    found x c a = let (o, i, e) = taken_at runs t x is c in (o, i, ap (λ y. is_among id count y) e ∙ a, omega (arith, less, taken_level runs t o is i))

-- an operation of an entry that says no more than the level
low_operation : (runs : List Run) (t : Entry) (id : Id) (count level : ℕ) → IsTakenOf runs t → IsLow id count level runs t → (o : Operation) → IsIn o (operations_of_taken runs t) →
    is_among id count o.id ≡ true → level_of o.content ≤ level
low_operation runs t id count level is (inl ends) o i among = let (k, lt, e) = taken_id runs t o is i in absurd (away ends k lt e)
  where
    away : EndsBy id t → (k : ℕ) → k < t.len → o.id ≡ later_id t.id k → ⊥
    away (inl lt) k less e = let client = ap (λ (x : Id). x.client.0) e in absurd (grind (arith, tests))
    away (inr (one, le)) k less e = let client = ap (λ (x : Id). x.client.0) e in let clock = ap (λ (x : Id). x.clock) e in let same = client_of t.id id one in absurd (grind (arith, tests))
low_operation runs t id count level is (inr (inl begins)) o i among = let (k, lt, e) = taken_id runs t o is i in absurd (away begins k e)
  where
    away : BeginsBehind id count t → (k : ℕ) → o.id ≡ later_id t.id k → ⊥
    away (inl lt) k e = let client = ap (λ (x : Id). x.client.0) e in absurd (grind (arith, tests))
    away (inr (one, le)) k e = let client = ap (λ (x : Id). x.client.0) e in let clock = ap (λ (x : Id). x.clock) e in let same = client_of id t.id one in absurd (grind (arith, tests))
low_operation runs t id count level is (inr (inr low)) o i among = omega (arith, low, taken_level runs t o is i)

-- where all entries say no more, no operation does
pub all_low : (runs : List Run) (ts : List Entry) (id : Id) (count level : ℕ) → Each (IsTakenOf runs) ts → Each (IsLow id count level runs) ts → (o : Operation) →
    IsIn o (operations_in runs ts) →
    is_among id count o.id ≡ true → level_of o.content ≤ level
all_low runs ts id count level each low = each_operation runs (λ o. is_among id count o.id ≡ true → level_of o.content ≤ level) ts (both ts each low)
  where
    both : (ts : List Entry) → Each (IsTakenOf runs) ts → Each (IsLow id count level runs) ts →
        Each (λ (t : Entry). (o : Operation) → IsIn o (operations_of_taken runs t) → is_among id count o.id ≡ true → level_of o.content ≤ level) ts
    both [] each low = tt
    both (t ∷ ts) each low = ((λ o i among. low_operation runs t id count level each.0 low.0 o i among), both ts each.1 low.1)

pub none_more : (runs : List Run) (ts : List Entry) (id : Id) (count level : ℕ) → Each (IsTakenOf runs) ts → Each (IsLow id count level runs) ts →
    SaysMore id count level (operations_in runs ts) → ⊥
none_more runs ts id count level each low (o, i, among, less) = absurd (omega (arith, less, all_low runs ts id count level each low o i among))

-- the operations of one entry are among all
pub of_entry : (runs : List Run) (ts : List Entry) (n : ℕ) (d : Entry) (o : Operation) → n < length ts → IsIn o (operations_of_taken runs (get_or ts n d)) →
    IsIn o (operations_in runs ts)
of_entry runs [] n d o lt i = absurd (omega arith)
of_entry runs (t ∷ ts) zero d o lt i = in_left_part o (operations_of_taken runs t) (operations_in runs ts) i
of_entry runs (t ∷ ts) (suc n) d o lt i = in_right_part o (operations_of_taken runs t) (operations_in runs ts) (of_entry runs ts n d o (omega arith) i)
