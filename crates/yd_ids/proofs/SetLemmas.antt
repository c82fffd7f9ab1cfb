-- Maximal spans: where an id stands among them, and what one span in place of some keeps.
use Rattle.std.proofs.Common.{◌≡◌, ℕ, zero, suc, ◌+◌, ◌<◌, ◌≤◌, ◌⊎◌, List, [], ◌∷◌, ◌++◌, length, get_or, take, drop, inl, inr, sym, subst, arith}
use Rattle.std.specs.List.Sorted.{IsPartitionedBy, IsPermutation}
use Rattle.std.proofs.lemmas.Bool.{cases_lt}
use Rattle.std.proofs.lemmas.List.{get_or_default}
use Rattle.std.proofs.lemmas.List.Sorted.{Contains-permutation, IsPermutation-sym}
use Rattle.yd_words.specs.Each.{Each}
use Rattle.yd_words.proofs.EachLemmas.{each_weaker, each_append, each_front, each_at, each_drop}
use Rattle.yd_ids.specs.declared.id.Id.{Id}
use Rattle.yd_ids.specs.declared.id.Span.{Span}
use Rattle.yd_ids.specs.Id.{IsSpan}
use Rattle.yd_ids.specs.Set.{HasId, HaveSameIds, AreMaximal, AddsSpan}
use Rattle.yd_ids.specs.Span.{InSpan, Reaches, ends_below, reaches_into, EndsBefore, BeginsBy}
use Rattle.yd_ids.proofs.SpanLemmas.{below_true, below_is, below_through, through, by_through, behind_none, in_reaches, reaches_true, reaches_is, reaches_through}

-- ---- one of them

pub apart_at : (xs : List Span) (i j : ℕ) (d : Span) → AreMaximal xs → i < j → j < length xs → EndsBefore (get_or xs i d) (get_or xs j d)
apart_at [] i j d m lt le = absurd (omega arith)
apart_at (x ∷ xs) i zero d m lt le = absurd (omega arith)
apart_at (x ∷ xs) zero (suc j) d m lt le = each_at (EndsBefore x) xs j d m.2 (omega arith)
apart_at (x ∷ xs) (suc i) (suc j) d m lt le = apart_at xs i j d m.3 (omega arith) (omega arith)

pub span_at : (xs : List Span) (n : ℕ) (d : Span) → AreMaximal xs → n < length xs → IsSpan (get_or xs n d) × (0 < (get_or xs n d).len)
span_at [] n d m lt = absurd (omega arith)
span_at (x ∷ xs) zero d m lt = (m.0, m.1)
span_at (x ∷ xs) (suc n) d m lt = span_at xs n d m.3 (omega arith)

pub spans_parted : (xs : List Span) (c k : ℕ) → AreMaximal xs → IsPartitionedBy (λ (s : Span). ends_below s c k) xs
spans_parted xs c k m i j d le lt t = elim (cases_lt i j) [
  | inl less ↦ below_is (get_or xs i d) c k (below_through (get_or xs i d) (get_or xs j d) c k (apart_at xs i j d m less lt) (below_true (get_or xs j d) c k t))
  | inr ge ↦ let same : i ≡ j = omega arith in rw same t
]

pub reached_parted : (s : Span) (xs : List Span) → AreMaximal xs → IsPartitionedBy (reaches_into s) xs
reached_parted s xs m i j d le lt t = elim (cases_lt i j) [
  | inl less ↦ reaches_is s (get_or xs i d) (reaches_through s (get_or xs i d) (get_or xs j d) (apart_at xs i j d m less lt) (reaches_true s (get_or xs j d) t))
  | inr ge ↦ let same : i ≡ j = omega arith in rw same t
]

-- ---- parts of them

pub maximal_front : (xs : List Span) (n : ℕ) → AreMaximal xs → AreMaximal (take n xs)
maximal_front xs zero m = tt
maximal_front [] (suc n) m = tt
maximal_front (x ∷ xs) (suc n) m = (m.0, m.1, each_front (EndsBefore x) xs n m.2, maximal_front xs n m.3)

pub maximal_back : (xs : List Span) (n : ℕ) → AreMaximal xs → AreMaximal (drop n xs)
maximal_back xs zero m = m
maximal_back [] (suc n) m = tt
maximal_back (x ∷ xs) (suc n) m = maximal_back xs n m.3

-- the span at a place ends before those from a later place on
pub after_at : (xs : List Span) (k n : ℕ) (d : Span) → AreMaximal xs → k < n → Each (EndsBefore (get_or xs k d)) (drop n xs)
after_at xs k n d m lt = each_drop (EndsBefore (get_or xs k d)) xs n (λ j e low le. subst (λ u. EndsBefore u (get_or xs j e)) (get_or_default xs k e d (omega arith)) (apart_at xs k j e m (omega arith) le))

-- those before a place end before the span there
pub before_at : (xs : List Span) (from n : ℕ) (d : Span) → AreMaximal xs → from ≤ n → n < length xs → Each (λ u. EndsBefore u (get_or xs n d)) (take from xs)
before_at xs zero n d m le lt = tt
before_at [] (suc from) n d m le lt = tt
before_at (x ∷ xs) (suc from) zero d m le lt = absurd (omega arith)
before_at (x ∷ xs) (suc from) (suc n) d m le lt = (each_at (EndsBefore x) xs n d m.2 (omega arith), before_at xs from n d m.3 (omega arith) (omega arith))

-- a span that begins by the first begins by all
pub begins_by_all : (s t : Span) (ts : List Span) → AreMaximal (t ∷ ts) → BeginsBy s t → Each (BeginsBy s) (t ∷ ts)
begins_by_all s t ts m b = (b, each_weaker (EndsBefore t) (BeginsBy s) (λ u e. by_through s t u b e) ts m.2)

pub has_front : (xs ys : List Span) (id : Id) → HasId (xs ++ ys) id → HasId xs id ⊎ HasId ys id
has_front [] ys id h = inr h
has_front (x ∷ xs) ys id (inl i) = inl (inl i)
has_front (x ∷ xs) ys id (inr h) = elim (has_front xs ys id h) [ inl a ↦ inl (inr a) | inr b ↦ inr b ]

pub has_either : (xs ys : List Span) (id : Id) → HasId xs id ⊎ HasId ys id → HasId (xs ++ ys) id
has_either [] ys id (inl h) = absurd h
has_either [] ys id (inr h) = h
has_either (x ∷ xs) ys id (inl (inl i)) = inl i
has_either (x ∷ xs) ys id (inl (inr h)) = inr (has_either xs ys id (inl h))
has_either (x ∷ xs) ys id (inr h) = inr (has_either xs ys id (inr h))

-- ---- the same ids

pub same_back : (xs ys : List Span) → HaveSameIds xs ys → HaveSameIds ys xs
same_back xs ys h id = ((h id).1, (h id).0)

pub same_through : (xs ys zs : List Span) → HaveSameIds xs ys → HaveSameIds ys zs → HaveSameIds xs zs
same_through xs ys zs h k id = ((λ a. (k id).0 ((h id).0 a)), (λ a. (h id).1 ((k id).1 a)))

pub has_place : (xs : List Span) (id : Id) → HasId xs id → (n : ℕ) × (n < length xs) × ((d : Span) → InSpan (get_or xs n d) id)
has_place [] id h = absurd h
has_place (x ∷ xs) id (inl i) = (0, omega arith, λ d. i)
has_place (x ∷ xs) id (inr h) = let (n, lt, i) = has_place xs id h in (suc n, omega arith, i)

pub place_has : (xs : List Span) (n : ℕ) (d : Span) (id : Id) → n < length xs → InSpan (get_or xs n d) id → HasId xs id
place_has [] n d id lt i = absurd (omega arith)
place_has (x ∷ xs) zero d id lt i = inl i
place_has (x ∷ xs) (suc n) d id lt i = inr (place_has xs n d id (omega arith) i)

has_permuted : (xs ys : List Span) (id : Id) → IsPermutation xs ys → HasId xs id → HasId ys id
has_permuted xs ys id p h =
    let (n, lt, i) = has_place xs id h in
    let s = get_or xs n (first_of_none id) in
    let (m, le, e) = Contains-permutation xs ys s p (n, lt, get_or_default xs n s (first_of_none id) lt) in
    place_has ys m s id le (subst (λ u. InSpan u id) (sym e) (i (first_of_none id)))
  where
    first_of_none : Id → Span
    first_of_none id = record { client = id.client; clock = 0; len = 0 }

-- spans in another order have the same ids
pub permuted_same : (xs ys : List Span) → IsPermutation xs ys → HaveSameIds xs ys
permuted_same xs ys p id = (has_permuted xs ys id p, has_permuted ys xs id (IsPermutation-sym xs ys p))

-- ---- an id among them

behind_has : (s : Span) (xs : List Span) (id : Id) → Reaches s id.client.0 (id.clock + 1) → Each (EndsBefore s) xs → HasId xs id → ⊥
behind_has s [] id r h i = i
behind_has s (x ∷ xs) id r h (inl i) = behind_none s x id r h.0 i
behind_has s (x ∷ xs) id r h (inr i) = behind_has s xs id r h.1 i

-- those behind a span that has the id do not
pub once : (s : Span) (xs : List Span) (id : Id) → Each (EndsBefore s) xs → InSpan s id → HasId xs id → ⊥
once s xs id h i = behind_has s xs id (in_reaches s id i) h

-- ---- one span between others

pub maximal_around : (front : List Span) (w : Span) (back : List Span) → AreMaximal front → AreMaximal back → IsSpan w → 0 < w.len → Each (λ u. EndsBefore u w) front → Each (EndsBefore w) back → AreMaximal (front ++ w ∷ back)
maximal_around [] w back m n is some p q = (is, some, q, n)
maximal_around (x ∷ front) w back m n is some p q = (
  m.0,
  m.1,
  each_append (EndsBefore x) front (w ∷ back) m.2 (p.0, each_weaker (EndsBefore w) (EndsBefore x) (λ u e. through x w u p.0 e) back q),
  maximal_around front w back m.3 n is some p.1 q,
)

-- an empty span adds nothing
pub nothing_added : (xs : List Span) (s : Span) → s.len ≡ 0 → AddsSpan xs xs s
nothing_added xs s e id = ((λ h. inl h), (λ h. elim h [ inl a ↦ a | inr i ↦ absurd (none i) ]))
  where
    none : InSpan s id → ⊥
    none i = absurd (omega arith)
