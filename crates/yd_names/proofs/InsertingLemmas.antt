-- Lists of numbers that gain one, and lose some.
use Rattle.std.proofs.Common.{◌≡◌, ◌∙◌, ℕ, zero, suc, ◌<◌, ◌≤◌, ◌⊎◌, inl, inr, Bool, true, false, cond, List, [], ◌∷◌, ◌++◌, Some, Ordering, length, take, drop, refl, sym, ap, subst, arith}
use Rattle.std.specs.Prelude.{slice_get, filter}
use Rattle.yd_ops.specs.declared.lists.List.{List as DocList}
use Rattle.yd_words.proofs.OptionLemmas.{some_is}
use Rattle.yd_names.specs.Items.{IsAt}
use Rattle.yd_names.specs.Crowds.{IsUpTo, IsInOrder}

pub got_inserted : (p : ℕ) (xs : List ℕ) (y i m : ℕ) → p ≤ length xs → slice_get (take p xs ++ y ∷ drop p xs) i ≡ Some m →
    ((i < p) × (slice_get xs i ≡ Some m)) ⊎ (((i ≡ p) × (y ≡ m)) ⊎ ((j : ℕ) × (i ≡ suc j) × (p ≤ j) × (slice_get xs j ≡ Some m)))
got_inserted zero xs y zero m le e = inr (inl (refl, some_is y m e))
got_inserted zero xs y (suc i) m le e = inr (inr (i, refl, omega arith, e))
got_inserted (suc p) [] y i m le e = absurd (omega arith)
got_inserted (suc p) (x ∷ xs) y zero m le e = inl (omega arith, e)
got_inserted (suc p) (x ∷ xs) y (suc i) m le e = elim (got_inserted p xs y i m (omega arith) e) [
  | inl (lt, f) ↦ inl (omega arith, f)
  | inr (inl (same, f)) ↦ inr (inl (ap suc same, f))
  | inr (inr (j, same, more, f)) ↦ inr (inr (suc j, ap suc same, omega arith, f))
]

pub inserted_here : (p : ℕ) (xs : List ℕ) (y : ℕ) → p ≤ length xs → slice_get (take p xs ++ y ∷ drop p xs) p ≡ Some y
inserted_here zero xs y le = refl
inserted_here (suc p) [] y le = absurd (omega arith)
inserted_here (suc p) (x ∷ xs) y le = inserted_here p xs y (omega arith)

pub inserted_others : (p : ℕ) (xs : List ℕ) (y n : ℕ) → p ≤ length xs → IsAt xs n → IsAt (take p xs ++ y ∷ drop p xs) n
inserted_others zero xs y n le (i, e) = (suc i, e)
inserted_others (suc p) [] y n le (i, e) = absurd (omega arith)
inserted_others (suc p) (x ∷ xs) y n le (zero, e) = (zero, e)
inserted_others (suc p) (x ∷ xs) y n le (suc i, e) = let (j, f) = inserted_others p xs y n (omega arith) (i, e) in (suc j, f)

module _ (test : ℕ → Bool) where
  -- what is left stood there, and in the same order
  pub left_from : (xs : List ℕ) (i m : ℕ) → slice_get (filter test xs) i ≡ Some m → (j : ℕ) × (i ≤ j) × (slice_get xs j ≡ Some m)
  left_from [] i m e = absurd cc
  left_from (x ∷ xs) i m e = go (λ i. left_from xs i m) (test x) i e
    where
      go : ((i : ℕ) → slice_get (filter test xs) i ≡ Some m → (j : ℕ) × (i ≤ j) × (slice_get xs j ≡ Some m)) → (b : Bool) (i : ℕ) → slice_get (cond b (x ∷ filter test xs) (filter test xs)) i ≡ Some m → (j : ℕ) × (i ≤ j) × (slice_get (x ∷ xs) j ≡ Some m)
      go deep true zero e = (zero, omega arith, e)
      go deep true (suc i) e = let (j, le, f) = deep i e in (suc j, omega arith, f)
      go deep false i e = let (j, le, f) = deep i e in (suc j, omega arith, f)

  pub left_passes : (xs : List ℕ) (m : ℕ) → IsAt (filter test xs) m → test m ≡ true
  left_passes [] m (i, e) = absurd cc
  left_passes (x ∷ xs) m (i, e) = go (left_passes xs m) (test x) refl i e
    where
      go : (IsAt (filter test xs) m → test m ≡ true) → (b : Bool) → test x ≡ b → (i : ℕ) → slice_get (cond b (x ∷ filter test xs) (filter test xs)) i ≡ Some m → test m ≡ true
      go deep true t zero e = ap test (sym (some_is x m e)) ∙ t
      go deep true t (suc i) e = deep (i, e)
      go deep false t i e = deep (i, e)

  pub passes_left : (xs : List ℕ) (m : ℕ) → test m ≡ true → IsAt xs m → IsAt (filter test xs) m
  passes_left [] m t (i, e) = absurd cc
  passes_left (x ∷ xs) m t (zero, e) = subst (λ b. IsAt (cond b (x ∷ filter test xs) (filter test xs)) m) (sym (ap test (some_is x m e) ∙ t)) (zero, e)
  passes_left (x ∷ xs) m t (suc i, e) = go (test x) (passes_left xs m t (i, e))
    where
      go : (b : Bool) → IsAt (filter test xs) m → IsAt (cond b (x ∷ filter test xs) (filter test xs)) m
      go true (j, f) = (suc j, f)
      go false at = at

  pub left_in_order : (cmp : DocList → DocList → Ordering) (names : List DocList) (xs : List ℕ) → IsInOrder cmp names xs → IsInOrder cmp names (filter test xs)
  left_in_order cmp names [] sorted i j m n lt e f = absurd cc
  left_in_order cmp names (x ∷ xs) sorted i j m n lt e f =
      go (left_in_order cmp names xs (λ i j m n lt e f. sorted (suc i) (suc j) m n (omega arith) e f)) (test x) i j lt e f
    where
      go : IsInOrder cmp names (filter test xs) → (b : Bool) (i j : ℕ) → i < j → slice_get (cond b (x ∷ filter test xs) (filter test xs)) i ≡ Some m → slice_get (cond b (x ∷ filter test xs) (filter test xs)) j ≡ Some n → IsUpTo cmp names m n
      go deep true i zero lt e f = absurd (omega arith)
      go deep true zero (suc j) lt e f = let (k, le, g) = left_from xs j n f in sorted zero (suc k) m n (omega arith) e g
      go deep true (suc i) (suc j) lt e f = deep i j m n (omega arith) e f
      go deep false i j lt e f = deep i j m n lt e f
