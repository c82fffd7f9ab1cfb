-- What a filter keeps of a list.
use Rattle.std.proofs.Common.{◌≡◌, ◌≤◌, ◌<◌, Bool, true, false, List, [], ◌∷◌, ◌⊎◌, inl, inr, length, refl, sym, ap, ◌∙◌, arith, true≢false}
use Rattle.std.specs.Prelude.{filter, if◌then◌else◌}
use Rattle.yd_words.specs.Member.{IsIn}

-- what a filter keeps passes its test, and is of the list
pub kept_one : {X : Type 0} (test : X → Bool) (xs : List X) (x : X) → IsIn x (filter test xs) → (test x ≡ true) × IsIn x xs
kept_one test [] x i = absurd i
kept_one test (y ∷ ys) x i = go (test y) refl i (λ j. kept_one test ys x j)
  where
    go : (t : Bool) → test y ≡ t → IsIn x (if t then y ∷ filter test ys else filter test ys) →
        (IsIn x (filter test ys) → (test x ≡ true) × IsIn x ys) → (test x ≡ true) × IsIn x (y ∷ ys)
    go true e (inl g) f = (ap test g ∙ e, inl g)
    go true e (inr j) f = ((f j).0, inr (f j).1)
    go false e j f = ((f j).0, inr (f j).1)

-- what is of the list and passes the test is kept
pub one_kept : {X : Type 0} (test : X → Bool) (xs : List X) (x : X) → test x ≡ true → IsIn x xs → IsIn x (filter test xs)
one_kept test [] x passes i = absurd i
one_kept test (y ∷ ys) x passes i = go (test y) refl i (λ j. one_kept test ys x passes j)
  where
    go : (t : Bool) → test y ≡ t → IsIn x (y ∷ ys) → (IsIn x ys → IsIn x (filter test ys)) →
        IsIn x (if t then y ∷ filter test ys else filter test ys)
    go true e (inl g) f = inl g
    go true e (inr j) f = inr (f j)
    go false e (inl g) f = absurd (true≢false (sym passes ∙ ap test g ∙ e))
    go false e (inr j) f = f j

-- two tests that agree on the list keep the same
pub filter_alike : {X : Type 0} (test other : X → Bool) (xs : List X) → ((x : X) → IsIn x xs → test x ≡ other x) →
    filter test xs ≡ filter other xs
filter_alike test other [] same = refl
filter_alike test other (x ∷ xs) same = rw (same x (inl refl), filter_alike test other xs (λ y i. same y (inr i))) refl

-- a test that all pass keeps all
pub filter-all : {X : Type 0} (test : X → Bool) (xs : List X) → ((x : X) → IsIn x xs → test x ≡ true) → filter test xs ≡ xs
filter-all test [] passes = refl
filter-all test (x ∷ xs) passes = rw (passes x (inl refl), filter-all test xs (λ y i. passes y (inr i))) refl

pub length-filter : {X : Type 0} (test : X → Bool) (xs : List X) → length (filter test xs) ≤ length xs
length-filter test [] = omega arith
length-filter test (x ∷ xs) = go (test x) (length-filter test xs)
  where
    go : (t : Bool) → length (filter test xs) ≤ length xs → length (if t then x ∷ filter test xs else filter test xs) ≤ length (x ∷ xs)
    go true le = omega arith
    go false le = omega arith

-- a wider test keeps the same, or more
pub same_or_more : {X : Type 0} (test wider : X → Bool) → ((x : X) → test x ≡ true → wider x ≡ true) → (xs : List X) →
    (filter test xs ≡ filter wider xs) ⊎ (length (filter test xs) < length (filter wider xs))
same_or_more test wider widens [] = inl refl
same_or_more test wider widens (x ∷ xs) = go (test x) (wider x) refl refl (same_or_more test wider widens xs)
  where
    go : (s t : Bool) → test x ≡ s → wider x ≡ t → (filter test xs ≡ filter wider xs) ⊎ (length (filter test xs) < length (filter wider xs)) →
        ((if s then x ∷ filter test xs else filter test xs) ≡ (if t then x ∷ filter wider xs else filter wider xs))
        ⊎ (length (if s then x ∷ filter test xs else filter test xs) < length (if t then x ∷ filter wider xs else filter wider xs))
    go true true e h (inl k) = inl (ap (λ ys. x ∷ ys) k)
    go true true e h (inr k) = inr (omega arith)
    go true false e h k = absurd (true≢false (sym (widens x e) ∙ h))
    go false true e h (inl k) = inr (omega (arith, ap length k))
    go false true e h (inr k) = inr (omega arith)
    go false false e h k = k
