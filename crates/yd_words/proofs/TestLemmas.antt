-- Tests, what they say, and their answers as numbers.
use Rattle.std.proofs.Common.{◌≡◌, ◌≢◌, ℕ, ◌<◌, ◌≤◌, Bool, true, false, ◌&&◌, ◌⊎◌, inl, inr, nat_lt, refl, sym, arith, tests, true≢false}
use Rattle.std.specs.Prelude.{Decides}
use Rattle.yd_words.specs.Test.{one_if}

-- a test came out one way or the other, with what each says
abbrev pub Says : Bool → Type 0 → Type 0 → Type 0
Says test holds fails = (test ≡ true) × holds ⊎ (test ≡ false) × fails

-- one of two numbers is at most the other, or greater
pub split : (m n : ℕ) → (m ≤ n) ⊎ (n < m)
split m n = grind arith

-- two numbers are one or two
pub same_or_other : (m n : ℕ) → (m ≡ n) ⊎ (m ≢ n)
same_or_other m n = grind arith

pub nat_lt_says : (m n : ℕ) → Says (nat_lt m n) (m < n) (n ≤ m)
nat_lt_says m n = go (nat_lt m n) refl
  where
    go : (t : Bool) → nat_lt m n ≡ t → Says t (m < n) (n ≤ m)
    go true e = inl (refl, grind (arith, tests))
    go false e = inr (refl, grind (arith, tests))

pub test_fails : (t : Bool) → (t ≡ true → ⊥) → t ≡ false
test_fails true n = absurd (n refl)
test_fails false n = refl

-- two tests of one fact give one answer
pub one_answer : {P : Type 0} (t u : Bool) → Decides t P → Decides u P → t ≡ u
one_answer true u first second = sym (second.1 (first.0 refl))
one_answer false true first second = first.1 (second.0 refl)
one_answer false false first second = refl

-- two tests that hold together hold each
pub both_hold : (s t : Bool) → s && t ≡ true → (s ≡ true) × (t ≡ true)
both_hold true t e = (refl, e)
both_hold false t e = absurd (true≢false (sym e))

-- and two that hold each hold together
pub hold_both : (s t : Bool) → s ≡ true → t ≡ true → s && t ≡ true
hold_both true t e f = f
hold_both false t e f = absurd (true≢false (sym e))

-- ---- answers as numbers

pub one_if_at_most : (t : Bool) → one_if t ≤ 1
one_if_at_most true = omega arith
one_if_at_most false = omega arith

pub one_if-one : (t : Bool) → one_if t ≡ 1 → t ≡ true
one_if-one true e = refl
one_if-one false e = absurd (omega (arith, e))

pub one_if-zero : (t : Bool) → one_if t ≡ 0 → t ≡ false
one_if-zero true e = absurd (omega (arith, e))
one_if-zero false e = refl
