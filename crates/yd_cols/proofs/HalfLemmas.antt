-- Half of a number, rounded down, and what is left over.
use Rattle.std.proofs.Common.{◌≡◌, ◌∙◌, ◌+◌, ◌/◌, ◌%◌, ℕ, zero, suc, ℤ, pos, neg_ℤ, ◌+ℤ◌, ◌*ℤ◌, Bool, true, false, if◌then◌else◌, ◌<◌, nat_eq, refl, sym, inl, inr, ◌⊎◌, arith}
use Rattle.std.proofs.lemmas.Int.{ints}
use Rattle.yd_cols.specs.Column.{integer_of}
use Rattle.yd_cols.specs.Reading.{half_of}
use Rattle.yd_num.specs.declared.signed.Signed.{Signed}

-- one, where there is something left over
abbrev pub left_over : Bool → ℤ
left_over more = if more then pos 1 else pos 0

odd_pos : (s : ℕ) → s % 2 ≡ 1 → pos s ≡ (pos 2 *ℤ pos (s / 2)) +ℤ pos 1
odd_pos s odd = omega (arith, ints, odd)

even_pos : (s : ℕ) → s % 2 ≡ 0 → pos s ≡ (pos 2 *ℤ pos (s / 2)) +ℤ pos 0
even_pos s even = omega (arith, ints, even)

odd_neg : (s : ℕ) → s % 2 ≡ 1 → neg_ℤ (pos s) ≡ (pos 2 *ℤ neg_ℤ (pos ((s + 1) / 2))) +ℤ pos 1
odd_neg s odd = omega (arith, ints, odd)

even_neg : (s : ℕ) → s % 2 ≡ 0 → neg_ℤ (pos s) ≡ (pos 2 *ℤ neg_ℤ (pos ((s + 1) / 2))) +ℤ pos 0
even_neg s even = omega (arith, ints, even)

-- the two parities
parity : (s : ℕ) → ((s % 2 ≡ 0) × (nat_eq (s % 2) 1 ≡ false)) ⊎ ((s % 2 ≡ 1) × (nat_eq (s % 2) 1 ≡ true))
parity s = by_rest (s % 2) (omega arith)
  where
    by_rest : (r : ℕ) → r < 2 → ((r ≡ 0) × (nat_eq r 1 ≡ false)) ⊎ ((r ≡ 1) × (nat_eq r 1 ≡ true))
    by_rest zero small = inl (refl, refl)
    by_rest (suc zero) small = inr (refl, refl)
    by_rest (suc (suc r)) small = absurd (omega (arith, small))

-- a number is twice its half, and what is left over
pub doubled_half : (n : Signed) → integer_of n ≡ (pos 2 *ℤ half_of n) +ℤ left_over (nat_eq (n.size % 2) 1)
doubled_half n = by_sign n.negative refl
  where
    by_sign : (negative : Bool) → n.negative ≡ negative → integer_of n ≡ (pos 2 *ℤ half_of n) +ℤ left_over (nat_eq (n.size % 2) 1)
    by_sign true is = elim (parity n.size) [
      | inl even ↦ rw (is, even.1) (even_neg n.size even.0)
      | inr odd ↦ rw (is, odd.1) (odd_neg n.size odd.0)
    ]
    by_sign false is = elim (parity n.size) [
      | inl even ↦ rw (is, even.1) (even_pos n.size even.0)
      | inr odd ↦ rw (is, odd.1) (odd_pos n.size odd.0)
    ]

-- two numbers that are twice something and at most one more are the same in both
one_half : (x y : ℤ) (more other : Bool) → (pos 2 *ℤ x) +ℤ left_over more ≡ (pos 2 *ℤ y) +ℤ left_over other → (x ≡ y) × (more ≡ other)
one_half x y true true same = (omega (arith, ints, same), refl)
one_half x y false false same = (omega (arith, ints, same), refl)
one_half x y true false same = absurd (omega (arith, ints, same))
one_half x y false true same = absurd (omega (arith, ints, same))

-- what a number is twice of is its half
pub half_is : (n : Signed) (d : ℤ) (more : Bool) → integer_of n ≡ (pos 2 *ℤ d) +ℤ left_over more → (half_of n ≡ d) × (nat_eq (n.size % 2) 1 ≡ more)
half_is n d more is = one_half (half_of n) d (nat_eq (n.size % 2) 1) more (sym (doubled_half n) ∙ is)
