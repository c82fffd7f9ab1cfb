-- Signed numbers as they are written: they spell their value in the fewest bytes.
use Rattle.std.proofs.Common.{◌≡◌, ℕ, ◌+◌, ◌*◌, ◌/◌, ◌%◌, ◌^◌, ◌<◌, ◌≤◌, Bool, true, false, List, [], ◌∷◌, length, refl, sym, ap, ◌∙◌, inl, inr, arith}
use Rattle.std.proofs.lemmas.Bool.{cases_lt, lt-ltb, le-ltb, le-leb, lt-leb}
use Rattle.yd_num.specs.declared.signed.Signed.{Signed}
use Rattle.yd_num.specs.Law.{IsShortest}
use Rattle.yd_num.specs.Number.{IsTerminated, grouped_value}
use Rattle.yd_num.specs.Signed.{signed_number, signed_value, SpellsSigned}
use Rattle.yd_num.specs.Writing.{shortest, shortest_groups, shortest_signed, first_bits}
use Rattle.yd_num.proofs.NumberLemmas.{terminated-cons}
use Rattle.yd_num.proofs.ShortestLemmas.{groups_spell, unsigned_spells, value_least}

signed-last : (s : Signed) → s.size < 64 → shortest_signed s ≡ first_bits s ∷ []
unfolding shortest_signed
signed-last s lt = rw (lt-ltb s.size 64 lt) refl

signed-more : (s : Signed) → 64 ≤ s.size → shortest_signed s ≡ (first_bits s + 128) ∷ shortest (s.size / 64)
unfolding shortest_signed
signed-more s le = rw (le-ltb s.size 64 le) refl

-- a first byte has the sign and the low bits of which it was made, with bit 0x80 or without it
made_of : (negative : Bool) (size more high : ℕ) → more % 128 ≡ 0 → signed_number (first_bits (record { negative = negative; size = size }) + more) high ≡ record { negative = negative; size = size % 64 + 64 * high }
made_of true size more high no_bits =
    let low : (size % 64 + 64 + more) % 64 ≡ size % 64 = omega arith in
    rw (le-leb 64 ((size % 64 + 64 + more) % 128) (omega arith), low) refl
made_of false size more high no_bits =
    let low : (size % 64 + 0 + more) % 64 ≡ size % 64 = omega arith in
    rw (lt-leb 64 ((size % 64 + 0 + more) % 128) (omega arith), low) refl

-- so the number that it begins is whole, if what stands behind it is the rest
made_again : (s : Signed) (more high : ℕ) → more % 128 ≡ 0 → high ≡ s.size / 64 → signed_number (first_bits s + more) high ≡ s
made_again s more high no_bits rest =
    let size : s.size % 64 + 64 * high ≡ s.size = omega arith in
    made_of s.negative s.size more high no_bits ∙ ap (λ (n : ℕ). record { negative = s.negative; size = n }) size

first_fits : (negative : Bool) (size : ℕ) → first_bits (record { negative = negative; size = size }) < 128
first_fits true size = omega arith
first_fits false size = omega arith

spells_last : (s : Signed) → s.size < 64 → SpellsSigned (shortest_signed s) s
spells_last s lt =
    let whole : first_bits s ≡ first_bits s + 0 = omega arith in
    rw (signed-last s lt) (record {
      terminated = first_fits s.negative s.size;
      in_eight = omega arith;
      value = ap (λ (b : ℕ). signed_number b 0) whole ∙ made_again s 0 0 (omega arith) (omega arith);
    })

-- the rest of a size takes at most seven bytes
in_seven : (v : ℕ) → v < 2 ^ 49 → length (shortest v) ≤ 7
in_seven v lt =
    let seven = groups_spell 6 v (omega arith) in
    omega (arith, seven.within, ap (λ (n : ℕ). length (shortest n)) seven.value, value_least (shortest_groups 7 v) seven.terminated)

spells_more : (s : Signed) → 64 ≤ s.size → s.size < 2 ^ 55 → SpellsSigned (shortest_signed s) s
spells_more s le lt =
    let high = unsigned_spells (s.size / 64) (omega arith) in
    rw (signed-more s le) (record {
      terminated = terminated-cons (first_bits s + 128) (shortest (s.size / 64)) (omega arith) high.terminated;
      in_eight = omega (arith, in_seven (s.size / 64) (omega arith));
      value = made_again s 128 (grouped_value (shortest (s.size / 64))) (omega arith) high.value;
    })

-- behind the first byte of a size past six bits stand groups of the rest
terminated-behind : (b : ℕ) (rest : List ℕ) → 0 < grouped_value rest → IsTerminated (b ∷ rest) → IsTerminated rest
terminated-behind b [] some is = absurd (omega arith)
terminated-behind b (c ∷ rest) some is = is.1

signed_value_least : (bytes : List ℕ) → IsTerminated bytes → length (shortest_signed (signed_value bytes)) ≤ length bytes
signed_value_least [] is = absurd is
signed_value_least (b ∷ rest) is =
    let s : Signed = signed_number b (grouped_value rest) in
    elim (cases_lt s.size 64) [
      | inl lt ↦ rw (signed-last s lt) (omega arith)
      | inr le ↦
          let high : s.size / 64 ≡ grouped_value rest = omega arith in
          rw (signed-more s le, high) (omega (arith, value_least rest (terminated-behind b rest (omega arith) is)))
    ]

-- ---- lemmas for callers

pub signed_spells : (s : Signed) → s.size < 2 ^ 55 → SpellsSigned (shortest_signed s) s
signed_spells s lt =
    elim (cases_lt s.size 64) [
      | inl small ↦ spells_last s small
      | inr le ↦ spells_more s le lt
    ]

pub signed_least : IsShortest SpellsSigned shortest_signed
signed_least bytes s spells = rw (sym spells.value) (signed_value_least bytes spells.terminated)
