-- How many units characters and texts have.
use Rattle.std.proofs.Common.{◌≡◌, ℕ, ◌+◌, ◌^◌, ◌<◌, ◌≤◌, ◌⊎◌, List, [], ◌∷◌, ◌++◌, length, IsUtf8, refl, sym, ap, ◌∙◌, inl, inr, arith, length-append}
use Rattle.std.proofs.Math.Utf8.{encode, encodes}
use Rattle.std.proofs.lemmas.Bool.{cases_lt, le-ltb}
use Rattle.std.proofs.lemmas.Str.{encodes-chars, length-encode, len_utf8_bounds}
use Rattle.std.proofs.str.Utf16.{one_unit, two_units}
use Rattle.std.specs.Char.{len_utf8}
use Rattle.std.specs.Char.Escape.{encode_utf16}
use Rattle.std.specs.List.{flat_map}
use Rattle.std.specs.Str.{chars}
use Rattle.yd_cols.specs.Column.{units_in}
use Rattle.yd_units.specs.Text.{units_of}
use Rattle.yd_units.proofs.TextLemmas.{units_of-step, units_of-nil}

-- a character has one unit, or two from 2^16 on
pub one_or_two : (c : ℕ) → ((c < 2 ^ 16) × (length (encode_utf16 c) ≡ 1)) ⊎ ((2 ^ 16 ≤ c) × (length (encode_utf16 c) ≡ 2))
one_or_two c = elim (cases_lt c (2 ^ 16)) [
  | inl lt ↦ inl (lt, ap length (one_unit c lt))
  | inr le ↦ inr (le, ap length (two_units c le))
]

-- how many they are is told by a number that is 1 or 2 so
pub unit_count : (c n : ℕ) → (c < 2 ^ 16 → n ≡ 1) → (2 ^ 16 ≤ c → n ≡ 2) → n ≡ length (encode_utf16 c)
unit_count c n one two = elim (one_or_two c) [
  | inl few ↦ one few.0 ∙ sym few.1
  | inr more ↦ two more.0 ∙ sym more.1
]

-- a character of two units has four bytes
long_bytes : (c : ℕ) → 2 ^ 16 ≤ c → len_utf8 c ≡ 4
long_bytes c le = rw (le-ltb c 0x80 (omega arith), le-ltb c 0x800 (omega arith), le-ltb c 0x1_0000 le) refl

pub units_within : (c : ℕ) → length (encode_utf16 c) ≤ length (encode c)
units_within c = elim (one_or_two c) [
  | inl one ↦ omega (arith, one.1, length-encode c, len_utf8_bounds c)
  | inr two ↦ omega (arith, two.1, length-encode c, long_bytes c two.0)
]

pub units_in-nil : units_in [] ≡ 0
units_in-nil = ap length units_of-nil

-- the units of a text, one character more
pub units_in-step : (bs rest : List ℕ) (c : ℕ) → IsUtf8 bs → bs ≡ encode c ++ rest → units_in bs ≡ length (encode_utf16 c) + units_in rest
units_in-step bs rest c is e = ap length (units_of-step bs rest c is e) ∙ length-append (encode_utf16 c) _

-- ---- whole texts

chars_within : (cs : List ℕ) → length (flat_map encode_utf16 cs) ≤ length (encodes cs)
chars_within [] = omega arith
chars_within (c ∷ cs) = omega (arith, units_within c, chars_within cs, length-append (encode_utf16 c) (flat_map encode_utf16 cs), length-append (encode c) (encodes cs))

-- a text has no more units than bytes
pub units_in-le : (text : List ℕ) → IsUtf8 text → units_in text ≤ length text
unfolding units_of
units_in-le text is = omega (arith, chars_within (chars text), ap length (encodes-chars text is))
