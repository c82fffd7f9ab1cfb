-- The units of one character, and the character that one or two units make.
use Rattle.std.proofs.Common.{◌≡◌, ℕ, ◌+◌, ◌-◌, ◌*◌, ◌/◌, ◌%◌, ◌^◌, ◌<◌, ◌≤◌, ◌⊎◌, true, List, [], ◌∷◌, get_or, None, Some, refl, inl, inr, arith}
use Rattle.std.proofs.Math.Utf8.{scalar, scalar_cases, low_scalar}
use Rattle.std.proofs.lemmas.Bool.{cases_lt, lt-ltb, le-ltb, le-leb}
use Rattle.std.proofs.str.Utf16.{one_unit, two_units, pair_units, lone_unit_char_low, lone_unit_char_high, lone_unit_char_surrogate, utf16_chars_lone, utf16_chars_pair}
use Rattle.std.specs.Char.Escape.{encode_utf16}
use Rattle.std.specs.Char.Utf16.{utf16_chars, lone_unit_char, surrogate_pair_char}
use Rattle.yd_units.specs.Half.{IsHigh, IsLow}

-- a character of one unit, which is no half
pub record IsOne (c : ℕ) : Type 0 where
  pub spelled : encode_utf16 c ≡ c ∷ []
  pub no_high : ¬ (IsHigh c)
  pub no_low : ¬ (IsLow c)
  pub fits : c < 2 ^ 16

-- a character of two units, which are a pair
pub record IsTwo (c : ℕ) : Type 0 where
  pub high : ℕ
  pub low : ℕ
  pub spelled : encode_utf16 c ≡ high ∷ low ∷ []
  pub is_high : IsHigh high
  pub is_low : IsLow low
  pub makes : surrogate_pair_char high low ≡ c

one_below : (c : ℕ) → c < 0xD800 → IsOne c
one_below c lt = record { spelled = one_unit c (omega arith); no_high = λ h. omega arith; no_low = λ h. omega arith; fits = omega arith }

one_above : (c : ℕ) → 0xE000 ≤ c → c < 0x1_0000 → IsOne c
one_above c le lt = record { spelled = one_unit c lt; no_high = λ h. omega arith; no_low = λ h. omega arith; fits = omega arith }

two_above : (c : ℕ) → 0x1_0000 ≤ c → c < 0x11_0000 → IsTwo c
two_above c le lt = record {
  high = 0xD800 + (c - 0x1_0000) / 0x400;
  low = 0xDC00 + (c - 0x1_0000) % 0x400;
  spelled = two_units c le;
  is_high = (omega arith, omega arith);
  is_low = (omega arith, omega arith);
  makes = omega arith;
}

high_scalar : (c : ℕ) → 0xE000 ≤ c → c < 0x11_0000 → scalar c ≡ true
high_scalar c le lt = rw (le-ltb c 0xD800 (omega arith), le-leb 0xE000 c le, lt-ltb c 0x11_0000 lt) refl

half_or : (lo hi u : ℕ) → ((lo ≤ u) × (u ≤ hi)) ⊎ ¬ ((lo ≤ u) × (u ≤ hi))
half_or lo hi u = elim (cases_lt u lo) [
  | inl lt ↦ inr (λ h. omega arith)
  | inr le ↦ elim (cases_lt hi u) [
    | inl lt ↦ inr (λ h. omega arith)
    | inr le' ↦ inl (le, le')
  ]
]

both_or : {A B : Type 0} → A ⊎ ¬ A → B ⊎ ¬ B → (A × B) ⊎ ¬ (A × B)
both_or (inl a) (inl b) = inl (a, b)
both_or (inl a) (inr fails) = inr (λ p. fails p.1)
both_or (inr fails) other = inr (λ p. fails p.0)

-- ---- lemmas for callers

-- a character has one unit or two
pub one_or_two : (c : ℕ) → scalar c ≡ true → IsOne c ⊎ IsTwo c
one_or_two c is = elim (scalar_cases c is) [
  | inl lt ↦ inl (one_below c lt)
  | inr h ↦ elim (cases_lt c 0x1_0000) [
    | inl lt ↦ inl (one_above c h.0 lt)
    | inr le ↦ inr (two_above c le h.1)
  ]
]

-- two units are partners or not
pub partners_or : (u v : ℕ) → (IsHigh u × IsLow v) ⊎ ¬ (IsHigh u × IsLow v)
partners_or u v = both_or (half_or 0xD800 0xDBFF u) (half_or 0xDC00 0xDFFF v)

-- two partners make one character
pub chars_pair : (u v : ℕ) (us : List ℕ) → IsHigh u → IsLow v → utf16_chars (u ∷ v ∷ us) ≡ Some (surrogate_pair_char u v) ∷ utf16_chars us
chars_pair u v us high low = utf16_chars_pair u v us (omega arith, omega arith, omega arith, omega arith)

-- a unit without a partner behind it makes one by itself, or none
pub chars_alone : (u : ℕ) (us : List ℕ) → ¬ (IsHigh u × IsLow (get_or us 0 0)) → utf16_chars (u ∷ us) ≡ lone_unit_char u ∷ utf16_chars us
chars_alone u us apart = utf16_chars_lone u us (λ pair. apart ((omega arith, omega arith), (omega arith, omega arith)))

-- a unit that is no half makes its own character, and a half none
pub char_plain : (u : ℕ) → ¬ (IsHigh u) → ¬ (IsLow u) → lone_unit_char u ≡ Some u
char_plain u no_high no_low = elim (cases_lt u 0xD800) [
  | inl lt ↦ lone_unit_char_low u lt
  | inr le ↦ elim (cases_lt u 0xE000) [
    | inl lt ↦ elim (cases_lt u 0xDC00) [
      | inl lt' ↦ absurd (no_high (le, omega arith))
      | inr le' ↦ absurd (no_low (le', omega arith))
    ]
    | inr le' ↦ lone_unit_char_high u le'
  ]
]

pub char_half : (u : ℕ) → IsHigh u ⊎ IsLow u → lone_unit_char u ≡ None
char_half u half = lone_unit_char_surrogate u (omega (arith, half)) (omega (arith, half))

-- the character of a pair is one of two units, and they are the pair
pub pair_spelled : (u v : ℕ) → IsHigh u → IsLow v → encode_utf16 (surrogate_pair_char u v) ≡ u ∷ v ∷ []
pair_spelled u v high low =
    let same : surrogate_pair_char u v ≡ 0x1_0000 + ((u - 0xD800) * 0x400 + (v - 0xDC00)) = omega arith in
    rw same (pair_units u v (omega arith) (omega arith) (omega arith))

pub pair_scalar : (u v : ℕ) → IsHigh u → IsLow v → scalar (surrogate_pair_char u v) ≡ true
pair_scalar u v high low = high_scalar (surrogate_pair_char u v) (omega arith) (omega arith)

-- a unit that is no half is the code of a character
pub plain_scalar : (u : ℕ) → ¬ (IsHigh u) → ¬ (IsLow u) → u < 2 ^ 16 → scalar u ≡ true
plain_scalar u no_high no_low lt = elim (cases_lt u 0xD800) [
  | inl lt ↦ low_scalar u lt
  | inr le ↦ elim (cases_lt u 0xE000) [
    | inl lt ↦ elim (cases_lt u 0xDC00) [
      | inl lt' ↦ absurd (no_high (le, omega arith))
      | inr le' ↦ absurd (no_low (le', omega arith))
    ]
    | inr le' ↦ high_scalar u le' (omega arith)
  ]
]

-- a unit is a high half, a low one, or none
pub half_cases : (u : ℕ) → (IsHigh u ⊎ IsLow u) ⊎ (¬ (IsHigh u) × ¬ (IsLow u))
half_cases u = elim (half_or 0xD800 0xDBFF u) [
  | inl high ↦ inl (inl high)
  | inr no_high ↦ elim (half_or 0xDC00 0xDFFF u) [
    | inl low ↦ inl (inr low)
    | inr no_low ↦ inr (no_high, no_low)
  ]
]
