-- A reading's faults: each comes for just the bytes that have it.
use Rattle.std.proofs.Common.{◌≡◌, ℕ, ◌<◌, List, [], ◌∷◌, length, take, drop, Result, Ok, Err, refl, inl, inr}
use Rattle.std.proofs.lemmas.Bool.{cases_lt, lt-ltb, le-ltb}
use Rattle.yd_num.specs.Law.{Fails, Never}
use Rattle.yd_num.specs.Number.{byte_at}
use Rattle.yd_num.specs.Reading.{Cause, short_input, number_too_large, bad_utf8}
use Rattle.yd_num.specs.Text.{bytes_at}

-- what reading some bytes finds: a value, or one of the faults
pub data Finds {A : Type 0} (reading : Result A Cause) (Short Large Bad : Type 0) : Type 0 where
  value : (x : A) → reading ≡ Ok x → Finds reading Short Large Bad
  short : Short → reading ≡ Err short_input → Finds reading Short Large Bad
  large : Large → reading ≡ Err number_too_large → Finds reading Short Large Bad
  bad : Bad → reading ≡ Err bad_utf8 → Finds reading Short Large Bad

short_found : {A Short Large Bad : Type 0} (reading : Result A Cause) → Finds reading Short Large Bad → reading ≡ Err short_input → Short
short_found reading (value x is) e = absurd cc
short_found reading (short why is) e = why
short_found reading (large why is) e = absurd cc
short_found reading (bad why is) e = absurd cc

large_found : {A Short Large Bad : Type 0} (reading : Result A Cause) → Finds reading Short Large Bad → reading ≡ Err number_too_large → Large
large_found reading (value x is) e = absurd cc
large_found reading (short why is) e = absurd cc
large_found reading (large why is) e = why
large_found reading (bad why is) e = absurd cc

bad_found : {A Short Large Bad : Type 0} (reading : Result A Cause) → Finds reading Short Large Bad → reading ≡ Err bad_utf8 → Bad
bad_found reading (value x is) e = absurd cc
bad_found reading (short why is) e = absurd cc
bad_found reading (large why is) e = absurd cc
bad_found reading (bad why is) e = why

-- ---- lemmas for callers

-- each condition gives its fault, and what reading finds meets one
pub fails_from : {X : Type 0} (read : List ℕ → Result (X × List ℕ) Cause) (IsShort IsLarge IsBad : List ℕ → Type 0)
    → ((bytes : List ℕ) → Finds (read bytes) (IsShort bytes) (IsLarge bytes) (IsBad bytes))
    → ((bytes : List ℕ) → IsShort bytes → read bytes ≡ Err short_input)
    → ((bytes : List ℕ) → IsLarge bytes → read bytes ≡ Err number_too_large)
    → ((bytes : List ℕ) → IsBad bytes → read bytes ≡ Err bad_utf8)
    → Fails read IsShort IsLarge IsBad
fails_from read IsShort IsLarge IsBad finds is_short is_large is_bad = record {
  short = λ bytes. (short_found (read bytes) (finds bytes), is_short bytes);
  large = λ bytes. (large_found (read bytes) (finds bytes), is_large bytes);
  bad = λ bytes. (bad_found (read bytes) (finds bytes), is_bad bytes);
}

-- ---- one byte

byte_finds : (bytes : List ℕ) → Finds (byte_at bytes) (bytes ≡ []) ⊥ ⊥
byte_finds [] = short refl refl
byte_finds (b ∷ rest) = value (b, rest) refl

pub byte_fails : Fails byte_at (λ bytes. bytes ≡ []) Never Never
byte_fails = fails_from byte_at (λ bytes. bytes ≡ []) Never Never byte_finds (λ bytes none. rw none refl) (λ bytes. absurd) (λ bytes. absurd)

-- ---- so many bytes

pub bytes_short : (count : ℕ) (bytes : List ℕ) → length bytes < count → bytes_at count bytes ≡ Err short_input
unfolding bytes_at
bytes_short count bytes lt = rw (lt-ltb (length bytes) count lt) refl

pub bytes_finds : (count : ℕ) (bytes : List ℕ) → Finds (bytes_at count bytes) (length bytes < count) ⊥ ⊥
unfolding bytes_at
bytes_finds count bytes =
    elim (cases_lt (length bytes) count) [
      | inl lt ↦ short lt (bytes_short count bytes lt)
      | inr le ↦ value (take count bytes, drop count bytes) (rw (le-ltb (length bytes) count le) refl)
    ]

pub bytes_fails : (count : ℕ) → Fails (bytes_at count) (λ bytes. length bytes < count) Never Never
bytes_fails count = fails_from (bytes_at count) (λ bytes. length bytes < count) Never Never (bytes_finds count) (bytes_short count) (λ bytes. absurd) (λ bytes. absurd)
