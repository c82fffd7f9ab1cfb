-- Numbers in groups of seven bits, the least significant first (lib0, variable-length unsigned integers).
use Rattle.std.specs.Prelude.{◌≡◌, ℕ, zero, suc, ◌+◌, ◌*◌, ◌%◌, ◌^◌, ◌<◌, ◌≤◌, ◌⊎◌, List, [], ◌∷◌, length, Result, Ok, Err, nat_lt, if◌then◌else◌}
use Rattle.std.specs.List.{AllByRecursion}
use Rattle.yd_num.specs.Grammar.{Begins}
use Rattle.yd_num.specs.Reading.{Cause, short_input, number_too_large, ◌>>=◌}

-- ---- the grammar

-- every byte but the last says that more follow
abbrev pub IsTerminated : List ℕ → Type 0
IsTerminated [] = ⊥
IsTerminated (b ∷ []) = b < 128
IsTerminated (b ∷ c ∷ rest) = (128 ≤ b) × IsTerminated (c ∷ rest)

-- the number that the low seven bits of the bytes make
abbrev pub grouped_value : List ℕ → ℕ
grouped_value [] = 0
grouped_value (b ∷ rest) = b % 128 + 128 * grouped_value rest

-- the bytes spell the number, in the shortest form or padded
pub record SpellsUnsigned (bytes : List ℕ) (v : ℕ) : Type 0 where
  pub terminated : IsTerminated bytes
  pub in_eight : length bytes ≤ 8
  pub value : grouped_value bytes ≡ v
  pub in_range : v < 2 ^ 53

-- every byte says that more follow
abbrev pub SayMore : List ℕ → Type 0
SayMore bytes = AllByRecursion (λ b. 128 ≤ b) bytes

-- eight bytes that all say that more follow
pub record IsLong (bytes : List ℕ) : Type 0 where
  pub say_more : SayMore bytes
  pub are_eight : length bytes ≡ 8

-- at most eight bytes that make a number past 2^53-1
pub record IsPast (bytes : List ℕ) : Type 0 where
  pub terminated : IsTerminated bytes
  pub in_eight : length bytes ≤ 8
  pub past : 2 ^ 53 ≤ grouped_value bytes

-- the number at the front is longer than eight bytes
abbrev pub IsTooLong : List ℕ → Type 0
IsTooLong bytes = Begins IsLong bytes

-- the number at the front is longer than eight bytes, or past 2^53-1
abbrev pub IsTooLarge : List ℕ → Type 0
IsTooLarge bytes = IsTooLong bytes ⊎ Begins IsPast bytes

-- ---- reading

-- one byte, as it stands
abbrev pub byte_at : List ℕ → Result (ℕ × List ℕ) Cause
byte_at [] = Err short_input
byte_at (b ∷ rest) = Ok (b, rest)

-- the number of at most so many bytes at the front
unfoldable pub groups_at : ℕ → List ℕ → Result (ℕ × List ℕ) Cause
groups_at zero bytes = Err number_too_large
groups_at (suc most) [] = Err short_input
groups_at (suc most) (b ∷ rest) = if nat_lt b 128 then Ok (b, rest) else (do
  high ← groups_at most rest
  Ok (b % 128 + 128 * high.0, high.1))

-- the unsigned number at the front
unfoldable pub unsigned_at : List ℕ → Result (ℕ × List ℕ) Cause
unsigned_at bytes = do
  number ← groups_at 8 bytes
  if nat_lt number.0 (2 ^ 53) then Ok number else Err number_too_large
