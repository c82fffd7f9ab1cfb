-- Signed numbers: a sign and six bits, and then groups of seven bits (lib0, variable-length signed integers).
use Rattle.std.specs.Prelude.{◌≡◌, ℕ, ◌+◌, ◌*◌, ◌%◌, ◌≤◌, false, List, [], ◌∷◌, length, Result, Ok, Err, nat_lt, nat_le, if◌then◌else◌}
use Rattle.yd_num.specs.declared.signed.Signed.{Signed}
use Rattle.yd_num.specs.Number.{IsTerminated, grouped_value, groups_at}
use Rattle.yd_num.specs.Reading.{Cause, short_input, ◌>>=◌}

-- ---- the grammar

-- bit 0x40 of the first byte is the sign, its low six bits stand below what the later bytes make
abbrev pub signed_number : ℕ → ℕ → Signed
signed_number first high = record { negative = nat_le 64 (first % 128); size = first % 64 + 64 * high }

-- the number that the bytes make
abbrev pub signed_value : List ℕ → Signed
signed_value [] = record { negative = false; size = 0 }
signed_value (first ∷ rest) = signed_number first (grouped_value rest)

-- the bytes spell the number, in the shortest form or padded
pub record SpellsSigned (bytes : List ℕ) (s : Signed) : Type 0 where
  pub terminated : IsTerminated bytes
  pub in_eight : length bytes ≤ 8
  pub value : signed_value bytes ≡ s

-- ---- reading

-- the signed number at the front
unfoldable pub signed_at : List ℕ → Result (Signed × List ℕ) Cause
signed_at [] = Err short_input
signed_at (first ∷ rest) = if nat_lt first 128 then Ok (signed_number first 0, rest) else (do
  high ← groups_at 7 rest
  Ok (signed_number first high.0, high.1))
