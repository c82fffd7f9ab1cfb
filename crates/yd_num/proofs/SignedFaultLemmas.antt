-- Signed numbers: each fault comes for just the bytes that have it.
use Rattle.std.proofs.Common.{◌≡◌, ℕ, ◌<◌, List, [], ◌∷◌, ◌++◌, length, Err, refl, arith, length-append}
use Rattle.std.proofs.lemmas.Bool.{le-ltb}
use Rattle.yd_num.specs.Grammar.{EndsInside}
use Rattle.yd_num.specs.Law.{Fails, Never}
use Rattle.yd_num.specs.Number.{SayMore, IsTooLong}
use Rattle.yd_num.specs.Reading.{short_input, number_too_large}
use Rattle.yd_num.specs.Signed.{SpellsSigned, signed_value, signed_at}
use Rattle.yd_num.proofs.FaultLemmas.{Finds, value, short, large, fails_from}
use Rattle.yd_num.proofs.NumberFaultLemmas.{Front, number, few, many, front_of, groups_few, groups_many, terminated-append, terminated-zero}
use Rattle.yd_num.proofs.SignedLemmas.{signed_again}

signed_few : (bytes : List ℕ) → SayMore bytes → length bytes < 8 → signed_at bytes ≡ Err short_input
unfolding signed_at
signed_few [] all lt = refl
signed_few (b ∷ bytes) all lt = rw (le-ltb b 128 all.0, groups_few 7 bytes all.1 (omega arith)) refl

signed_many : (front back : List ℕ) → SayMore front → length front ≡ 8 → signed_at (front ++ back) ≡ Err number_too_large
unfolding signed_at
signed_many [] back all len = absurd (omega arith)
signed_many (b ∷ front) back all len = rw (le-ltb b 128 all.0, groups_many 7 front back all.1 (omega arith)) refl

signed_long : (bytes : List ℕ) → IsTooLong bytes → signed_at bytes ≡ Err number_too_large
signed_long bytes long = rw (long.joined) (signed_many long.front long.back long.is_front.say_more long.is_front.are_eight)

-- with one byte 0 behind them, the bytes are a number
signed_inside : (bytes : List ℕ) → SayMore bytes → length bytes < 8 → EndsInside SpellsSigned bytes
signed_inside bytes all lt = (
  0 ∷ [],
  signed_value (bytes ++ 0 ∷ []),
  omega arith,
  record { terminated = terminated-zero bytes all; in_eight = omega (arith, length-append bytes (0 ∷ [])); value = refl },
)

-- what reading a signed number finds
abbrev SignedFinds : List ℕ → Type 0
SignedFinds bytes = Finds (signed_at bytes) (EndsInside SpellsSigned bytes) (IsTooLong bytes) ⊥

front_finds : (bytes : List ℕ) → Front 8 bytes → SignedFinds bytes
front_finds bytes (number field rest is within joined) = value (signed_value field, rest) (rw joined (signed_again field rest is within))
front_finds bytes (few all lt) = short (signed_inside bytes all lt) (signed_few bytes all lt)
front_finds bytes (many front back all len joined) =
    let long : IsTooLong bytes = record { front = front; back = back; is_front = record { say_more = all; are_eight = len }; is_back = tt; joined = joined } in
    large long (signed_long bytes long)

signed_short : (bytes : List ℕ) → EndsInside SpellsSigned bytes → signed_at bytes ≡ Err short_input
signed_short bytes inside =
    signed_few bytes (terminated-append bytes inside.0 inside.2 inside.3.terminated) (omega (arith, length-append bytes inside.0, inside.2, inside.3.in_eight))

-- ---- lemmas for callers

pub signed_fails : Fails signed_at (EndsInside SpellsSigned) IsTooLong Never
signed_fails = fails_from signed_at (EndsInside SpellsSigned) IsTooLong Never (λ bytes. front_finds bytes (front_of 8 bytes)) signed_short signed_long (λ bytes. absurd)
