-- Numbers: each fault comes for just the bytes that have it.
use Rattle.std.proofs.Common.{◌≡◌, ℕ, zero, suc, ◌^◌, ◌<◌, ◌≤◌, List, [], ◌∷◌, ◌++◌, length, Err, refl, ap, inl, inr, arith, length-append}
use Rattle.std.proofs.Math.Nat.{pow-le-pow_right, pow-suc}
use Rattle.std.proofs.lemmas.Bool.{cases_lt, lt-ltb, le-ltb}
use Rattle.yd_num.specs.Grammar.{Begins, EndsInside}
use Rattle.yd_num.specs.Law.{Fails, Never}
use Rattle.yd_num.specs.Number.{IsTerminated, grouped_value, SpellsUnsigned, SayMore, IsPast, IsTooLong, IsTooLarge, groups_at, unsigned_at}
use Rattle.yd_num.specs.Reading.{short_input, number_too_large}
use Rattle.yd_num.proofs.FaultLemmas.{Finds, value, short, large, fails_from}
use Rattle.yd_num.proofs.NumberLemmas.{groups_again, terminated-cons}

-- what stands at the front: the groups of a number, groups that end too early, or too many groups
pub data Front (most : ℕ) (bytes : List ℕ) : Type 0 where
  number : (field rest : List ℕ) → IsTerminated field → length field ≤ most → bytes ≡ field ++ rest → Front most bytes
  few : SayMore bytes → length bytes < most → Front most bytes
  many : (front back : List ℕ) → SayMore front → length front ≡ most → bytes ≡ front ++ back → Front most bytes

front-cons : (most b : ℕ) (bytes : List ℕ) → 128 ≤ b → Front most bytes → Front (suc most) (b ∷ bytes)
front-cons most b bytes more (number field rest is within joined) = number (b ∷ field) rest (terminated-cons b field more is) (omega arith) (ap (λ (l : List ℕ). b ∷ l) joined)
front-cons most b bytes more (few all lt) = few (more, all) (omega arith)
front-cons most b bytes more (many front back all len joined) = many (b ∷ front) back (more, all) (omega arith) (ap (λ (l : List ℕ). b ∷ l) joined)

pub front_of : (most : ℕ) (bytes : List ℕ) → Front most bytes
front_of zero bytes = many [] bytes tt refl refl
front_of (suc most) [] = few tt (omega arith)
front_of (suc most) (b ∷ bytes) =
    elim (cases_lt b 128) [
      | inl lt ↦ number (b ∷ []) bytes lt (omega arith) refl
      | inr le ↦ front-cons most b bytes le (front_of most bytes)
    ]

-- groups that end too early
pub groups_few : (most : ℕ) (bytes : List ℕ) → SayMore bytes → length bytes < most → groups_at most bytes ≡ Err short_input
unfolding groups_at
groups_few zero bytes all lt = absurd (omega arith)
groups_few (suc most) [] all lt = refl
groups_few (suc most) (b ∷ bytes) all lt = rw (le-ltb b 128 all.0, groups_few most bytes all.1 (omega arith)) refl

-- too many groups
pub groups_many : (most : ℕ) (front back : List ℕ) → SayMore front → length front ≡ most → groups_at most (front ++ back) ≡ Err number_too_large
unfolding groups_at
groups_many zero [] back all len = refl
groups_many zero (b ∷ front) back all len = absurd (omega arith)
groups_many (suc most) [] back all len = absurd (omega arith)
groups_many (suc most) (b ∷ front) back all len = rw (le-ltb b 128 all.0, groups_many most front back all.1 (omega arith)) refl

-- before more bytes of a number, each byte says that more follow
terminated-more : (b : ℕ) (bytes : List ℕ) → 0 < length bytes → IsTerminated (b ∷ bytes) → (128 ≤ b) × IsTerminated bytes
terminated-more b [] some is = absurd (omega arith)
terminated-more b (c ∷ rest) some is = is

pub terminated-append : (bytes more : List ℕ) → 0 < length more → IsTerminated (bytes ++ more) → SayMore bytes
terminated-append [] more some is = tt
terminated-append (b ∷ bytes) more some is =
    let parts = terminated-more b (bytes ++ more) (omega (arith, length-append bytes more)) is in
    (parts.0, terminated-append bytes more some parts.1)

-- one byte 0 ends a number
pub terminated-zero : (bytes : List ℕ) → SayMore bytes → IsTerminated (bytes ++ 0 ∷ [])
terminated-zero [] all = omega arith
terminated-zero (b ∷ bytes) all = terminated-cons b (bytes ++ 0 ∷ []) all.0 (terminated-zero bytes all.1)

value-zero : (bytes : List ℕ) → grouped_value (bytes ++ 0 ∷ []) < 128 ^ length bytes
value-zero [] = omega arith
value-zero (b ∷ bytes) = rw (pow-suc 128 (length bytes)) (omega (arith, value-zero bytes))

ends_inside : (bytes : List ℕ) → SayMore bytes → length bytes < 8 → EndsInside SpellsUnsigned bytes
ends_inside bytes all lt =
    let weight : 128 ^ length bytes ≤ 128 ^ 7 = pow-le-pow_right {n = 128} (omega arith) {i = length bytes} {j = 7} (omega arith) in (
      0 ∷ [],
      grouped_value (bytes ++ 0 ∷ []),
      omega arith,
      record {
        terminated = terminated-zero bytes all;
        in_eight = omega (arith, length-append bytes (0 ∷ []));
        value = refl;
        in_range = omega (arith, value-zero bytes);
      },
    )

unsigned_few : (bytes : List ℕ) → SayMore bytes → length bytes < 8 → unsigned_at bytes ≡ Err short_input
unfolding unsigned_at
unsigned_few bytes all lt = rw (groups_few 8 bytes all lt) refl

unsigned_long : (bytes : List ℕ) → IsTooLong bytes → unsigned_at bytes ≡ Err number_too_large
unfolding unsigned_at
unsigned_long bytes long = rw (long.joined, groups_many 8 long.front long.back long.is_front.say_more long.is_front.are_eight) refl

unsigned_past : (bytes : List ℕ) → Begins IsPast bytes → unsigned_at bytes ≡ Err number_too_large
unfolding unsigned_at
unsigned_past bytes past =
    rw (past.joined, groups_again 8 past.front past.back past.is_front.terminated past.is_front.in_eight, le-ltb (grouped_value past.front) (2 ^ 53) past.is_front.past) refl

-- what reading a number finds
abbrev pub NumberFinds : List ℕ → Type 0
NumberFinds bytes = Finds (unsigned_at bytes) (EndsInside SpellsUnsigned bytes) (IsTooLarge bytes) ⊥

number_finds : (bytes field rest : List ℕ) → IsTerminated field → length field ≤ 8 → bytes ≡ field ++ rest → NumberFinds bytes
unfolding unsigned_at
number_finds bytes field rest is within joined =
    elim (cases_lt (grouped_value field) (2 ^ 53)) [
      | inl lt ↦ value (grouped_value field, rest) (rw (joined, groups_again 8 field rest is within, lt-ltb (grouped_value field) (2 ^ 53) lt) refl)
      | inr le ↦
          let past : Begins IsPast bytes = record { front = field; back = rest; is_front = record { terminated = is; in_eight = within; past = le }; is_back = tt; joined = joined } in
          large (inr past) (unsigned_past bytes past)
    ]

front_finds : (bytes : List ℕ) → Front 8 bytes → NumberFinds bytes
front_finds bytes (number field rest is within joined) = number_finds bytes field rest is within joined
front_finds bytes (few all lt) = short (ends_inside bytes all lt) (unsigned_few bytes all lt)
front_finds bytes (many front back all len joined) =
    let long : IsTooLong bytes = record { front = front; back = back; is_front = record { say_more = all; are_eight = len }; is_back = tt; joined = joined } in
    large (inl long) (unsigned_long bytes long)

-- ---- lemmas for callers

pub unsigned_finds : (bytes : List ℕ) → NumberFinds bytes
unsigned_finds bytes = front_finds bytes (front_of 8 bytes)

pub unsigned_short : (bytes : List ℕ) → EndsInside SpellsUnsigned bytes → unsigned_at bytes ≡ Err short_input
unsigned_short bytes inside =
    unsigned_few bytes (terminated-append bytes inside.0 inside.2 inside.3.terminated) (omega (arith, length-append bytes inside.0, inside.2, inside.3.in_eight))

pub unsigned_large : (bytes : List ℕ) → IsTooLarge bytes → unsigned_at bytes ≡ Err number_too_large
unsigned_large bytes (inl long) = unsigned_long bytes long
unsigned_large bytes (inr past) = unsigned_past bytes past

pub unsigned_fails : Fails unsigned_at (EndsInside SpellsUnsigned) IsTooLarge Never
unsigned_fails = fails_from unsigned_at (EndsInside SpellsUnsigned) IsTooLarge Never unsigned_finds unsigned_short unsigned_large (λ bytes. absurd)
