-- Groups of seven bits, read one after the other as a loop does.
use Rattle.std.proofs.Common.{◌≡◌, ℕ, suc, ◌+◌, ◌-◌, ◌*◌, ◌%◌, ◌^◌, ◌<◌, ◌≤◌, List, length, get_or, drop, Result, Ok, Err, refl, ap, arith, add-one}
use Rattle.std.proofs.Math.Nat.{pow-suc, mul-le-mul_right}
use Rattle.std.proofs.lemmas.Bool.{lt-ltb, le-ltb}
use Rattle.std.proofs.lemmas.List.{drop_all, drop_more}
use Rattle.yd_num.specs.Reading.{Cause, short_input, number_too_large, ◌>>=◌}
use Rattle.yd_num.specs.Number.{groups_at}

-- the groups that were read stand below what is still read
abbrev pub behind : ℕ → ℕ → Result (ℕ × List ℕ) Cause → Result (ℕ × List ℕ) Cause
behind value weight reading = reading >>= λ high. Ok (value + weight * high.0, high.1)

-- ---- lemmas for callers

regroup : (value weight low : ℕ) (reading : Result (ℕ × List ℕ) Cause) → behind value weight (reading >>= λ high. Ok (low + 128 * high.0, high.1)) ≡ behind (value + low * weight) (weight * 128) reading
regroup value weight low (Ok x) = let e : value + weight * (low + 128 * x.0) ≡ value + low * weight + weight * 128 * x.0 = omega arith in ap (λ (n : ℕ). Ok (n, x.1)) e
regroup value weight low (Err e) = refl

-- one group that says more follow
pub groups_more : (value weight most i : ℕ) (bytes : List ℕ) (low : ℕ) → i < most → i < length bytes → low ≡ get_or bytes i 0 % 128 → 128 ≤ get_or bytes i 0
    → behind value weight (groups_at (most - i) (drop i bytes)) ≡ behind (value + low * weight) (weight * 128) (groups_at (most - (i + 1)) (drop (i + 1) bytes))
unfolding groups_at
groups_more value weight most i bytes low lt within is le =
    let left : most - i ≡ suc (most - (i + 1)) = omega arith in
    rw (left, drop_more bytes i 0 within, le-ltb (get_or bytes i 0) 128 le, is) (regroup value weight (get_or bytes i 0 % 128) (groups_at (most - (i + 1)) (drop (i + 1) bytes)))

-- the last group
pub groups_end : (value weight most i : ℕ) (bytes : List ℕ) (low : ℕ) → i < most → i < length bytes → low ≡ get_or bytes i 0 % 128 → get_or bytes i 0 < 128
    → behind value weight (groups_at (most - i) (drop i bytes)) ≡ Ok (value + low * weight, drop (i + 1) bytes)
unfolding groups_at
groups_end value weight most i bytes low lt within is small =
    let left : most - i ≡ suc (most - (i + 1)) = omega arith in
    let same : value + weight * get_or bytes i 0 ≡ value + low * weight = grind arith in
    rw (left, drop_more bytes i 0 within, lt-ltb (get_or bytes i 0) 128 small) (ap (λ (n : ℕ). Ok (n, drop (i + 1) bytes)) same)

-- no byte is left
pub groups_short : (value weight most i : ℕ) (bytes : List ℕ) → i < most → i ≡ length bytes
    → behind value weight (groups_at (most - i) (drop i bytes)) ≡ Err short_input
unfolding groups_at
groups_short value weight most i bytes lt e =
    let left : most - i ≡ suc (most - (i + 1)) = omega arith in
    rw (left, drop_all i bytes (omega arith)) refl

-- no group is left
pub groups_long : (value weight most i : ℕ) (bytes : List ℕ) → most ≤ i
    → behind value weight (groups_at (most - i) (drop i bytes)) ≡ Err number_too_large
unfolding groups_at
groups_long value weight most i bytes le = let none : most - i ≡ 0 = omega arith in rw none refl

-- the next group's weight
pub weighs_more : (weight i : ℕ) → weight ≡ 128 ^ i → weight * 128 ≡ 128 ^ (i + 1)
weighs_more weight i e = rw (add-one, pow-suc 128 i) (ap (λ (n : ℕ). n * 128) e)

-- seven bits of a weight are below the next weight
pub weight_grows : (low weight : ℕ) → low < 128 → low * weight ≤ 127 * weight
weight_grows low weight lt = mul-le-mul_right weight (omega arith)
