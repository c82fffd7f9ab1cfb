-- Keys that are known, by their numbers.
use Rattle.std.proofs.Common.{◌≡◌, ◌<◌, ◌≤◌, ℕ, zero, suc, List, [], ◌∷◌, ◌++◌, length, get_or, Some, None, Bor, refl, ap, arith}
use Rattle.yd_v2.specs.KnownView.{keys_of}
use Rattle.yd_v2.specs.Plan.{key_of_number}

-- a number below how many are known has its key
pub key_within : (known : List (Bor (List ℕ))) (n : ℕ) (d : Bor (List ℕ)) → n < length known → key_of_number (keys_of known) n ≡ Some (get_or known n d).now
key_within [] n d within = absurd (omega (arith, within))
key_within (key ∷ known) zero d within = refl
key_within (key ∷ known) (suc n) d within = key_within known n d (omega (arith, within))

-- a greater number has none
pub key_past : (known : List (Bor (List ℕ))) (n : ℕ) → length known ≤ n → key_of_number (keys_of known) n ≡ None
key_past [] n past = refl
key_past (key ∷ known) zero past = absurd (omega (arith, past))
key_past (key ∷ known) (suc n) past = key_past known n (omega (arith, past))

-- one more key
pub keys_with_last : (known : List (Bor (List ℕ))) (key : Bor (List ℕ)) → keys_of (known ++ key ∷ []) ≡ keys_of known ++ key.now ∷ []
keys_with_last [] key = refl
keys_with_last (other ∷ known) key = ap (λ keys. other.now ∷ keys) (keys_with_last known key)
