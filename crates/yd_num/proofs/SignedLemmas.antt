-- Signed numbers: what reading takes is what the grammar spells.
use Rattle.std.proofs.Common.{◌≡◌, ℕ, ◌^◌, ◌<◌, ◌≤◌, List, [], ◌∷◌, ◌++◌, length, Ok, refl, ap, subst, ◌∙◌, inl, inr, arith}
use Rattle.std.proofs.Math.Nat.{pow-le-pow_right}
use Rattle.std.proofs.lemmas.Bool.{cases_lt, lt-ltb, le-ltb}
use Rattle.yd_num.specs.declared.signed.Signed.{Signed}
use Rattle.yd_num.specs.Grammar.{Joins}
use Rattle.yd_num.specs.Number.{IsTerminated, groups_at}
use Rattle.yd_num.specs.Reading.{Cause}
use Rattle.yd_num.specs.Signed.{signed_number, signed_value, SpellsSigned, signed_at}
use Rattle.yd_num.proofs.NumberLemmas.{Takes, terminated-cons, groups_take, groups_again, value-below}
use Rattle.yd_num.proofs.ReadingLemmas.{bind_ok, ok_value}

-- seven groups make 49 bits
pub seven_fit : (bytes : List ℕ) (v : ℕ) (rest : List ℕ) → groups_at 7 bytes ≡ Ok (v, rest) → v < 2 ^ 49
seven_fit bytes v rest e =
    let t = groups_take 7 bytes (v, rest) e in
    let weight : 128 ^ length t.field ≤ 128 ^ 7 = pow-le-pow_right {n = 128} (omega arith) {i = length t.field} {j = 7} t.within in
    omega (arith, value-below t.field, t.value)

-- what was taken stands at the front
abbrev IsAtFront : List ℕ → Signed × List ℕ → Type 0
IsAtFront bytes x = Joins (λ front. SpellsSigned front x.0) (λ back. back ≡ x.1) bytes

front_last : (b : ℕ) (rest : List ℕ) → b < 128 → IsAtFront (b ∷ rest) (signed_number b 0, rest)
front_last b rest lt = record {
  front = b ∷ [];
  back = rest;
  is_front = record { terminated = lt; in_eight = omega arith; value = refl };
  is_back = refl;
  joined = refl;
}

front_more : (b : ℕ) (bytes : List ℕ) (high : ℕ) (rest : List ℕ) → 128 ≤ b → Takes 7 bytes high rest → IsAtFront (b ∷ bytes) (signed_number b high, rest)
front_more b bytes high rest more t = record {
  front = b ∷ t.field;
  back = rest;
  is_front = record { terminated = terminated-cons b t.field more t.terminated; in_eight = omega (arith, t.within); value = ap (λ (n : ℕ). signed_number b n) t.value };
  is_back = refl;
  joined = ap (λ (l : List ℕ). b ∷ l) t.joined;
}

front_found : (bytes : List ℕ) (x : Signed × List ℕ) → signed_at bytes ≡ Ok x → IsAtFront bytes x
unfolding signed_at
front_found [] x e = absurd cc
front_found (b ∷ bytes) x e =
    elim (cases_lt b 128) [
      | inl lt ↦ subst (IsAtFront (b ∷ bytes)) (ok_value {E = Cause} (signed_number b 0, bytes) x (rw (lt-ltb b 128 lt) at e)) (front_last b bytes lt)
      | inr le ↦
          let h = bind_ok (groups_at 7 bytes) (λ high. Ok (signed_number b high.0, high.1)) x (rw (le-ltb b 128 le) at e) in
          subst (IsAtFront (b ∷ bytes)) (ok_value {E = Cause} (signed_number b h.0.0, h.0.1) x h.2) (front_more b bytes h.0.0 h.0.1 le (groups_take 7 bytes h.0 h.1))
    ]

-- ---- lemmas for callers

pub signed_again : (field rest : List ℕ) → IsTerminated field → length field ≤ 8 → signed_at (field ++ rest) ≡ Ok (signed_value field, rest)
unfolding signed_at
signed_again [] rest is within = absurd is
signed_again (b ∷ []) rest is within = rw (lt-ltb b 128 is) refl
signed_again (b ∷ c ∷ field) rest is within = rw (le-ltb b 128 is.0, groups_again 7 (c ∷ field) rest is.1 (omega arith)) refl

pub signed_found : (bytes : List ℕ) (s : Signed) (rest : List ℕ) → signed_at bytes ≡ Ok (s, rest) → Joins (λ front. SpellsSigned front s) (λ back. back ≡ rest) bytes
signed_found bytes s rest e = front_found bytes (s, rest) e

pub signed_only : (field : List ℕ) (s : Signed) (rest : List ℕ) → SpellsSigned field s → signed_at (field ++ rest) ≡ Ok (s, rest)
signed_only field s rest spells = signed_again field rest spells.terminated spells.in_eight ∙ ap (λ (n : Signed). Ok (n, rest)) spells.value
