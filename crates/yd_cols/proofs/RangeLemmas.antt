-- Numbers that were read are in their range.
use Rattle.std.proofs.Common.{◌≡◌, ℕ, ◌^◌, ◌<◌, List, [], ◌∷◌, Ok, subst, inl, inr, arith}
use Rattle.std.proofs.lemmas.Bool.{cases_lt, lt-ltb, le-ltb}
use Rattle.yd_num.specs.declared.signed.Signed.{Signed}
use Rattle.yd_num.specs.Number.{groups_at, unsigned_at}
use Rattle.yd_num.specs.Reading.{Cause}
use Rattle.yd_num.specs.Signed.{signed_at, signed_number}
use Rattle.yd_num.proofs.NumberLemmas.{unsigned_found}
use Rattle.yd_num.proofs.ReadingLemmas.{bind_ok, ok_value}
use Rattle.yd_num.proofs.SignedLemmas.{seven_fit}

pub unsigned_in_range : (bytes : List ℕ) (v : ℕ) (rest : List ℕ) → unsigned_at bytes ≡ Ok (v, rest) → v < 2 ^ 53
unsigned_in_range bytes v rest read = (unsigned_found bytes v rest read).is_front.in_range

pub signed_in_range : (bytes : List ℕ) (n : Signed) (rest : List ℕ) → signed_at bytes ≡ Ok (n, rest) → n.size < 2 ^ 55
unfolding signed_at
signed_in_range [] n rest read = absurd cc
signed_in_range (b ∷ bytes) n rest read =
    elim (cases_lt b 128) [
      | inl lt ↦
          let same = ok_value {E = Cause} (signed_number b 0, bytes) (n, rest) (rw (lt-ltb b 128 lt) at read) in
          subst (λ (y : Signed × List ℕ). y.0.size < 2 ^ 55) same (omega arith)
      | inr le ↦
          let h = bind_ok (groups_at 7 bytes) (λ high. Ok (signed_number b high.0, high.1)) (n, rest) (rw (le-ltb b 128 le) at read) in
          let small = seven_fit bytes h.0.0 h.0.1 h.1 in
          subst (λ (y : Signed × List ℕ). y.0.size < 2 ^ 55) (ok_value {E = Cause} (signed_number b h.0.0, h.0.1) (n, rest) h.2) (omega (arith, small))
    ]
