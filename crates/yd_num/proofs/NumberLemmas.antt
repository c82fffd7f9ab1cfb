-- Numbers: what reading takes is what the grammar spells.
use Rattle.std.proofs.Common.{◌≡◌, ℕ, zero, suc, ◌+◌, ◌*◌, ◌%◌, ◌^◌, ◌<◌, ◌≤◌, cond, ltb, List, [], ◌∷◌, ◌++◌, length, Ok, Err, refl, ap, subst, ◌∙◌, inl, inr, arith}
use Rattle.std.proofs.Math.Nat.{pow-le-pow_right, pow-suc}
use Rattle.std.proofs.lemmas.Bool.{cases_lt, lt-ltb, le-ltb, ltb-true}
use Rattle.yd_num.specs.Grammar.{Joins}
use Rattle.yd_num.specs.Number.{IsTerminated, grouped_value, SpellsUnsigned, groups_at, unsigned_at}
use Rattle.yd_num.specs.Reading.{Cause, number_too_large}
use Rattle.yd_num.proofs.ReadingLemmas.{bind_ok, ok_value, passed}

-- groups at the front of some bytes
pub record Takes (most : ℕ) (bytes : List ℕ) (v : ℕ) (rest : List ℕ) : Type 0 where
  pub field : List ℕ
  pub terminated : IsTerminated field
  pub within : length field ≤ most
  pub value : grouped_value field ≡ v
  pub joined : bytes ≡ field ++ rest

takes_last : (most b : ℕ) (rest : List ℕ) → b < 128 → Takes (suc most) (b ∷ rest) b rest
takes_last most b rest lt = record { field = b ∷ []; terminated = lt; within = omega arith; value = grind arith; joined = refl }

pub terminated-cons : (b : ℕ) (field : List ℕ) → 128 ≤ b → IsTerminated field → IsTerminated (b ∷ field)
terminated-cons b [] more is = absurd is
terminated-cons b (c ∷ rest) more is = (more, is)

takes_more : (most b : ℕ) (bytes : List ℕ) (v : ℕ) (rest : List ℕ) → 128 ≤ b → Takes most bytes v rest → Takes (suc most) (b ∷ bytes) (b % 128 + 128 * v) rest
takes_more most b bytes v rest more t = record {
  field = b ∷ t.field;
  terminated = terminated-cons b t.field more t.terminated;
  within = omega (arith, t.within);
  value = ap (λ (n : ℕ). b % 128 + 128 * n) t.value;
  joined = ap (λ (l : List ℕ). b ∷ l) t.joined;
}

pub groups_take : (most : ℕ) (bytes : List ℕ) (x : ℕ × List ℕ) → groups_at most bytes ≡ Ok x → Takes most bytes x.0 x.1
unfolding groups_at
groups_take zero bytes x e = absurd cc
groups_take (suc most) [] x e = absurd cc
groups_take (suc most) (b ∷ bytes) x e =
    elim (cases_lt b 128) [
      | inl lt ↦
          subst (λ (y : ℕ × List ℕ). Takes (suc most) (b ∷ bytes) y.0 y.1) (ok_value {E = Cause} (b, bytes) x (rw (lt-ltb b 128 lt) at e)) (takes_last most b bytes lt)
      | inr le ↦
          let h = bind_ok (groups_at most bytes) (λ high. Ok (b % 128 + 128 * high.0, high.1)) x (rw (le-ltb b 128 le) at e) in
          subst (λ (y : ℕ × List ℕ). Takes (suc most) (b ∷ bytes) y.0 y.1) (ok_value {E = Cause} (b % 128 + 128 * h.0.0, h.0.1) x h.2) (takes_more most b bytes h.0.0 h.0.1 le (groups_take most bytes h.0 h.1))
    ]

pub groups_again : (most : ℕ) (field rest : List ℕ) → IsTerminated field → length field ≤ most → groups_at most (field ++ rest) ≡ Ok (grouped_value field, rest)
unfolding groups_at
groups_again most [] rest is within = absurd is
groups_again zero (b ∷ field) rest is within = absurd (omega arith)
groups_again (suc most) (b ∷ []) rest is within =
    let same : b ≡ b % 128 + 0 = grind arith in
    rw (lt-ltb b 128 is) (ap (λ (n : ℕ). Ok (n, rest)) same)
groups_again (suc most) (b ∷ c ∷ field) rest is within = rw (le-ltb b 128 is.0, groups_again most (c ∷ field) rest is.1 (omega arith)) refl

in_range : (x y : ℕ × List ℕ) → cond (ltb x.0 (2 ^ 53)) (Ok x) (Err number_too_large) ≡ Ok y → (x.0 < 2 ^ 53) × (x ≡ y)
in_range x y e = let p = passed (ltb x.0 (2 ^ 53)) x y number_too_large e in (ltb-true x.0 (2 ^ 53) p.0, p.1)

pub unsigned_found : (bytes : List ℕ) (v : ℕ) (rest : List ℕ) → unsigned_at bytes ≡ Ok (v, rest) → Joins (λ front. SpellsUnsigned front v) (λ back. back ≡ rest) bytes
unfolding unsigned_at
unsigned_found bytes v rest e =
    let h = bind_ok (groups_at 8 bytes) (λ number. cond (ltb number.0 (2 ^ 53)) (Ok number) (Err number_too_large)) (v, rest) e in
    let fits = in_range h.0 (v, rest) h.2 in
    let t = groups_take 8 bytes h.0 h.1 in
    record {
      front = t.field;
      back = rest;
      is_front = record { terminated = t.terminated; in_eight = t.within; value = t.value ∙ ap (λ (y : ℕ × List ℕ). y.0) fits.1; in_range = subst (λ (y : ℕ × List ℕ). y.0 < 2 ^ 53) fits.1 fits.0 };
      is_back = refl;
      joined = t.joined ∙ ap (λ (y : ℕ × List ℕ). t.field ++ y.1) fits.1;
    }

pub unsigned_only : (field : List ℕ) (v : ℕ) (rest : List ℕ) → SpellsUnsigned field v → unsigned_at (field ++ rest) ≡ Ok (v, rest)
unfolding unsigned_at
unsigned_only field v rest spells =
    let small : grouped_value field < 2 ^ 53 = rw spells.value spells.in_range in
    rw (groups_again 8 field rest spells.terminated spells.in_eight, lt-ltb (grouped_value field) (2 ^ 53) small) (ap (λ (n : ℕ). Ok (n, rest)) spells.value)

-- bytes make less than a group of seven bits for each allows
pub value-below : (field : List ℕ) → grouped_value field < 128 ^ length field
value-below [] = omega arith
value-below (b ∷ field) = rw (pow-suc 128 (length field)) (omega (arith, value-below field))

-- few groups at the front are a number
pub few_groups : (bytes : List ℕ) (v : ℕ) (rest : List ℕ) → groups_at 5 bytes ≡ Ok (v, rest) → unsigned_at bytes ≡ Ok (v, rest)
few_groups bytes v rest e =
    let t = groups_take 5 bytes (v, rest) e in
    let weight : 128 ^ length t.field ≤ 128 ^ 5 = pow-le-pow_right {n = 128} (omega arith) {i = length t.field} {j = 5} t.within in
    let small : v < 2 ^ 53 = omega (arith, value-below t.field, t.value) in
    ap unsigned_at t.joined ∙ unsigned_only t.field v rest (record { terminated = t.terminated; in_eight = omega (arith, t.within); value = t.value; in_range = small })
