-- The first id: of one thing or another, and of what breaks agreement.
use Rattle.std.proofs.Common.{◌≡◌, ◌↔◌, Bool, true, false, List, ◌⊎◌, inl, inr, Option, Some, None, refl, sym, arith, tests}
use Rattle.std.specs.Prelude.{if◌then◌else◌}
use Rattle.yd_ids.specs.Ids.{is_smaller}
use Rattle.yd_ids.specs.declared.id.Id.{Id}
use Rattle.yd_ops.specs.Value.{UpdateValue}
use Rattle.yd_grouping.specs.Disagreement.{BreaksAgreement, disagreement_of}
use Rattle.yd_grouping.proofs.DisagreementLemmas.{disagreement_none, disagreement_some, none_breaks_agree}
use Rattle.yd_agreement.specs.First.{IsFirst, IsFirstBut, first_of}

through : (x y z : Id) → is_smaller y x ≡ false → is_smaller z y ≡ false → is_smaller z x ≡ false
through x y z e f = grind (arith, tests)

behind : (x y z : Id) → is_smaller y x ≡ true → is_smaller z x ≡ false → is_smaller z y ≡ false
behind x y z e f = grind (arith, tests)

-- the first id of which one thing is so, or another
pub first_either : (P Q : Id → Type 0) (a b : Option Id) → IsFirst P a → IsFirst Q b → IsFirst (λ x. P x ⊎ Q x) (first_of a b)
first_either P Q None None p q = λ x h. elim h [ inl i ↦ p x i | inr i ↦ q x i ]
first_either P Q None (Some y) p q = (inr q.0, λ z h. elim h [ inl i ↦ absurd (p z i) | inr i ↦ q.1 z i ])
first_either P Q (Some x) None p q = (inl p.0, λ z h. elim h [ inl i ↦ p.1 z i | inr i ↦ absurd (q z i) ])
first_either P Q (Some x) (Some y) p q = go (is_smaller y x) refl
  where
    go : (t : Bool) → is_smaller y x ≡ t → IsFirst (λ z. P z ⊎ Q z) (Some (if t then y else x))
    go true e = (inr q.0, λ z h. elim h [ inl i ↦ behind x y z e (p.1 z i) | inr i ↦ q.1 z i ])
    go false e = (inl p.0, λ z h. elim h [ inl i ↦ p.1 z i | inr i ↦ through x y z e (q.1 z i) ])

-- the same of another thing that is so of the same ids
pub first_alike : (P Q : Id → Type 0) (a : Option Id) → ((x : Id) → P x ↔ Q x) → IsFirst P a → IsFirst Q a
first_alike P Q None same p = λ x q. p x ((same x).1 q)
first_alike P Q (Some x) same p = ((same x).0 p.0, λ y q. p.1 y ((same y).1 q))

-- ---- but for some ids

-- the first id of which one thing is so, or another, but for the same ids
pub but_either : (P Q R : Id → Type 0) (a b : Option Id) → IsFirstBut P R a → IsFirstBut Q R b → IsFirstBut (λ x. P x ⊎ Q x) R (first_of a b)
but_either P Q R None None p q = λ x h. elim h [ inl i ↦ p x i | inr i ↦ q x i ]
but_either P Q R None (Some y) p q = (inr q.0, λ z h. elim h [ inl i ↦ inl (p z i) | inr i ↦ q.1 z i ])
but_either P Q R (Some x) None p q = (inl p.0, λ z h. elim h [ inl i ↦ p.1 z i | inr i ↦ inl (q z i) ])
but_either P Q R (Some x) (Some y) p q = go (is_smaller y x) refl
  where
    go : (t : Bool) → is_smaller y x ≡ t → IsFirstBut (λ z. P z ⊎ Q z) R (Some (if t then y else x))
    go true e = (inr q.0, λ z h. elim h [ inl i ↦ elim (p.1 z i) [ inl r ↦ inl r | inr f ↦ inr (behind x y z e f) ] | inr i ↦ q.1 z i ])
    go false e = (inl p.0, λ z h. elim h [ inl i ↦ p.1 z i | inr i ↦ elim (q.1 z i) [ inl r ↦ inl r | inr f ↦ inr (through x y z e f) ] ])

pub but_alike : (P Q R : Id → Type 0) (a : Option Id) → ((x : Id) → P x ↔ Q x) → IsFirstBut P R a → IsFirstBut Q R a
but_alike P Q R None same p = λ x q. p x ((same x).1 q)
but_alike P Q R (Some x) same p = ((same x).0 p.0, λ y q. p.1 y ((same y).1 q))

-- the first id of which one thing is so, or another, of which that may leave out what the first has
pub but_first : (P R : Id → Type 0) (a b : Option Id) → IsFirst R a → IsFirstBut P R b → IsFirst (λ x. R x ⊎ P x) (first_of a b)
but_first P R None None r p = λ x h. elim h [ inl i ↦ r x i | inr i ↦ r x (p x i) ]
but_first P R None (Some y) r p = (inr p.0, λ z h. elim h [ inl i ↦ absurd (r z i) | inr i ↦ elim (p.1 z i) [ inl k ↦ absurd (r z k) | inr f ↦ f ] ])
but_first P R (Some x) None r p = (inl r.0, λ z h. elim h [ inl i ↦ r.1 z i | inr i ↦ r.1 z (p z i) ])
but_first P R (Some x) (Some y) r p = go (is_smaller y x) refl
  where
    go : (t : Bool) → is_smaller y x ≡ t → IsFirst (λ z. R z ⊎ P z) (Some (if t then y else x))
    go true e = (inr p.0, λ z h. elim h [ inl i ↦ behind x y z e (r.1 z i) | inr i ↦ elim (p.1 z i) [ inl k ↦ behind x y z e (r.1 z k) | inr f ↦ f ] ])
    go false e = (inl r.0, λ z h. elim h [ inl i ↦ r.1 z i | inr i ↦ elim (p.1 z i) [ inl k ↦ r.1 z k | inr f ↦ through x y z e f ] ])

-- ---- what breaks agreement

-- the first id that breaks agreement is the disagreement
pub first_breaking : (updates : List UpdateValue) (a : Option Id) → IsFirst (BreaksAgreement updates) a → a ≡ disagreement_of updates
first_breaking updates None p = sym ((disagreement_none updates).1 (none_breaks_agree updates p))
first_breaking updates (Some x) p = sym ((disagreement_some updates x).1 p)
