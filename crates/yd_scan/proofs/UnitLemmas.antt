-- The units of runs at places.
use Rattle.std.proofs.Common.{◌≡◌, ℕ, zero, suc, ◌+◌, ◌-◌, ◌<◌, ◌≤◌, inl, inr, false, ◌||◌, List, [], ◌∷◌, ◌++◌, Option, Some, None, length, get_or, refl, sym, ap, ◌∙◌, subst, arith}
use Rattle.std.proofs.lemmas.List.Concat.{flat_map-append}
use Rattle.yd_ids.specs.declared.id.Id.{Id}
use Rattle.yd_ids.specs.declared.id.Client.{Client}
use Rattle.yd_words.specs.Member.{IsIn, AreDistinct}
use Rattle.yd_words.specs.Test.{is_some_and}
use Rattle.yd_words.proofs.MemberLemmas.{in_left_part, in_right_part, in_parts}
use Rattle.yd_words.proofs.TestLemmas.{nat_lt_says}
use Rattle.yd_ids.specs.Ids.{is_same, has_id}
use Rattle.yd_ids.proofs.IdLemmas.{same_says, same_itself, has_says}
use Rattle.yd_origins.specs.Parts.{up_to, behind}
use Rattle.yd_chains.specs.Chain.{last_from, last_of, up_to as places_to, behind as places_behind, before}
use Rattle.yd_chains.proofs.ChainLemmas as chain
use Rattle.yd_scan.specs.declared.stretch.Stretch.{Stretch}
use Rattle.yd_scan.specs.Stretches.{units_from, units_of, later_units, last_unit, stretch_at, units_at, IsIndex}
use Rattle.yd_scan.specs.Scanning.{is_above, is_above_at}

-- ---- the units of one run

from_head : (client : Client) (clock n : ℕ) → 0 < n → units_from client clock n ≡ record { client = client; clock = clock } ∷ units_from client (suc clock) (n - 1)
from_head client clock zero h = absurd (omega arith)
from_head client clock (suc n) h = let e : suc n - 1 ≡ n = omega arith in ap (λ m. record { client = client; clock = clock } ∷ units_from client (suc clock) m) (sym e)

pub units_head : (stretch : Stretch) → 0 < stretch.len → units_of stretch ≡ stretch.id ∷ later_units stretch
units_head stretch h = from_head stretch.id.client stretch.id.clock stretch.len h

from_last : (client : Client) (n clock : ℕ) → units_from client clock (suc n) ≡ units_from client clock n ++ record { client = client; clock = clock + n } ∷ []
from_last client zero clock = let e : clock + 0 ≡ clock = omega arith in ap (λ k. record { client = client; clock = k } ∷ []) (sym e)
from_last client (suc n) clock =
    let e : suc clock + n ≡ clock + suc n = omega arith in
    ap (λ xs. record { client = client; clock = clock } ∷ xs) (from_last client n (suc clock) ∙ ap (λ k. units_from client (suc clock) n ++ record { client = client; clock = k } ∷ []) e)

pub units_last : (stretch : Stretch) → 0 < stretch.len → units_of stretch ≡ units_from stretch.id.client stretch.id.clock (stretch.len - 1) ++ last_unit stretch ∷ []
units_last stretch h =
    let e : stretch.len ≡ suc (stretch.len - 1) = omega arith in
    ap (λ n. units_from stretch.id.client stretch.id.clock n) e ∙ from_last stretch.id.client (stretch.len - 1) stretch.id.clock

pub from_below : (client : Client) (n clock : ℕ) (u : Id) → IsIn u (units_from client clock n) → u.clock < clock + n
from_below client zero clock u h = absurd h
from_below client (suc n) clock u (inl e) = omega (arith, ap (λ (x : Id). x.clock) e)
from_below client (suc n) clock u (inr h) = omega (arith, from_below client n (suc clock) u h)

-- ---- the units of runs

pub units_append : (stretches : List Stretch) (xs ys : List ℕ) → units_at stretches (xs ++ ys) ≡ units_at stretches xs ++ units_at stretches ys
units_append stretches xs ys = flat_map-append (λ i. units_of (stretch_at stretches i)) xs ys

pub in_units : (stretches : List Stretch) (ps : List ℕ) (u : Id) → IsIn u (units_at stretches ps) → (i : ℕ) × IsIn i ps × IsIn u (units_of (stretch_at stretches i))
in_units stretches [] u h = absurd h
in_units stretches (p ∷ ps) u h = elim (in_parts u (units_of (stretch_at stretches p)) (units_at stretches ps) h) [
  | inl k ↦ (p, inl refl, k)
  | inr k ↦ let d = in_units stretches ps u k in (d.0, inr d.1, d.2)
]

pub units_in : (stretches : List Stretch) (ps : List ℕ) (u : Id) (i : ℕ) → IsIn i ps → IsIn u (units_of (stretch_at stretches i)) → IsIn u (units_at stretches ps)
units_in stretches [] u i h k = absurd h
units_in stretches (p ∷ ps) u i (inl e) k = in_left_part u (units_of (stretch_at stretches p)) (units_at stretches ps) (subst (λ j. IsIn u (units_of (stretch_at stretches j))) e k)
units_in stretches (p ∷ ps) u i (inr h) k = in_right_part u (units_of (stretch_at stretches p)) (units_at stretches ps) (units_in stretches ps u i h k)

-- an id whose place is not among the places is no unit there
pub not_in_units : (places : Id → Option ℕ) (stretches : List Stretch) (ps : List ℕ) (u : Id) (q : ℕ) → IsIndex places stretches → ((i : ℕ) → IsIn i ps → i < length stretches) → places u ≡ Some q → (IsIn q ps → ⊥) →
    IsIn u (units_at stretches ps) → ⊥
not_in_units places stretches ps u q x within e out h =
    let d = in_units stretches ps u h in
    let same : Some q ≡ Some d.0 = sym e ∙ x.found d.0 u (within d.0 d.1) d.2 in
    let is : q ≡ d.0 = cc in
    out (subst (λ j. IsIn j ps) (sym is) d.1)

-- ---- the marks tell what the places have

above_some : (places : Id → Option ℕ) (stretches : List Stretch) (ps : List ℕ) (marks : List ℕ) (bound : ℕ) (id : Id) (z : Option ℕ) → places id ≡ z → IsIndex places stretches → ((i : ℕ) → IsIn i ps → i < length stretches) →
    ((i : ℕ) → IsIn i ps → bound < get_or marks i 0) → ((i : ℕ) → (IsIn i ps → ⊥) → get_or marks i 0 ≤ bound) →
    is_above_at marks bound z ≡ has_id (units_at stretches ps) id
above_some places stretches ps marks bound id None e x within high low = elim (has_says (units_at stretches ps) id) [
  | inl h ↦ let d = in_units stretches ps id h.1 in let no : None ≡ Some d.0 = sym e ∙ x.found d.0 id (within d.0 d.1) d.2 in absurd cc
  | inr h ↦ sym h.0
]
above_some places stretches ps marks bound id (Some q) e x within high low = elim (chain.has_place q ps) [
  | inl m ↦ elim (nat_lt_says bound (get_or marks q 0)) [
    | inl t ↦ elim (has_says (units_at stretches ps) id) [
      | inl h ↦ t.0 ∙ sym h.0
      | inr h ↦ absurd (h.1 (units_in stretches ps id q m (x.only q id e).1))
    ]
    | inr t ↦ absurd (omega (arith, high q m, t.1))
  ]
  | inr m ↦ elim (nat_lt_says bound (get_or marks q 0)) [
    | inl t ↦ absurd (omega (arith, low q m, t.1))
    | inr t ↦ elim (has_says (units_at stretches ps) id) [
      | inl h ↦ absurd (not_in_units places stretches ps id q x within e m h.1)
      | inr h ↦ t.0 ∙ sym h.0
    ]
  ]
]

pub above_is : (places : Id → Option ℕ) (stretches : List Stretch) (ps : List ℕ) (marks : List ℕ) (bound : ℕ) (left : Option Id) → IsIndex places stretches → ((i : ℕ) → IsIn i ps → i < length stretches) →
    ((i : ℕ) → IsIn i ps → bound < get_or marks i 0) → ((i : ℕ) → (IsIn i ps → ⊥) → get_or marks i 0 ≤ bound) →
    is_above places marks bound left ≡ is_some_and (has_id (units_at stretches ps)) left
above_is places stretches ps marks bound None x within high low = refl
above_is places stretches ps marks bound (Some id) x within high low = above_some places stretches ps marks bound id (places id) refl x within high low

has_either : (xs ys : List Id) (u : Id) → has_id ys u ≡ false → has_id (xs ++ ys) u ≡ has_id xs u
has_either [] ys u e = e
has_either (x ∷ xs) ys u e = ap (λ t. is_same x u || t) (has_either xs ys u e)

pub some_has_first : (xs ys : List Id) (z : Option Id) → is_some_and (has_id ys) z ≡ false → is_some_and (has_id (xs ++ ys)) z ≡ is_some_and (has_id xs) z
some_has_first xs ys None e = refl
some_has_first xs ys (Some u) e = has_either xs ys u e

-- ---- lists cut behind the last of their first part

cut_at : (x : ℕ) (xs ys : List ℕ) (p : ℕ) → last_from (Some x) xs ≡ Some p → AreDistinct (x ∷ xs ++ ys) →
    (places_to (Some p) (x ∷ xs ++ ys) ≡ x ∷ xs) × (places_behind (Some p) (x ∷ xs ++ ys) ≡ ys)
cut_at x [] ys p e d = elim (chain.same_place x p) [
  | inl t ↦ (rw t.0 refl, rw t.0 refl)
  | inr t ↦ let no : x ≡ p = cc in absurd (t.1 no)
]
cut_at x (y ∷ zs) ys p e d = elim (chain.same_place x p) [
  | inl t ↦ absurd (d.0 (in_left_part x (y ∷ zs) ys (elim (chain.last_in y zs p e) [ inl k ↦ inl (t.1 ∙ k) | inr k ↦ inr (subst (λ j. IsIn j zs) (sym t.1) k) ])))
  | inr t ↦ let r = cut_at y zs ys p e d.1 in (rw t.0 (ap (λ ws. x ∷ ws) r.0), rw t.0 r.1)
]

pub cut_behind_last : (xs ys : List ℕ) → AreDistinct (xs ++ ys) → (places_to (last_of xs) (xs ++ ys) ≡ xs) × (places_behind (last_of xs) (xs ++ ys) ≡ ys)
cut_behind_last [] ys d = (refl, refl)
cut_behind_last (x ∷ xs) ys d =
    let y = chain.some_last x xs in
    let r = cut_at x xs ys y.0 y.1 d in
    (ap (λ z. places_to z (x ∷ xs ++ ys)) y.1 ∙ r.0, ap (λ z. places_behind z (x ∷ xs ++ ys)) y.1 ∙ r.1)

pub last_append : (b : Option ℕ) (xs ys : List ℕ) → last_from b (xs ++ ys) ≡ last_from (last_from b xs) ys
last_append b [] ys = refl
last_append b (x ∷ xs) ys = last_append (Some x) xs ys

-- ids likewise, behind one that does not stand before
pub ids_cut : (xs ys : List Id) (l : Id) → (IsIn l xs → ⊥) → (up_to (Some l) (xs ++ l ∷ ys) ≡ xs ++ l ∷ []) × (behind (Some l) (xs ++ l ∷ ys) ≡ ys)
ids_cut [] ys l out = (rw (same_itself l) refl, rw (same_itself l) refl)
ids_cut (x ∷ xs) ys l out = elim (same_says x l) [
  | inl t ↦ absurd (out (inl (sym t.1)))
  | inr t ↦ let r = ids_cut xs ys l (λ h. out (inr h)) in (rw t.0 (ap (λ ws. x ∷ ws) r.0), rw t.0 r.1)
]

pub to_before : (p : ℕ) (list : List ℕ) → IsIn p list → places_to (Some p) list ≡ before p list ++ p ∷ []
to_before p [] h = absurd h
to_before p (x ∷ xs) h = elim (chain.same_place x p) [
  | inl t ↦ rw t.0 (ap (λ k. k ∷ []) t.1)
  | inr t ↦ rw t.0 (ap (λ ws. x ∷ ws) (to_before p xs (elim h [ inl k ↦ absurd (t.1 (sym k)) | inr k ↦ k ])))
]

-- the last unit is one of the run's
pub last_unit_in : (stretch : Stretch) → 0 < stretch.len → IsIn (last_unit stretch) (units_of stretch)
last_unit_in stretch h = rw (units_last stretch h) (in_right_part (last_unit stretch) (units_from stretch.id.client stretch.id.clock (stretch.len - 1)) (last_unit stretch ∷ []) (inl refl))
