-- Indexes of the units that pass a test: what stands up to the unit before an index are those before the index.
use Rattle.std.proofs.Common.{◌≡◌, ◌<◌, ◌≤◌, ℕ, zero, suc, Bool, true, false, List, [], ◌∷◌, map, length, Some, inl, inr, refl, sym, ap, ◌∙◌, subst, arith}
use Rattle.std.proofs.lemmas.Bool.{cases_Bool}
use Rattle.std.specs.Prelude.{filter, take, drop, if◌then◌else◌}
use Rattle.yd_words.specs.Member.{IsIn, AreDistinct}
use Rattle.yd_words.proofs.FilterLemmas.{kept_one}
use Rattle.yd_ids.specs.declared.id.Id.{Id}
use Rattle.yd_ids.specs.Set.{HasId}
use Rattle.yd_ids.specs.Span.{InSpan}
use Rattle.yd_ids.proofs.SetOfLemmas.{set_of_ids}
use Rattle.yd_ids.specs.Ids.{is_same}
use Rattle.yd_ids.proofs.IdLemmas.{same_itself, other_id, same_numbers}
use Rattle.yd_ops.specs.Operation.{Operation}
use Rattle.yd_editing.specs.Made.{units_up_to, units_behind}
use Rattle.yd_editing.specs.TextEdit.{unit_at, place_at, ids_of_units}
use Rattle.yd_editing.proofs.RefusalLemmas.{id_in_map}

-- no id stands twice
abbrev pub AreApart : List Operation → Type 0
AreApart os = AreDistinct (map (λ (o : Operation). o.id) os)

-- ---- the unit at an index

pub unit_is_there : (os : List Operation) (index : ℕ) (p : Id) → unit_at os index ≡ Some p → (o : Operation) × IsIn o os × (o.id ≡ p)
unit_is_there [] index p e = absurd cc
unit_is_there (o ∷ os) zero p e = (o, inl refl, cc)
unit_is_there (o ∷ os) (suc index) p e = let (q, i, f) = unit_is_there os index p e in (q, inr i, f)

-- an index below the length has a unit
pub unit_below : (os : List Operation) (index : ℕ) → index < length os → (p : Id) × (unit_at os index ≡ Some p)
unit_below [] index lt = absurd (omega (arith, lt))
unit_below (o ∷ os) zero lt = (o.id, refl)
unit_below (o ∷ os) (suc index) lt = unit_below os index (omega (arith, lt))

module _ (test : Operation → Bool) where
  -- what stands up to a unit that passes the test, and behind it
  pub at_unit : (os : List Operation) (index : ℕ) (p : Id) → AreApart os → unit_at (filter test os) index ≡ Some p →
      (filter test (units_up_to (Some p) os) ≡ take (suc index) (filter test os)) × (filter test (units_behind (Some p) os) ≡ drop (suc index) (filter test os))
  at_unit [] index p apart e = absurd cc
  at_unit (o ∷ os) index p apart e = elim (cases_Bool (test o)) [
    | inl yes_it ↦ passing yes_it index (subst (λ t. unit_at (if t then o ∷ filter test os else filter test os) index ≡ Some p) yes_it e) (λ n f. at_unit os n p apart.1 f)
    | inr not_it ↦ failing not_it (subst (λ t. unit_at (if t then o ∷ filter test os else filter test os) index ≡ Some p) not_it e) (λ f. at_unit os index p apart.1 f)
  ]
    where
      other : (n : ℕ) → unit_at (filter test os) n ≡ Some p → is_same o.id p ≡ false
      other n f = let (q, i, g) = unit_is_there (filter test os) n p f in
          other_id o.id p (λ h. apart.0 (subst (λ x. IsIn x (map (λ (r : Operation). r.id) os)) (g ∙ sym h) (id_in_map os q (kept_one test os q i).1)))

      passing : test o ≡ true → (n : ℕ) → unit_at (o ∷ filter test os) n ≡ Some p →
          ((m : ℕ) → unit_at (filter test os) m ≡ Some p → (filter test (units_up_to (Some p) os) ≡ take (suc m) (filter test os))
          × (filter test (units_behind (Some p) os) ≡ drop (suc m) (filter test os))) →
          (filter test (units_up_to (Some p) (o ∷ os)) ≡ take (suc n) (filter test (o ∷ os))) × (filter test (units_behind (Some p) (o ∷ os)) ≡ drop (suc n) (filter test (o ∷ os)))
      passing t zero f again = let same : o.id ≡ p = cc in let here : is_same o.id p ≡ true = subst (λ x. is_same o.id x ≡ true) same (same_itself o.id) in
          (rw (here, t) refl, rw (here, t) refl)
      passing t (suc n) f again = let (g, h) = again n f in let differ = other n f in (rw (differ, t) (ap (λ os. o ∷ os) g), rw (differ, t) h)

      failing : test o ≡ false → unit_at (filter test os) index ≡ Some p →
          (unit_at (filter test os) index ≡ Some p → (filter test (units_up_to (Some p) os) ≡ take (suc index) (filter test os))
          × (filter test (units_behind (Some p) os) ≡ drop (suc index) (filter test os))) →
          (filter test (units_up_to (Some p) (o ∷ os)) ≡ take (suc index) (filter test (o ∷ os)))
          × (filter test (units_behind (Some p) (o ∷ os)) ≡ drop (suc index) (filter test (o ∷ os)))
      failing t f again = let (g, h) = again f in let differ = other index f in (rw (differ, t) g, rw (differ, t) h)

  -- around a place
  pub at_place : (os : List Operation) (index : ℕ) → AreApart os → index ≤ length (filter test os) →
      (filter test (units_up_to (place_at (filter test os) index) os) ≡ take index (filter test os))
      × (filter test (units_behind (place_at (filter test os) index) os) ≡ drop index (filter test os))
  at_place os zero apart le = (refl, refl)
  at_place os (suc index) apart le = let (p, e) = unit_below (filter test os) index (omega (arith, le)) in rw e (at_unit os index p apart e)

-- ---- the ids of units as spans

span_one : (o : Operation) (x : Id) → InSpan (record { client = o.id.client; clock = o.id.clock; len = 1 }) x → x ≡ o.id
span_one o x i = let one = i.0 in let low = i.1 in let high = i.2 in same_numbers x o.id (omega (arith, one)) (omega (arith, low, high))

one_span : (o : Operation) → InSpan (record { client = o.id.client; clock = o.id.clock; len = 1 }) o.id
one_span o = (refl, omega arith, omega arith)

spans_have : (units : List Operation) (o : Operation) → IsIn o units → HasId (map (λ (p : Operation). record { client = p.id.client; clock = p.id.clock; len = 1 }) units) o.id
spans_have [] o i = absurd i
spans_have (p ∷ ps) o (inl e) = inl (subst (λ (q : Operation). InSpan (record { client = p.id.client; clock = p.id.clock; len = 1 }) q.id) (sym e) (one_span p))
spans_have (p ∷ ps) o (inr i) = inr (spans_have ps o i)

spans_has : (units : List Operation) (x : Id) → HasId (map (λ (p : Operation). record { client = p.id.client; clock = p.id.clock; len = 1 }) units) x →
    (o : Operation) × IsIn o units × (o.id ≡ x)
spans_has [] x i = absurd i
spans_has (p ∷ ps) x (inl i) = (p, inl refl, sym (span_one p x i))
spans_has (p ∷ ps) x (inr i) = let (o, j, e) = spans_has ps x i in (o, inr j, e)

-- they have just the ids of the units
pub units_have : (units : List Operation) (o : Operation) → IsIn o units → HasId (ids_of_units units) o.id
units_have units o i = (set_of_ids (map (λ (p : Operation). record { client = p.id.client; clock = p.id.clock; len = 1 }) units) o.id).1 (spans_have units o i)

pub has_units : (units : List Operation) (x : Id) → HasId (ids_of_units units) x → (o : Operation) × IsIn o units × (o.id ≡ x)
has_units units x i = spans_has units x ((set_of_ids (map (λ (p : Operation). record { client = p.id.client; clock = p.id.clock; len = 1 }) units) x).0 i)
