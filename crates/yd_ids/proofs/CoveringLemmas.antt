-- A set has all ids of a span exactly where one of its spans covers it.
use Rattle.std.proofs.Common.{◌≡◌, ℕ, ◌+◌, ◌<◌, ◌≤◌, ◌⊎◌, true, List, [], ◌∷◌, Some, None, length, get_or, inl, inr, refl, arith, tests, sym, ap, subst, ◌∙◌}
use Rattle.std.proofs.lemmas.Bool.{cases_lt}
use Rattle.yd_pieces.specs.Pieces.{IsLastPassed}
use Rattle.yd_ids.specs.declared.id.Id.{Id}
use Rattle.yd_ids.specs.declared.id.Span.{Span}
use Rattle.yd_ids.specs.Covering.{HasAll, covers}
use Rattle.yd_ids.specs.Set.{HasId, AreMaximal}
use Rattle.yd_ids.specs.Span.{InSpan, reaches_into, start_of}
use Rattle.yd_ids.proofs.BegunLemmas.{begun_at, has_begun, has_not_begun}
use Rattle.yd_ids.proofs.SetLemmas.{apart_at, has_place, place_has}

-- the test says how the clients and the ends stand
covers_is : (s t : Span) → covers s t ≡ true → (s.client.0 ≡ t.client.0) × (s.clock ≤ t.clock) × (t.clock + t.len ≤ s.clock + s.len)
covers_is s t e = (grind (arith, tests), grind (arith, tests), grind (arith, tests))

is_covered : (s t : Span) → s.client.0 ≡ t.client.0 → s.clock ≤ t.clock → t.clock + t.len ≤ s.clock + s.len → covers s t ≡ true
is_covered s t client low high = grind (arith, tests)

-- the id behind a span of a maximal set is in none of its spans
end_is_out : (xs : List Span) (n : ℕ) (d : Span) (id : Id) → AreMaximal xs → n < length xs → id.client.0 ≡ (get_or xs n d).client.0 →
    id.clock ≡ (get_or xs n d).clock + (get_or xs n d).len → HasId xs id → ⊥
end_is_out xs n d id m lt client clock h = let (k, le, i) = has_place xs id h in elim (cases_lt k n) [
  | inl less ↦ let apart = apart_at xs k n d m less lt in let is = i d in elim apart [
    | inl e ↦ absurd (omega (arith, e, is.0, client))
    | inr e ↦ absurd (omega (arith, e.1, is.2, clock))
  ]
  | inr ge ↦ elim (cases_lt n k) [
    | inl more ↦ let apart = apart_at xs n k d m more le in let is = i d in elim apart [
      | inl e ↦ absurd (omega (arith, e, is.0, client))
      | inr e ↦ absurd (omega (arith, e.1, is.1, clock))
    ]
    | inr same ↦ let one : k ≡ n = omega (arith, ge, same) in absurd (here k one (i d))
  ]
]
  where
    here : (k : ℕ) → k ≡ n → InSpan (get_or xs k d) id → ⊥
    here k e is = let there : InSpan (get_or xs n d) id = rw e at is in omega (arith, there.2, clock)

-- ---- lemmas for callers

abbrev pub first_of : Span → Id
first_of s = record { client = s.client; clock = s.clock }

module _ (xs : List Span) (s : Span) (m : AreMaximal xs) (some : 0 < s.len) where
  first_in : InSpan s (first_of s)
  first_in = (refl, omega arith, omega arith)

  -- where the span that begins last by its first id covers it, each of its ids is there
  pub covered_has : (t : Span) → IsLastPassed (reaches_into (start_of (first_of s))) xs (Some t) → covers t s ≡ true → (id : Id) → InSpan s id → HasId xs id
  covered_has t last e id i =
      let (n, (lt, at)) = begun_at xs (first_of s) m t last in
      let is = covers_is t s e in
      place_has xs n t id lt (subst (λ u. InSpan u id) (sym (at t)) (is.0 ∙ i.0, omega (arith, is.1, i.1), omega (arith, is.2, i.2)))

  -- and where each is there, it does
  pub has_covered : (t : Span) → IsLastPassed (reaches_into (start_of (first_of s))) xs (Some t) → ((id : Id) → InSpan s id → HasId xs id) → covers t s ≡ true
  has_covered t last all =
      let is : InSpan t (first_of s) = (has_begun xs (first_of s) m t last).0 (all (first_of s) first_in) in
      is_covered t s is.0 is.1 (high is)
    where
      end : Id
      end = record { client = s.client; clock = t.clock + t.len }

      high : InSpan t (first_of s) → s.clock + s.len ≤ t.clock + t.len
      high is = elim (cases_lt (t.clock + t.len) (s.clock + s.len)) [
        | inl less ↦
            let (n, (lt, at)) = begun_at xs (first_of s) m t last in
            absurd (end_is_out xs n t end m lt (sym is.0 ∙ ap (λ u. u.client.0) (sym (at t))) (ap (λ u. u.clock + u.len) (sym (at t))) (all end (refl, omega (arith, is.2), less)))
        | inr ge ↦ ge
      ]

  -- and so there is such a span
  pub has_span_there : IsLastPassed (reaches_into (start_of (first_of s))) xs None → ((id : Id) → InSpan s id → HasId xs id) → ⊥
  has_span_there last all = has_not_begun xs (first_of s) m last (all (first_of s) first_in)

-- ---- one span after another

-- the ids of the spans so far are there, and those to come are the others'
pub record IsCovering (xs ys rest : List Span) : Type 0 where
  pub maximal : AreMaximal rest
  pub had : (id : Id) → HasId ys id → HasId xs id ⊎ HasId rest id
  pub others : (id : Id) → HasId rest id → HasId ys id

pub covering_begins : (xs ys : List Span) → AreMaximal ys → IsCovering xs ys ys
covering_begins xs ys m = record { maximal = m; had = λ id h. inr h; others = λ id h. h }

pub covering_goes_on : (xs ys rest : List Span) (s : Span) → IsCovering xs ys (s ∷ rest) → ((id : Id) → InSpan s id → HasId xs id) → IsCovering xs ys rest
covering_goes_on xs ys rest s c here = record {
  maximal = c.maximal.3;
  had = λ id h. elim (c.had id h) [ inl a ↦ inl a | inr k ↦ elim k [ inl i ↦ inl (here id i) | inr r ↦ inr r ] ];
  others = λ id h. c.others id (inr h);
}

pub covering_ends : (xs ys rest : List Span) → IsCovering xs ys rest → rest ≡ [] → HasAll xs ys
covering_ends xs ys rest c e id h = elim (c.had id h) [ inl a ↦ a | inr k ↦ absurd (subst (λ zs. HasId zs id) e k) ]

pub one_had : (xs ys rest : List Span) (s : Span) → IsCovering xs ys (s ∷ rest) → HasAll xs ys → (id : Id) → InSpan s id → HasId xs id
one_had xs ys rest s c all id i = all id (c.others id (inl i))
