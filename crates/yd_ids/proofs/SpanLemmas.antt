-- Two spans: what their tests say, and what joining two that touch keeps.
use Rattle.std.proofs.Common.{◌≡◌, ℕ, ◌+◌, ◌<◌, ◌≤◌, ◌⊎◌, ◌↔◌, Bool, true, false, cond, Ordering, Less, Equal, Greater, is_lt, nat_cmp, ◌||◌, ◌&&◌, not, inl, inr, refl, sym, arith, nat_eq, nat_lt}
use Rattle.std.specs.Ordering.{ordering_then}
use Rattle.std.proofs.lemmas.Bool.{cases_lt, ltb-true, ltb-false, lt-ltb, le-ltb, eq-eqb, eqb-true, eqb-false}
use Rattle.yd_ids.specs.declared.id.Id.{Id}
use Rattle.yd_ids.specs.declared.id.Span.{Span}
use Rattle.yd_ids.specs.Id.{IsSpan}
use Rattle.yd_ids.specs.Span.{InSpan, EndsBelow, Reaches, ReachesInto, ends_below, reaches_into, EndsBefore, BeginsBy, start_of, joined}

-- ---- the tests

pub below_true : (s : Span) (c k : ℕ) → ends_below s c k ≡ true → EndsBelow s c k
below_true s c k h = go (nat_lt s.client.0 c) refl (nat_eq s.client.0 c) refl (nat_lt (s.clock + s.len) k) refl h
  where
    go : (p : Bool) → nat_lt s.client.0 c ≡ p → (q : Bool) → nat_eq s.client.0 c ≡ q → (r : Bool) → nat_lt (s.clock + s.len) k ≡ r → (p || (q && r)) ≡ true → EndsBelow s c k
    go true x q y r z e = inl (ltb-true s.client.0 c x)
    go false x true y true z e = inr (eqb-true s.client.0 c y, ltb-true (s.clock + s.len) k z)
    go false x true y false z e = absurd cc
    go false x false y r z e = absurd cc

pub below_false : (s : Span) (c k : ℕ) → ends_below s c k ≡ false → Reaches s c k
below_false s c k h = go (nat_lt s.client.0 c) refl (nat_eq s.client.0 c) refl (nat_lt (s.clock + s.len) k) refl h
  where
    go : (p : Bool) → nat_lt s.client.0 c ≡ p → (q : Bool) → nat_eq s.client.0 c ≡ q → (r : Bool) → nat_lt (s.clock + s.len) k ≡ r → (p || (q && r)) ≡ false → Reaches s c k
    go true x q y r z e = absurd cc
    go false x true y true z e = absurd cc
    go false x true y false z e = inr (eqb-true s.client.0 c y, ltb-false (s.clock + s.len) k z)
    go false x false y r z e = inl (omega (arith, ltb-false s.client.0 c x, eqb-false s.client.0 c y))

pub below_is : (s : Span) (c k : ℕ) → EndsBelow s c k → ends_below s c k ≡ true
below_is s c k (inl lt) = rw (lt-ltb s.client.0 c lt)
below_is s c k (inr h) = let (e, lt) = h in rw (le-ltb s.client.0 c (omega arith), eq-eqb s.client.0 c e, lt-ltb (s.clock + s.len) k lt)

pub reaches_true : (s t : Span) → reaches_into s t ≡ true → ReachesInto s t
reaches_true s t h = go (ends_below s t.client.0 t.clock) refl h
  where
    go : (e : Bool) → ends_below s t.client.0 t.clock ≡ e → not e ≡ true → ReachesInto s t
    go true x y = absurd cc
    go false x y = below_false s t.client.0 t.clock x

pub reaches_false : (s t : Span) → reaches_into s t ≡ false → EndsBefore s t
reaches_false s t h = go (ends_below s t.client.0 t.clock) refl h
  where
    go : (e : Bool) → ends_below s t.client.0 t.clock ≡ e → not e ≡ false → EndsBefore s t
    go true x y = below_true s t.client.0 t.clock x
    go false x y = absurd cc

before_reaches : (s t : Span) → EndsBefore s t → ReachesInto s t → ⊥
before_reaches s t (inl a) (inl b) = absurd (omega arith)
before_reaches s t (inl a) (inr b) = absurd (omega arith)
before_reaches s t (inr a) (inl b) = absurd (omega arith)
before_reaches s t (inr a) (inr b) = absurd (omega arith)

pub reaches_is : (s t : Span) → ReachesInto s t → reaches_into s t ≡ true
reaches_is s t h = go (ends_below s t.client.0 t.clock) refl
  where
    go : (e : Bool) → ends_below s t.client.0 t.clock ≡ e → not e ≡ true
    go true x = absurd (before_reaches s t (below_true s t.client.0 t.clock x) h)
    go false x = refl

pub by_flipped : (s t : Span) → (BeginsBy s t → ⊥) → BeginsBy t s
by_flipped s t f = elim (cases_lt t.client.0 s.client.0) [
  | inl lt ↦ inl lt
  | inr le ↦ elim (cases_lt s.client.0 t.client.0) [
    | inl lt ↦ absurd (f (inl lt))
    | inr ge ↦ elim (cases_lt t.clock s.clock) [
      | inl lt ↦ inr (omega arith, omega arith)
      | inr more ↦ absurd (f (inr (omega arith, more)))
    ]
  ]
]

-- how spans compare
abbrev pub span_cmp : Span → Span → Ordering
span_cmp s t = ordering_then (nat_cmp s.client.0 t.client.0) (ordering_then (nat_cmp s.clock t.clock) (nat_cmp s.len t.len))

-- a span begins where one that is not less does, or before
pub by_order : (s t : Span) → is_lt (span_cmp t s) ≡ false → BeginsBy s t
by_order s t h = go (nat_lt t.client.0 s.client.0) refl (nat_eq t.client.0 s.client.0) refl (nat_lt t.clock s.clock) refl h
  where
    go : (p : Bool) → nat_lt t.client.0 s.client.0 ≡ p → (q : Bool) → nat_eq t.client.0 s.client.0 ≡ q → (r : Bool) → nat_lt t.clock s.clock ≡ r →
        is_lt (ordering_then (cond p Less (cond q Equal Greater)) (ordering_then (cond r Less (cond (nat_eq t.clock s.clock) Equal Greater)) (nat_cmp t.len s.len))) ≡ false → BeginsBy s t
    go true x q y r z e = absurd cc
    go false x true y true z e = absurd cc
    go false x true y false z e = inr (sym (eqb-true t.client.0 s.client.0 y), ltb-false t.clock s.clock z)
    go false x false y r z e = inl (omega (arith, ltb-false t.client.0 s.client.0 x, eqb-false t.client.0 s.client.0 y))

-- ---- one behind the other

pub below_through : (s t : Span) (c k : ℕ) → EndsBefore s t → EndsBelow t c k → EndsBelow s c k
below_through s t c k (inl a) (inl b) = inl (omega arith)
below_through s t c k (inl a) (inr b) = inl (omega arith)
below_through s t c k (inr a) (inl b) = inl (omega arith)
below_through s t c k (inr a) (inr b) = inr (omega arith, omega arith)

pub through : (s t u : Span) → EndsBefore s t → EndsBefore t u → EndsBefore s u
through s t u p q = below_through s t u.client.0 u.clock p q

pub before_by : (s t u : Span) → EndsBefore s t → BeginsBy t u → EndsBefore s u
before_by s t u (inl a) (inl b) = inl (omega arith)
before_by s t u (inl a) (inr b) = inl (omega arith)
before_by s t u (inr a) (inl b) = inl (omega arith)
before_by s t u (inr a) (inr b) = inr (omega arith, omega arith)

pub before_begins : (s t : Span) → EndsBefore s t → BeginsBy s t
before_begins s t (inl a) = inl a
before_begins s t (inr a) = inr (omega arith, omega arith)

pub by_through : (s t u : Span) → BeginsBy s t → EndsBefore t u → BeginsBy s u
by_through s t u (inl a) (inl b) = inl (omega arith)
by_through s t u (inl a) (inr b) = inl (omega arith)
by_through s t u (inr a) (inl b) = inl (omega arith)
by_through s t u (inr a) (inr b) = inr (omega arith, omega arith)

pub by_both : (s t u : Span) → BeginsBy s t → BeginsBy t u → BeginsBy s u
by_both s t u (inl a) (inl b) = inl (omega arith)
by_both s t u (inl a) (inr b) = inl (omega arith)
by_both s t u (inr a) (inl b) = inl (omega arith)
by_both s t u (inr a) (inr b) = inr (omega arith, omega arith)

pub by_reaches : (s t : Span) → BeginsBy s t → Reaches t s.client.0 s.clock
by_reaches s t (inl a) = inl a
by_reaches s t (inr a) = inr (omega arith, omega arith)

-- a span that reaches one reaches those before it
pub reaches_through : (s t u : Span) → EndsBefore t u → ReachesInto s u → ReachesInto s t
reaches_through s t u (inl a) (inl b) = inl (omega arith)
reaches_through s t u (inl a) (inr b) = inl (omega arith)
reaches_through s t u (inr a) (inl b) = inl (omega arith)
reaches_through s t u (inr a) (inr b) = inr (omega arith, omega arith)

-- no two are before one another
pub not_both : (s t : Span) → EndsBefore s t → EndsBefore t s → ⊥
not_both s t (inl a) (inl b) = absurd (omega arith)
not_both s t (inl a) (inr b) = absurd (omega arith)
not_both s t (inr a) (inl b) = absurd (omega arith)
not_both s t (inr a) (inr b) = absurd (omega arith)

-- ---- ids

-- where one reaches above an id, none behind it has the id
pub behind_none : (s t : Span) (id : Id) → Reaches s id.client.0 (id.clock + 1) → EndsBefore s t → InSpan t id → ⊥
behind_none s t id (inl a) (inl b) i = absurd (omega arith)
behind_none s t id (inl a) (inr b) i = absurd (omega arith)
behind_none s t id (inr a) (inl b) i = absurd (omega arith)
behind_none s t id (inr a) (inr b) i = absurd (omega arith)

-- where a span begins at an id or before it, none before the span has the id
pub begun_none : (t u : Span) (id : Id) → EndsBefore t u → ReachesInto (start_of id) u → InSpan t id → ⊥
begun_none t u id (inl a) (inl b) i = absurd (omega arith)
begun_none t u id (inl a) (inr b) i = absurd (omega arith)
begun_none t u id (inr a) (inl b) i = absurd (omega arith)
begun_none t u id (inr a) (inr b) i = absurd (omega arith)

-- and where it begins behind the id, it has not
pub later_none : (t : Span) (id : Id) → EndsBefore (start_of id) t → InSpan t id → ⊥
later_none t id (inl a) i = absurd (omega arith)
later_none t id (inr a) i = absurd (omega arith)

pub in_reaches : (s : Span) (id : Id) → InSpan s id → Reaches s id.client.0 (id.clock + 1)
in_reaches s id i = inr (omega arith, omega arith)

-- ---- joining

-- two that touch are of one client
pub touch_client : (s t : Span) → Reaches s t.client.0 t.clock → Reaches t s.client.0 s.clock → s.client.0 ≡ t.client.0
touch_client s t (inl a) (inl b) = absurd (omega arith)
touch_client s t (inl a) (inr b) = omega arith
touch_client s t (inr a) _ = omega arith

pub joined_span : (s t : Span) → IsSpan s → IsSpan t → IsSpan (joined s t)
joined_span s t p q = let a = p.end in let b = q.end in record { client = p.client; end = omega arith }

pub joined_some : (s t : Span) → 0 < s.len → 0 < (joined s t).len
joined_some s t p = omega arith

pub before_joined : (u s t : Span) → s.client.0 ≡ t.client.0 → EndsBefore u s → EndsBefore u t → EndsBefore u (joined s t)
before_joined u s t e (inl a) _ = inl a
before_joined u s t e (inr a) (inl b) = absurd (omega arith)
before_joined u s t e (inr a) (inr b) = inr (omega arith, omega arith)

pub reaches_joined : (u s t : Span) → Reaches u s.client.0 s.clock → Reaches u (joined s t).client.0 (joined s t).clock
reaches_joined u s t (inl a) = inl a
reaches_joined u s t (inr a) = inr (omega arith, omega arith)

-- the joined span reaches what the first one reaches, and ends before what both do
pub joined_reaches : (s t u : Span) → ReachesInto s u → ReachesInto (joined s t) u
joined_reaches s t u (inl a) = inl a
joined_reaches s t u (inr a) = inr (omega arith, omega arith)

pub joined_before : (s t u : Span) → s.client.0 ≡ t.client.0 → EndsBefore s u → EndsBefore t u → EndsBefore (joined s t) u
joined_before s t u e (inl a) _ = inl a
joined_before s t u e (inr a) (inl b) = absurd (omega arith)
joined_before s t u e (inr a) (inr b) = inr (omega arith, omega arith)

pub span_same : (s t : Span) → s.client.0 ≡ t.client.0 → s.clock ≡ t.clock → s.len ≡ t.len → s ≡ t
span_same s t e f g = λ i. record { client = record { 0 = e i }; clock = f i; len = g i }

-- a span between the first and the last that are joined adds nothing
pub joined_again : (s t : Span) → joined (joined s t) t ≡ joined s t
joined_again s t = span_same (joined (joined s t) t) (joined s t) refl (omega arith) (omega arith)

pub joined_over : (s f t u : Span) → s.client.0 ≡ f.client.0 → s.client.0 ≡ t.client.0 → s.client.0 ≡ u.client.0 → BeginsBy f t → EndsBefore t u → joined (joined (joined s f) t) u ≡ joined (joined s f) u
joined_over s f t u e g h (inl a) _ = absurd (omega arith)
joined_over s f t u e g h (inr a) (inl b) = absurd (omega arith)
joined_over s f t u e g h (inr a) (inr b) = span_same (joined (joined (joined s f) t) u) (joined (joined s f) u) refl (omega arith) (omega arith)

pub joined_by : (s t u : Span) → BeginsBy s u → BeginsBy (joined s t) u
joined_by s t u (inl a) = inl a
joined_by s t u (inr a) = inr (omega arith, omega arith)

in_either : (s t : Span) (id : Id) → s.client.0 ≡ t.client.0 → t.clock ≤ s.clock + s.len → s.clock ≤ t.clock + t.len → InSpan (joined s t) id → InSpan s id ⊎ InSpan t id
in_either s t id e p q i = elim (cases_lt id.clock s.clock) [
  | inl lt ↦ inr (omega arith, omega arith, omega arith)
  | inr ge ↦ elim (cases_lt id.clock (s.clock + s.len)) [ inl less ↦ inl (omega arith, ge, less) | inr more ↦ inr (omega arith, omega arith, omega arith) ]
]

reach : (s : Span) (c k : ℕ) → s.client.0 ≡ c → Reaches s c k → k ≤ s.clock + s.len
reach s c k e (inl a) = absurd (omega arith)
reach s c k e (inr a) = a.1

in_left : (s t : Span) (id : Id) → InSpan s id → InSpan (joined s t) id
in_left s t id i = (omega arith, omega arith, omega arith)

in_right : (s t : Span) (id : Id) → s.client.0 ≡ t.client.0 → InSpan t id → InSpan (joined s t) id
in_right s t id e i = (omega arith, omega arith, omega arith)

-- the joined span has the ids of both
pub in_joined : (s t : Span) (id : Id) → Reaches s t.client.0 t.clock → Reaches t s.client.0 s.clock → InSpan (joined s t) id ↔ (InSpan s id ⊎ InSpan t id)
in_joined s t id p q =
    let e = touch_client s t p q in (
      (λ i. in_either s t id e (reach s t.client.0 t.clock e p) (reach t s.client.0 s.clock (sym e) q) i),
      (λ i. elim i [ inl a ↦ in_left s t id a | inr b ↦ in_right s t id e b ]),
    )
