-- Maximal spans: where just one of an id and the next one is in the set, a span begins or ends between them.
use Rattle.std.proofs.Common.{◌≡◌, ◌↔◌, ◌+◌, ◌<◌, List, [], ◌∷◌, ◌⊎◌, inl, inr, refl, sym, ap, ◌∙◌, subst, arith}
use Rattle.yd_words.specs.Member.{IsIn}
use Rattle.yd_words.proofs.MemberLemmas.{each_in}
use Rattle.yd_words.proofs.TestLemmas.{same_or_other, split}
use Rattle.yd_ids.specs.Set.{AreMaximal, HasId}
use Rattle.yd_ids.specs.Span.{EndsBefore, InSpan}
use Rattle.yd_ids.specs.declared.id.Id.{Id}
use Rattle.yd_ids.specs.declared.id.Span.{Span}
use Rattle.yd_ids.proofs.IdLemmas.{same_numbers}
use Rattle.yd_ops.specs.Operation.{later_id}

-- ---- ids in spans

in_decided : (s : Span) (x : Id) → InSpan s x ⊎ (InSpan s x → ⊥)
in_decided s x = elim (same_or_other s.client.0 x.client.0) [
  | inl same ↦ elim (split s.clock x.clock) [
    | inl le ↦ elim (split (s.clock + s.len) x.clock) [
      | inl past ↦ inr (λ b. absurd (omega (arith, past, b.2)))
      | inr lt ↦ inl (same, le, lt)
    ]
    | inr less ↦ inr (λ b. absurd (omega (arith, less, b.1)))
  ]
  | inr other ↦ inr (λ b. other b.0)
]

has_decided : (set : List Span) (x : Id) → HasId set x ⊎ (HasId set x → ⊥)
has_decided [] x = inr (λ h. h)
has_decided (s ∷ ss) x = elim (in_decided s x) [
  | inl b ↦ inl (inl b)
  | inr out ↦ elim (has_decided ss x) [ inl h ↦ inl (inr h) | inr none ↦ inr (λ h. elim h [ inl b ↦ out b | inr k ↦ none k ]) ]
]

has_span : (set : List Span) (x : Id) → HasId set x → (s : Span) × IsIn s set × InSpan s x
has_span [] x h = absurd h
has_span (s ∷ ss) x (inl b) = (s, inl refl, b)
has_span (s ∷ ss) x (inr h) = let (t, i, b) = has_span ss x h in (t, inr i, b)

span_has : (set : List Span) (x : Id) (s : Span) → IsIn s set → InSpan s x → HasId set x
span_has [] x s i b = absurd i
span_has (t ∷ ts) x s (inl e) b = inl (subst (λ u. InSpan u x) e b)
span_has (t ∷ ts) x s (inr i) b = inr (span_has ts x s i b)

-- two spans of a maximal set are one, or do not touch
apart_in : (set : List Span) → AreMaximal set → (s t : Span) → IsIn s set → IsIn t set → (s ≡ t) ⊎ (EndsBefore s t ⊎ EndsBefore t s)
apart_in [] m s t i j = absurd i
apart_in (u ∷ us) m s t (inl e) (inl f) = inl (e ∙ sym f)
apart_in (u ∷ us) m s t (inl e) (inr j) = inr (inl (subst (λ v. EndsBefore v t) (sym e) (each_in (EndsBefore u) us m.2 t j)))
apart_in (u ∷ us) m s t (inr i) (inl f) = inr (inr (subst (λ v. EndsBefore v s) (sym f) (each_in (EndsBefore u) us m.2 s i)))
apart_in (u ∷ us) m s t (inr i) (inr j) = apart_in us m.3 s t i j

some_len : (set : List Span) → AreMaximal set → (s : Span) → IsIn s set → 0 < s.len
some_len [] m s i = absurd i
some_len (u ∷ us) m s (inl e) = subst (λ (v : Span). 0 < v.len) (sym e) m.1
some_len (u ∷ us) m s (inr i) = some_len us m.3 s i

-- ---- where a span begins or ends

-- the id is the first one of the span, or the first one behind it
abbrev pub IsEnd : Span → Id → Type 0
IsEnd s y = (y ≡ record { client = s.client; clock = s.clock }) ⊎ (y ≡ record { client = s.client; clock = s.clock + s.len })

-- it is so of a span of the set
abbrev pub AreEnd : List Span → Id → Type 0
AreEnd set y = (s : Span) × IsIn s set × IsEnd s y

module _ (set : List Span) (x : Id) where
  only_first : HasId set x → (HasId set (later_id x 1) → ⊥) → AreEnd set (later_id x 1)
  only_first h out = let (s, i, b) = has_span set x h in (
    s,
    i,
    inr (same_numbers (later_id x 1) (record { client = s.client; clock = s.clock + s.len }) (sym b.0) (elim (split (s.clock + s.len) (x.clock + 1)) [
      | inl le ↦ omega (arith, le, b.2)
      | inr lt ↦ absurd (out (span_has set (later_id x 1) s i (b.0, omega (arith, b.1), lt)))
    ])),
  )

  only_next : (HasId set x → ⊥) → HasId set (later_id x 1) → AreEnd set (later_id x 1)
  only_next out h = let (s, i, b) = has_span set (later_id x 1) h in (
    s,
    i,
    inl (same_numbers (later_id x 1) (record { client = s.client; clock = s.clock }) (sym b.0) (elim (split s.clock x.clock) [
      | inl le ↦ absurd (out (span_has set x s i (b.0, le, omega (arith, b.2))))
      | inr less ↦ omega (arith, less, b.1)
    ])),
  )

  begins_apart : AreMaximal set → (s : Span) → IsIn s set → later_id x 1 ≡ record { client = s.client; clock = s.clock } → HasId set x → ⊥
  begins_apart m s i e h = let (t, j, b) = has_span set x h in
      let client : x.client.0 ≡ s.client.0 = ap (λ (y : Id). y.client.0) e in
      let clock : x.clock + 1 ≡ s.clock = ap (λ (y : Id). y.clock) e in
      elim (apart_in set m s t i j) [
        | inl same ↦ absurd (omega (arith, b.1, clock, ap (λ (u : Span). u.clock) same))
        | inr (inl (inl less)) ↦ absurd (omega (arith, less, client, b.0))
        | inr (inl (inr (one, before))) ↦ absurd (omega (arith, before, b.1, clock))
        | inr (inr (inl less)) ↦ absurd (omega (arith, less, client, b.0))
        | inr (inr (inr (one, before))) ↦ absurd (omega (arith, before, b.2, clock))
      ]

  ends_apart : AreMaximal set → (s : Span) → IsIn s set → later_id x 1 ≡ record { client = s.client; clock = s.clock + s.len } → HasId set (later_id x 1) → ⊥
  ends_apart m s i e h = let (t, j, b) = has_span set (later_id x 1) h in
      let client : x.client.0 ≡ s.client.0 = ap (λ (y : Id). y.client.0) e in
      let clock : x.clock + 1 ≡ s.clock + s.len = ap (λ (y : Id). y.clock) e in
      elim (apart_in set m s t i j) [
        | inl same ↦ absurd (omega (arith, b.2, clock, ap (λ (u : Span). u.clock) same, ap (λ (u : Span). u.len) same))
        | inr (inl (inl less)) ↦ absurd (omega (arith, less, client, b.0))
        | inr (inl (inr (one, before))) ↦ absurd (omega (arith, before, b.1, clock))
        | inr (inr (inl less)) ↦ absurd (omega (arith, less, client, b.0))
        | inr (inr (inr (one, before))) ↦ absurd (omega (arith, before, b.2, clock))
      ]

  -- ---- lemmas for callers

  pub just_one_end : (HasId set x ↔ HasId set (later_id x 1) → ⊥) → AreEnd set (later_id x 1)
  just_one_end one = elim (has_decided set x) [
    | inl h ↦ elim (has_decided set (later_id x 1)) [ inl k ↦ absurd (one ((λ a. k), (λ a. h))) | inr out ↦ only_first h out ]
    | inr none ↦ elim (has_decided set (later_id x 1)) [ inl k ↦ only_next none k | inr out ↦ absurd (one ((λ a. absurd (none a)), (λ a. absurd (out a)))) ]
  ]

  pub end_just_one : AreMaximal set → AreEnd set (later_id x 1) → HasId set x ↔ HasId set (later_id x 1) → ⊥
  end_just_one m (s, i, inl e) both =
      let client : x.client.0 ≡ s.client.0 = ap (λ (y : Id). y.client.0) e in
      let clock : x.clock + 1 ≡ s.clock = ap (λ (y : Id). y.clock) e in
      begins_apart m s i e (both.1 (span_has set (later_id x 1) s i (sym client, omega (arith, clock), omega (arith, clock, some_len set m s i))))
  end_just_one m (s, i, inr e) both =
      let client : x.client.0 ≡ s.client.0 = ap (λ (y : Id). y.client.0) e in
      let clock : x.clock + 1 ≡ s.clock + s.len = ap (λ (y : Id). y.clock) e in
      ends_apart m s i e (both.0 (span_has set x s i (sym client, omega (arith, clock, some_len set m s i), omega (arith, clock))))
