-- Where all ids of some spans are in one of two sets: the first of each is, and each that stands behind a span of one of them.
use Rattle.std.proofs.Common.{◌≡◌, ℕ, zero, suc, ◌+◌, ◌⊎◌, ◌↔◌, inl, inr, Bool, true, false, not, List, [], ◌∷◌, ◌++◌, ◌-◌, refl, sym, ap, ◌∙◌, subst, arith, true≢false, IsTrue}
use Rattle.std.proofs.lemmas.Bool.{cases_lt}
use Rattle.yd_words.specs.Each.{Each}
use Rattle.yd_words.proofs.MemberLemmas.{each_in, in_right_part}
use Rattle.yd_ids.specs.declared.id.Id.{Id}
use Rattle.yd_ids.specs.declared.id.Span.{Span}
use Rattle.yd_ids.specs.Id.{IsId, IsSpan}
use Rattle.yd_ids.specs.Set.{HasId, AreMaximal}
use Rattle.yd_ids.specs.Span.{InSpan}
use Rattle.yd_ids.proofs.IdLemmas.{same_numbers}
use Rattle.yd_state.specs.Novelty.{IsKnown, first_of, id_behind}

module _ (named deletes more : List Span) where
  abbrev AreFirstsKnown : List Span → Type 0
  AreFirstsKnown spans = Each (λ span. IsKnown named deletes more (first_of span)) spans

  abbrev AreEndsKnown : List Span → Type 0
  AreEndsKnown spans = Each (λ span. IsKnown named deletes more (id_behind span)) spans

  -- the id behind one of a set is in it too, or stands behind a span of it
  behind_known : (spans : List Span) → AreEndsKnown spans → (x y : Id) → x.client.0 ≡ y.client.0 → y.clock ≡ x.clock + 1 → HasId more y → HasId spans x →
      HasId spans y ⊎ (HasId named y ⊎ HasId deletes y)
  behind_known [] ends x y client clock i h = absurd h
  behind_known (span ∷ spans) ends x y client clock i (inl inside) = elim (cases_lt y.clock (span.clock + span.len)) [
    | inl lt ↦ inl (inl (omega (arith, inside.0, client), omega (arith, inside.1, clock), lt))
    | inr ge ↦ inr (subst (IsKnown named deletes more) (same_numbers (id_behind span) y (omega (arith, inside.0, client)) (omega (arith, inside.2, clock, ge))) ends.0 i)
  ]
  behind_known (span ∷ spans) ends x y client clock i (inr h) = elim (behind_known spans ends.1 x y client clock i h) [ inl j ↦ inl (inr j) | inr k ↦ inr k ]

  module _ (ends_named : AreEndsKnown named) (ends_deletes : AreEndsKnown deletes) where
    -- so all ids of a span are known, one after another
    span_known : (span : Span) → ((x : Id) → InSpan span x → HasId more x) → IsKnown named deletes more (first_of span) →
        (k : ℕ) (x : Id) → InSpan span x → x.clock ≡ span.clock + k → HasId named x ⊎ HasId deletes x
    span_known span within first zero x inside e = subst (IsKnown named deletes more) (same_numbers (first_of span) x inside.0 (omega (arith, e))) first (within x inside)
    span_known span within first (suc k) x inside e = elim (span_known span within first k before (inside.0, omega arith, omega (arith, inside.2, e)) (omega arith)) [
      | inl h ↦ elim (behind_known named ends_named before x (omega arith) (omega (arith, e)) (within x inside) h) [ inl j ↦ inl j | inr j ↦ j ]
      | inr h ↦ elim (behind_known deletes ends_deletes before x (omega arith) (omega (arith, e)) (within x inside) h) [ inl j ↦ inr j | inr j ↦ j ]
    ]
      where
        before : Id
        before = record { client = x.client; clock = span.clock + k }

    all_known : (spans : List Span) → ((x : Id) → HasId spans x → HasId more x) → AreFirstsKnown spans → (x : Id) → HasId spans x → HasId named x ⊎ HasId deletes x
    all_known [] within firsts x h = absurd h
    all_known (span ∷ spans) within firsts x (inl inside) =
        let (k, e) = steps in span_known span (λ y j. within y (inl j)) firsts.0 k x inside e
      where
        steps : (k : ℕ) × (x.clock ≡ span.clock + k)
        steps = (x.clock - span.clock, omega (arith, inside.1))
    all_known (span ∷ spans) within firsts x (inr h) = all_known spans (λ y j. within y (inr j)) firsts.1 x h

  -- ---- lemmas for callers

  -- where all edges are known, so are all ids
  pub edges_tell : AreFirstsKnown more → AreEndsKnown named → AreEndsKnown deletes → (x : Id) → IsKnown named deletes more x
  edges_tell firsts ends_named ends_deletes x h = all_known ends_named ends_deletes more (λ y j. j) firsts x h

-- what is so of each is so of these
each_of : {X : Type 0} (P : X → Type 0) → ((x : X) → P x) → (xs : List X) → Each P xs
each_of P all [] = tt
each_of P all (x ∷ xs) = (all x, each_of P all xs)

-- the test of the last of them decides whether some id is unknown
pub ends_decide : (named deletes more : List Span) → Each (λ span. IsKnown named deletes more (first_of span)) more → Each (λ span. IsKnown named deletes more (id_behind span)) named →
    (known : Bool) → IsTrue known ↔ Each (λ span. IsKnown named deletes more (id_behind span)) deletes →
    IsTrue (not known) ↔ (((x : Id) → HasId more x → HasId named x ⊎ HasId deletes x) → ⊥)
ends_decide named deletes more firsts ends true says = (
  (λ n. absurd (true≢false (sym n))),
  (λ never. absurd (never (edges_tell named deletes more firsts ends (says.0 refl)))),
)
ends_decide named deletes more firsts ends false says = (
  (λ t within. absurd (true≢false (sym (says.1 (each_of (λ span. IsKnown named deletes more (id_behind span)) (λ span. within (id_behind span)) deletes))))),
  (λ never. refl),
)

-- what is so of all is so of one
pub each_next : {X : Type 0} (P : X → Type 0) (xs front back rest : List X) (x : X) → front ++ back ≡ xs → back ≡ x ∷ rest → Each P xs → P x
each_next {X} P xs front back rest x all next each = each_in P (front ++ x ∷ rest)
    (subst (Each P) (sym all ∙ ap (λ (behind : List X). front ++ behind) next) each) x (in_right_part x front (x ∷ rest) (inl refl))

-- the edges of a span are ids
pub first_is : (span : Span) → IsSpan span → IsId (first_of span)
first_is span is = record { client = is.client; clock = omega (arith, is.end) }

pub behind_is : (span : Span) → IsSpan span → IsId (id_behind span)
behind_is span is = record { client = is.client; clock = is.end }

-- maximal spans are spans
span_among : (front : List Span) (span : Span) (back : List Span) → AreMaximal (front ++ span ∷ back) → IsSpan span
span_among [] span back m = m.0
span_among (first ∷ front) span back m = span_among front span back m.3

-- the next of maximal spans is a span
pub span_next : (spans front back rest : List Span) (span : Span) → AreMaximal spans → front ++ back ≡ spans → back ≡ span ∷ rest → IsSpan span
span_next spans front back rest span m all next = span_among front span rest (subst AreMaximal (sym all ∙ ap (λ (behind : List Span). front ++ behind) next) m)
