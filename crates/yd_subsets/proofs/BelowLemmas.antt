-- Spans below the clocks of a vector: they are spans, and which ids they have.
use Rattle.std.proofs.Common.{◌≡◌, ◌↔◌, ℕ, ◌+◌, ◌^◌, ◌<◌, ◌≤◌, ◌-◌, min, Bool, true, false, cond, nat_lt, List, [], ◌∷◌, ◌++◌, append-nil, inl, inr, refl, sym, ap, ◌∙◌, subst, arith, tests}
use Rattle.yd_words.specs.Each.{Each}
use Rattle.yd_ids.specs.declared.id.Id.{Id}
use Rattle.yd_ids.specs.declared.id.Span.{Span}
use Rattle.yd_ids.specs.Id.{IsSpan}
use Rattle.yd_ids.specs.Set.{HasId}
use Rattle.yd_ids.specs.Span.{InSpan}
use Rattle.yd_subsets.specs.Below.{span_below, spans_below}

one_below : (clocks : ℕ → ℕ) (s : Span) (x : Id) → InSpan (span_below clocks s) x ↔ (InSpan s x × (x.clock < clocks x.client.0))
one_below clocks s x = (there (nat_lt s.clock end) refl, back (nat_lt s.clock end) refl)
  where
    end : ℕ
    end = clocks s.client.0

    there : (t : Bool) → nat_lt s.clock end ≡ t →
        (s.client.0 ≡ x.client.0) × (s.clock ≤ x.clock) × (x.clock < s.clock + cond t (min s.len (end - s.clock)) 0) → InSpan s x × (x.clock < clocks x.client.0)
    there true e (c, low, high) = ((c, low, omega (arith, low, high)), subst (λ n. x.clock < clocks n) c (omega (arith, low, high)))
    there false e (c, low, high) = absurd (omega (arith, low, high))

    back : (t : Bool) → nat_lt s.clock end ≡ t → InSpan s x × (x.clock < clocks x.client.0) →
        (s.client.0 ≡ x.client.0) × (s.clock ≤ x.clock) × (x.clock < s.clock + cond t (min s.len (end - s.clock)) 0)
    back true e (i, lt) = let here : x.clock < end = subst (λ n. x.clock < clocks n) (sym i.0) lt in (i.0, i.1, omega (arith, i.1, i.2, here))
    back false e (i, lt) = let here : x.clock < end = subst (λ n. x.clock < clocks n) (sym i.0) lt in let low = i.1 in absurd (grind (arith, tests))

is_below : (clocks : ℕ → ℕ) (s : Span) → IsSpan s → IsSpan (span_below clocks s)
is_below clocks s is = record { client = is.client; end = go (nat_lt s.clock (clocks s.client.0)) }
  where
    go : (t : Bool) → s.clock + cond t (min s.len (clocks s.client.0 - s.clock)) 0 < 2 ^ 53
    go true = let e = is.end in omega (arith, e)
    go false = let e = is.end in omega (arith, e)

-- ---- lemmas for callers

pub all_below : (clocks : ℕ → ℕ) (spans : List Span) (x : Id) → HasId (spans_below clocks spans) x ↔ (HasId spans x × (x.clock < clocks x.client.0))
all_below clocks [] x = ((λ h. absurd h), (λ h. h.0))
all_below clocks (s ∷ spans) x = (
  (λ h. elim h [
    | inl i ↦ let (j, lt) = (one_below clocks s x).0 i in (inl j, lt)
    | inr k ↦ let (j, lt) = (all_below clocks spans x).0 k in (inr j, lt)
  ]),
  (λ h. elim h.0 [ inl i ↦ inl ((one_below clocks s x).1 (i, h.1)) | inr k ↦ inr ((all_below clocks spans x).1 (k, h.1)) ]),
)

pub are_below : (clocks : ℕ → ℕ) (spans : List Span) → Each IsSpan spans → Each IsSpan (spans_below clocks spans)
are_below clocks [] each = tt
are_below clocks (s ∷ spans) each = (is_below clocks s each.0, are_below clocks spans each.1)

-- once none is left, all are there
pub all_pushed : (clocks : ℕ → ℕ) (below left all : List Span) → left ≡ [] → below ++ spans_below clocks left ≡ spans_below clocks all → below ≡ spans_below clocks all
all_pushed clocks below left all none e = sym (append-nil below) ∙ ap (λ ss. below ++ spans_below clocks ss) (sym none) ∙ e
