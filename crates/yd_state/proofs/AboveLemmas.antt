-- Spans from the clocks of a vector on: they are spans, and which ids they have.
use Rattle.std.proofs.Common.{◌≡◌, ◌↔◌, ℕ, ◌+◌, ◌^◌, ◌<◌, ◌≤◌, ◌-◌, List, [], ◌∷◌, ◌++◌, ◌⊎◌, append-nil, inl, inr, refl, sym, ap, ◌∙◌, subst, arith}
use Rattle.yd_words.specs.Each.{Each}
use Rattle.yd_words.proofs.EachLemmas.{each_append}
use Rattle.yd_ids.specs.declared.id.Id.{Id}
use Rattle.yd_ids.specs.declared.id.Span.{Span}
use Rattle.yd_ids.specs.Id.{IsSpan}
use Rattle.yd_ids.specs.Set.{HasId, AreMaximal}
use Rattle.yd_ids.specs.Span.{InSpan}
use Rattle.yd_ids.proofs.SetLemmas.{has_front, has_either}
use Rattle.yd_ids.proofs.SetOfLemmas.{maximal_spans}
use Rattle.yd_state.specs.Above.{clock_above, span_above, spans_above}

one_above : (clocks : ℕ → ℕ) (s : Span) (x : Id) → InSpan (span_above clocks s) x ↔ (InSpan s x × (clocks x.client.0 ≤ x.clock))
one_above clocks s x = (there (clocks s.client.0) refl, back (clocks s.client.0) refl)
  where
    there : (end : ℕ) → clocks s.client.0 ≡ end →
        (s.client.0 ≡ x.client.0) × (clock_above s end ≤ x.clock) × (x.clock < clock_above s end + (s.clock + s.len - clock_above s end)) → InSpan s x × (clocks x.client.0 ≤ x.clock)
    there end e (c, low, high) = ((c, omega (arith, low, high), omega (arith, low, high)), subst (λ n. clocks n ≤ x.clock) c (omega (arith, e, low, high)))

    back : (end : ℕ) → clocks s.client.0 ≡ end → InSpan s x × (clocks x.client.0 ≤ x.clock) →
        (s.client.0 ≡ x.client.0) × (clock_above s end ≤ x.clock) × (x.clock < clock_above s end + (s.clock + s.len - clock_above s end))
    back end e ((c, low, high), le) = let here : clocks s.client.0 ≤ x.clock = subst (λ n. clocks n ≤ x.clock) (sym c) le in
        (c, omega (arith, low, high, here, e), omega (arith, low, high, here, e))

is_above : (clocks : ℕ → ℕ) (s : Span) → IsSpan s → IsSpan (span_above clocks s)
is_above clocks s is = record { client = is.client; end = go (clocks s.client.0) }
  where
    go : (end : ℕ) → clock_above s end + (s.clock + s.len - clock_above s end) < 2 ^ 53
    go end = let e = is.end in omega (arith, e)

all_above : (clocks : ℕ → ℕ) (spans : List Span) (x : Id) → HasId (spans_above clocks spans) x ↔ (HasId spans x × (clocks x.client.0 ≤ x.clock))
all_above clocks [] x = ((λ h. absurd h), (λ h. h.0))
all_above clocks (s ∷ spans) x = (
  (λ h. elim h [
    | inl i ↦ let (j, lt) = (one_above clocks s x).0 i in (inl j, lt)
    | inr k ↦ let (j, lt) = (all_above clocks spans x).0 k in (inr j, lt)
  ]),
  (λ h. elim h.0 [ inl i ↦ inl ((one_above clocks s x).1 (i, h.1)) | inr k ↦ inr ((all_above clocks spans x).1 (k, h.1)) ]),
)

are_above : (clocks : ℕ → ℕ) (spans : List Span) → Each IsSpan spans → Each IsSpan (spans_above clocks spans)
are_above clocks [] each = tt
are_above clocks (s ∷ spans) each = (is_above clocks s each.0, are_above clocks spans each.1)

-- ---- lemmas for callers

-- once none is left, all are there
pub all_pushed : (clocks : ℕ → ℕ) (spans left begun all : List Span) → left ≡ [] → spans ++ spans_above clocks left ≡ begun ++ spans_above clocks all → spans ≡ begun ++ spans_above clocks all
all_pushed clocks spans left begun all none e = sym (append-nil spans) ∙ ap (λ ss. spans ++ spans_above clocks ss) (sym none) ∙ e

-- the spans of both sets, pushed one after another
module _ (clocks : ℕ → ℕ) (none first second waiting more : List Span) (empty : none ≡ []) (one : first ≡ none ++ spans_above clocks waiting) (two : second ≡ first ++ spans_above clocks more) where
  pub both_are : second ≡ spans_above clocks waiting ++ spans_above clocks more
  both_are = two ∙ ap (λ ss. ss ++ spans_above clocks more) (one ∙ ap (λ ss. ss ++ spans_above clocks waiting) empty)

  pub both_spans : AreMaximal waiting → AreMaximal more → Each IsSpan second
  both_spans m n = subst (Each IsSpan) (sym both_are) (each_append IsSpan (spans_above clocks waiting) (spans_above clocks more)
      (are_above clocks waiting (maximal_spans waiting m)) (are_above clocks more (maximal_spans more n)))

  pub both_above : (x : Id) → HasId second x ↔ ((HasId waiting x ⊎ HasId more x) × (clocks x.client.0 ≤ x.clock))
  both_above x = (
    (λ h. elim (has_front (spans_above clocks waiting) (spans_above clocks more) x (subst (λ ss. HasId ss x) both_are h)) [
      | inl i ↦ let (j, le) = (all_above clocks waiting x).0 i in (inl j, le)
      | inr i ↦ let (j, le) = (all_above clocks more x).0 i in (inr j, le)
    ]),
    (λ b. subst (λ ss. HasId ss x) (sym both_are) (has_either (spans_above clocks waiting) (spans_above clocks more) x (elim b.0 [
      | inl j ↦ inl ((all_above clocks waiting x).1 (j, b.1))
      | inr j ↦ inr ((all_above clocks more x).1 (j, b.1))
    ]))),
  )
