-- The set of spans: it is maximal, and it has their ids.
use Rattle.std.proofs.Common.{◌≡◌, List, [], ◌∷◌, inl, inr}
use Rattle.std.specs.List.Sorted.{IsPermutation}
use Rattle.yd_words.specs.Each.{Each}
use Rattle.yd_words.proofs.EachLemmas.{each_permuted}
use Rattle.yd_ids.specs.declared.id.Span.{Span}
use Rattle.yd_ids.specs.Id.{IsSpan}
use Rattle.yd_ids.specs.Set.{HasId, HaveSameIds, AreMaximal, AddsSpan, with_span, set_of}
use Rattle.yd_ids.proofs.SetLemmas.{same_back, same_through, permuted_same}
use Rattle.yd_ids.proofs.UnionLemmas.{sets_same, with_maximal, with_ids}

-- one span more on both sides
same_with : (span : Span) (set rest : List Span) → HaveSameIds set rest → AddsSpan set (with_span span set) span → HaveSameIds (with_span span set) (span ∷ rest)
same_with span set rest h f id = (there, back)
  where
    there : HasId (with_span span set) id → HasId (span ∷ rest) id
    there k = elim ((f id).0 k) [ inl a ↦ inr ((h id).0 a) | inr i ↦ inl i ]

    back : HasId (span ∷ rest) id → HasId (with_span span set) id
    back (inl i) = (f id).1 (inr i)
    back (inr k) = (f id).1 (inl ((h id).1 k))

-- ---- lemmas for callers

pub maximal_spans : (set : List Span) → AreMaximal set → Each IsSpan set
maximal_spans [] m = tt
maximal_spans (span ∷ rest) m = (m.0, maximal_spans rest m.3)

pub set_of_maximal : (spans : List Span) → Each IsSpan spans → AreMaximal (set_of spans)
set_of_maximal [] are = tt
set_of_maximal (span ∷ rest) are = with_maximal span (set_of rest) are.0 (set_of_maximal rest are.1)

pub set_of_ids : (spans : List Span) → HaveSameIds (set_of spans) spans
set_of_ids [] = λ id. ((λ h. h), (λ h. h))
set_of_ids (span ∷ rest) = same_with span (set_of rest) rest (set_of_ids rest) (with_ids span (set_of rest))

-- a set that has the ids of the spans
pub set_of_alone : (spans set : List Span) → Each IsSpan spans → AreMaximal set → HaveSameIds set spans → set ≡ set_of spans
set_of_alone spans set are m same = sets_same set (set_of spans) m (set_of_maximal spans are) (same_through set spans (set_of spans) same (same_back (set_of spans) spans (set_of_ids spans)))

-- spans with the same ids, in whatever order and however they overlap
pub set_of_same : (spans others : List Span) → Each IsSpan spans → Each IsSpan others → HaveSameIds spans others → set_of spans ≡ set_of others
set_of_same spans others are bound same = set_of_alone others (set_of spans) bound (set_of_maximal spans are) (same_through (set_of spans) spans others (set_of_ids spans) same)

pub set_of_permuted : (spans others : List Span) → Each IsSpan spans → IsPermutation spans others → set_of spans ≡ set_of others
set_of_permuted spans others are p = set_of_same spans others are (each_permuted IsSpan spans others p are) (permuted_same spans others p)

-- a set stays as it is
pub set_of_set : (set : List Span) → AreMaximal set → set_of set ≡ set
set_of_set set m = sets_same (set_of set) set (set_of_maximal set (maximal_spans set m)) m (set_of_ids set)
