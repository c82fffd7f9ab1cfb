-- Parts of a set: they are sets, and which ids they have.
use Rattle.std.proofs.Common.{◌≡◌, ◌↔◌, ℕ, zero, suc, ◌+◌, ◌^◌, ◌<◌, ◌≤◌, Bool, true, false, cond, List, [], ◌∷◌, ◌++◌, map, ◌⊎◌, inl, inr, refl, sym, ap, ◌∙◌, subst, arith, true≢false}
use Rattle.std.specs.Prelude.{filter}
use Rattle.yd_words.specs.Each.{Each}
use Rattle.yd_words.proofs.EachLemmas.{each_append}
use Rattle.yd_ids.specs.declared.id.Client.{Client}
use Rattle.yd_ids.specs.declared.id.Id.{Id}
use Rattle.yd_ids.specs.declared.id.Span.{Span}
use Rattle.yd_ids.specs.Id.{IsClient, IsSpan}
use Rattle.yd_ids.specs.Set.{HasId, AreMaximal}
use Rattle.yd_ids.specs.Span.{InSpan}
use Rattle.yd_ids.proofs.IdLemmas.{same_numbers}
use Rattle.yd_ids.proofs.SetOfLemmas.{set_of_maximal, set_of_ids, set_of_alone}
use Rattle.yd_subsets.specs.Part.{ids_from, ids_in, span_of_one, part_that, PartsAreTheirIds}

-- the id is one of the list's
abbrev pub IsAmong : List Id → Id → Type 0
IsAmong [] x = ⊥
IsAmong (y ∷ ys) x = (y ≡ x) ⊎ IsAmong ys x

among_front : (xs ys : List Id) (x : Id) → IsAmong (xs ++ ys) x → IsAmong xs x ⊎ IsAmong ys x
among_front [] ys x h = inr h
among_front (y ∷ xs) ys x (inl e) = inl (inl e)
among_front (y ∷ xs) ys x (inr h) = elim (among_front xs ys x h) [ inl a ↦ inl (inr a) | inr b ↦ inr b ]

among_either : (xs ys : List Id) (x : Id) → IsAmong xs x ⊎ IsAmong ys x → IsAmong (xs ++ ys) x
among_either [] ys x (inl h) = absurd h
among_either [] ys x (inr h) = h
among_either (y ∷ xs) ys x (inl (inl e)) = inl e
among_either (y ∷ xs) ys x (inl (inr h)) = inr (among_either xs ys x (inl h))
among_either (y ∷ xs) ys x (inr h) = inr (among_either xs ys x (inr h))

-- ---- ids of spans

from_in : (client : Client) (clock len : ℕ) (x : Id) → IsAmong (ids_from client clock len) x → (client.0 ≡ x.client.0) × (clock ≤ x.clock) × (x.clock < clock + len)
from_in client clock zero x h = absurd h
from_in client clock (suc len) x (inl e) = let k = ap (λ (y : Id). y.clock) e in (ap (λ (y : Id). y.client.0) e, omega (arith, k), omega (arith, k))
from_in client clock (suc len) x (inr h) = let (c, low, high) = from_in client (clock + 1) len x h in (c, omega (arith, low), omega (arith, high))

in_from : (client : Client) (clock len : ℕ) (x : Id) → (client.0 ≡ x.client.0) × (clock ≤ x.clock) × (x.clock < clock + len) → IsAmong (ids_from client clock len) x
in_from client clock zero x (c, low, high) = absurd (omega (arith, low, high))
in_from client clock (suc len) x (c, low, high) = elim (first_or_later clock x.clock low) [
  | inl e ↦ inl (same_numbers (record { client = client; clock = clock }) x c e)
  | inr lt ↦ inr (in_from client (clock + 1) len x (c, omega (arith, lt), omega (arith, high)))
]
  where
    first_or_later : (a b : ℕ) → a ≤ b → (a ≡ b) ⊎ (a < b)
    first_or_later zero zero m = inl refl
    first_or_later zero (suc b) m = inr (omega arith)
    first_or_later (suc a) zero m = absurd (omega (arith, m))
    first_or_later (suc a) (suc b) m = elim (first_or_later a b (omega (arith, m))) [ inl e ↦ inl (ap suc e) | inr k ↦ inr (omega (arith, k)) ]

pub among_has : (spans : List Span) (x : Id) → IsAmong (ids_in spans) x ↔ HasId spans x
among_has [] x = ((λ h. h), (λ h. h))
among_has (span ∷ spans) x = (
  (λ h. elim (among_front (ids_from span.client span.clock span.len) (ids_in spans) x h) [
    | inl a ↦ inl (from_in span.client span.clock span.len x a)
    | inr b ↦ inr ((among_has spans x).0 b)
  ]),
  (λ h. among_either (ids_from span.client span.clock span.len) (ids_in spans) x (elim h [
    | inl i ↦ inl (in_from span.client span.clock span.len x i)
    | inr k ↦ inr ((among_has spans x).1 k)
  ])),
)

-- ---- those that pass a test, as spans of one id

in_one : (y x : Id) → InSpan (span_of_one y) x → y ≡ x
in_one y x (c, low, high) = same_numbers y x c (omega (arith, low, high))

one_in : (y x : Id) → y ≡ x → InSpan (span_of_one y) x
one_in y x e = let k = ap (λ (z : Id). z.clock) e in (ap (λ (z : Id). z.client.0) e, omega (arith, k), omega (arith, k))

passed_has : (test : Id → Bool) (ids : List Id) (x : Id) → HasId (map span_of_one (filter test ids)) x ↔ (IsAmong ids x × (test x ≡ true))
passed_has test [] x = ((λ h. absurd h), (λ h. h.0))
passed_has test (y ∷ ids) x = go (passed_has test ids x) (test y) refl
  where
    go : HasId (map span_of_one (filter test ids)) x ↔ (IsAmong ids x × (test x ≡ true)) → (t : Bool) → test y ≡ t → HasId (map span_of_one (cond t (y ∷ filter test ids) (filter test ids))) x ↔ (IsAmong (y ∷ ids) x × (test x ≡ true))
    go rest true e = (
      (λ h. elim h [
        | inl i ↦ let same = in_one y x i in (inl same, subst (λ z. test z ≡ true) same e)
        | inr k ↦ let (a, f) = rest.0 k in (inr a, f)
      ]),
      (λ h. elim h.0 [ inl same ↦ inl (one_in y x same) | inr a ↦ inr (rest.1 (a, h.1)) ]),
    )
    go rest false e = (
      (λ h. let (a, f) = rest.0 h in (inr a, f)),
      (λ h. elim h.0 [ inl same ↦ absurd (true≢false (sym h.1 ∙ subst (λ z. test z ≡ false) same e)) | inr a ↦ rest.1 (a, h.1) ]),
    )

-- ---- they are spans

abbrev IsIdInSpan : Id → Type 0
IsIdInSpan y = IsSpan (span_of_one y)

from_spans : (client : Client) (clock len : ℕ) → IsClient client → clock + len < 2 ^ 53 → Each IsIdInSpan (ids_from client clock len)
from_spans client clock zero is lt = tt
from_spans client clock (suc len) is lt = (record { client = is; end = omega (arith, lt) }, from_spans client (clock + 1) len is (omega (arith, lt)))

ids_spans : (spans : List Span) → Each IsSpan spans → Each IsIdInSpan (ids_in spans)
ids_spans [] each = tt
ids_spans (span ∷ spans) each = each_append IsIdInSpan (ids_from span.client span.clock span.len) (ids_in spans)
    (from_spans span.client span.clock span.len each.0.client each.0.end) (ids_spans spans each.1)

passed_spans : (test : Id → Bool) (ids : List Id) → Each IsIdInSpan ids → Each IsSpan (map span_of_one (filter test ids))
passed_spans test [] each = tt
passed_spans test (y ∷ ids) each = go (passed_spans test ids each.1) (test y)
  where
    go : Each IsSpan (map span_of_one (filter test ids)) → (t : Bool) → Each IsSpan (map span_of_one (cond t (y ∷ filter test ids) (filter test ids)))
    go rest true = (each.0, rest)
    go rest false = rest

-- ---- lemmas for callers

pub part_maximal : (test : Id → Bool) (spans : List Span) → Each IsSpan spans → AreMaximal (part_that test spans)
part_maximal test spans each = set_of_maximal (map span_of_one (filter test (ids_in spans))) (passed_spans test (ids_in spans) (ids_spans spans each))

pub part_ids : (test : Id → Bool) (spans : List Span) (x : Id) → HasId (part_that test spans) x ↔ (HasId spans x × (test x ≡ true))
part_ids test spans x = (
  (λ h. let (a, e) = (passed_has test (ids_in spans) x).0 ((set_of_ids (map span_of_one (filter test (ids_in spans))) x).0 h) in ((among_has spans x).0 a, e)),
  (λ h. (set_of_ids (map span_of_one (filter test (ids_in spans))) x).1 ((passed_has test (ids_in spans) x).1 ((among_has spans x).1 h.0, h.1))),
)

pub part_alone : (test : Id → Bool) (spans part : List Span) → Each IsSpan spans → AreMaximal part → ((x : Id) → HasId part x ↔ (HasId spans x × (test x ≡ true))) → part ≡ part_that test spans
part_alone test spans part each maximal ids = set_of_alone (map span_of_one (filter test (ids_in spans))) part (passed_spans test (ids_in spans) (ids_spans spans each)) maximal (λ x. (
  (λ h. let (a, e) = (ids x).0 h in (passed_has test (ids_in spans) x).1 ((among_has spans x).1 a, e)),
  (λ h. let (a, e) = (passed_has test (ids_in spans) x).0 h in (ids x).1 ((among_has spans x).0 a, e)),
))

pub parts_are_their_ids : PartsAreTheirIds
parts_are_their_ids = record { maximal = part_maximal; ids = part_ids; alone = part_alone }
