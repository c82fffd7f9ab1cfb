-- How many ids maximal spans have: they are in range, and as many as the held operations with one of them, where each is held.
use Rattle.std.proofs.Common.{◌≡◌, ℕ, zero, suc, ◌+◌, ◌*◌, ◌^◌, ◌<◌, ◌≤◌, true, List, [], ◌∷◌, ◌++◌, inl, inr, length, refl, sym, ap, ◌∙◌, subst, arith}
use Rattle.std.specs.Prelude.{◌↔◌, Bool, filter}
use Rattle.std.proofs.lemmas.List.{length-append}
use Rattle.yd_words.specs.Member.{IsIn, AreDistinct}
use Rattle.yd_words.proofs.FilterLemmas.{kept_one, one_kept}
use Rattle.yd_words.proofs.MemberLemmas.{in_left_part, in_right_part, in_parts}
use Rattle.yd_words.proofs.TestLemmas.{same_or_other}
use Rattle.yd_ids.specs.declared.id.Id.{Id}
use Rattle.yd_ids.specs.declared.id.Span.{Span}
use Rattle.yd_ids.specs.Id.{IsSpan}
use Rattle.yd_ids.specs.Set.{HasId, AreMaximal}
use Rattle.yd_ids.specs.Span.{EndsBefore}
use Rattle.yd_ids.proofs.IdLemmas.{same_numbers}
use Rattle.yd_ids.proofs.SetLemmas.{once}
use Rattle.yd_ops.specs.Operation.{Operation, later_id}
use Rattle.yd_origins.specs.Table.{ids_of}
use Rattle.yd_ops.specs.Received.{has_operation, IsWritten}
use Rattle.yd_ops.proofs.OneOfLemmas.{operation_with}
use Rattle.yd_meaning.specs.Held.{count_of_ids}
use Rattle.yd_meaning.specs.Order.{rows_of}
use Rattle.yd_meaning.proofs.RowLemmas.{one_row, row_one, written_distinct, distinct_kept}
use Rattle.yd_checking.proofs.DistinctLemmas.{one_length, distinct_parts}

-- ---- how many there can be

-- where a span begins, among all ids
position : Span → ℕ
position span = span.client.0 * 2 ^ 53 + span.clock

ends_by : (span next : Span) → IsSpan span → EndsBefore span next → position span + span.len ≤ position next
unfolding position
ends_by span next is (inl lt) = omega (arith, is.end)
ends_by span next is (inr b) = omega (arith, b.0, b.1)

count_from : (span : Span) (spans : List Span) → AreMaximal (span ∷ spans) → position span + count_of_ids (span ∷ spans) ≤ 2 ^ 106
unfolding position
count_from span [] m = omega (arith, m.0.client, m.0.end)
count_from span (next ∷ spans) m = omega (arith, count_from next spans m.3, ends_by span next m.0 m.2.0)

count_bound : (spans : List Span) → AreMaximal spans → count_of_ids spans ≤ 2 ^ 106
count_bound [] m = omega arith
count_bound (span ∷ spans) m = omega (arith, count_from span spans m)

count_parts : (front back : List Span) → count_of_ids (front ++ back) ≡ count_of_ids front + count_of_ids back
count_parts [] back = omega arith
count_parts (span ∷ front) back = omega (arith, count_parts front back)

-- ---- ids one by one

-- so many ids from one on
abbrev ids_from : ℕ → Id → List Id
ids_from zero x = []
ids_from (suc n) x = x ∷ ids_from n (later_id x 1)

-- the first id of a span
abbrev start_of : Span → Id
start_of span = record { client = span.client; clock = span.clock }

-- all ids of spans
abbrev all_ids : List Span → List Id
all_ids [] = []
all_ids (span ∷ spans) = ids_from span.len (start_of span) ++ all_ids spans

length-from : (n : ℕ) (x : Id) → length (ids_from n x) ≡ n
length-from zero x = refl
length-from (suc n) x = ap suc (length-from n (later_id x 1))

in_from : (n : ℕ) (x y : Id) → IsIn y (ids_from n x) → (x.client.0 ≡ y.client.0) × (x.clock ≤ y.clock) × (y.clock < x.clock + n)
in_from zero x y i = absurd i
in_from (suc n) x y (inl e) = (ap (λ (z : Id). z.client.0) (sym e), omega (arith, ap (λ (z : Id). z.clock) e), omega (arith, ap (λ (z : Id). z.clock) e))
in_from (suc n) x y (inr i) = let r = in_from n (later_id x 1) y i in (r.0, omega (arith, r.1), omega (arith, r.2))

from_in : (n : ℕ) (x y : Id) → x.client.0 ≡ y.client.0 → x.clock ≤ y.clock → y.clock < x.clock + n → IsIn y (ids_from n x)
from_in zero x y one low high = absurd (omega (arith, low, high))
from_in (suc n) x y one low high = elim (same_or_other x.clock y.clock) [
  | inl same ↦ inl (same_numbers y x (sym one) (sym same))
  | inr apart ↦ inr (from_in n (later_id x 1) y one (omega (arith, low, apart)) (omega (arith, high)))
]

distinct_from : (n : ℕ) (x : Id) → AreDistinct (ids_from n x)
distinct_from zero x = tt
distinct_from (suc n) x = ((λ i. absurd (omega (arith, (in_from n (later_id x 1) x i).1))), distinct_from n (later_id x 1))

in_all : (spans : List Span) (y : Id) → IsIn y (all_ids spans) → HasId spans y
in_all [] y i = absurd i
in_all (span ∷ spans) y i = elim (in_parts y (ids_from span.len (start_of span)) (all_ids spans) i) [
  | inl j ↦ inl (in_from span.len (start_of span) y j)
  | inr j ↦ inr (in_all spans y j)
]

all_in : (spans : List Span) (y : Id) → HasId spans y → IsIn y (all_ids spans)
all_in [] y h = absurd h
all_in (span ∷ spans) y (inl h) = in_left_part y (ids_from span.len (start_of span)) (all_ids spans) (from_in span.len (start_of span) y h.0 h.1 h.2)
all_in (span ∷ spans) y (inr h) = in_right_part y (ids_from span.len (start_of span)) (all_ids spans) (all_in spans y h)

distinct_all : (spans : List Span) → AreMaximal spans → AreDistinct (all_ids spans)
distinct_all [] m = tt
distinct_all (span ∷ spans) m = distinct_parts (ids_from span.len (start_of span)) (all_ids spans) (distinct_from span.len (start_of span)) (distinct_all spans m.3)
    (λ y i j. once span spans y m.2 (in_from span.len (start_of span) y i) (in_all spans y j))

length-all : (spans : List Span) → length (all_ids spans) ≡ count_of_ids spans
length-all [] = refl
length-all (span ∷ spans) = omega (
  arith,
  length-append (ids_from span.len (start_of span)) (all_ids spans),
  length-from span.len (start_of span),
  length-all spans,
)

length-ids : (os : List Operation) → length (ids_of (rows_of os)) ≡ length os
length-ids [] = refl
length-ids (o ∷ os) = ap suc (length-ids os)

-- ---- lemmas for callers

-- the ids of the spans so far, and those of the next one, are not many
pub few_deleted : (spans front back rest : List Span) (span : Span) → AreMaximal spans → front ++ back ≡ spans → back ≡ span ∷ rest →
    count_of_ids front + span.len ≤ 2 ^ 106
few_deleted spans front back rest span m all next = omega (
  arith,
  count_parts front (span ∷ rest),
  count_bound (front ++ span ∷ rest) (subst AreMaximal (sym all ∙ ap (λ (behind : List Span). front ++ behind) next) m),
)

-- one span more
pub ids_more : (front : List Span) (span : Span) → count_of_ids (front ++ span ∷ []) ≡ count_of_ids front + span.len
ids_more [] span = omega arith
ids_more (first ∷ front) span = omega (arith, ids_more front span)

-- maximal spans with the ids that a test passes have as many ids as operations pass it, where each such id is that of one
pub ids_pass : (held : List Operation) → IsWritten held → (spans : List Span) → AreMaximal spans → (test : Id → Bool) →
    ((x : Id) → HasId spans x ↔ (test x ≡ true)) → ((x : Id) → test x ≡ true → has_operation held x ≡ true) →
    count_of_ids spans ≡ length (filter (λ (o : Operation). test o.id) held)
ids_pass held w spans m test has there = sym (length-all spans)
    ∙ one_length (all_ids spans) (ids_of (rows_of passed)) (distinct_all spans m) (distinct_kept passes held (written_distinct held w)) to from ∙ length-ids passed
  where
    passes : Operation → Bool
    passes o = test o.id

    passed : List Operation
    passed = filter (λ (o : Operation). test o.id) held

    to : (x : Id) → IsIn x (all_ids spans) → IsIn x (ids_of (rows_of passed))
    to x i =
        let passing : test x ≡ true = (has x).0 (in_all spans x i) in
        let (o, j, e) = operation_with held x (there x passing) in
        subst (λ y. IsIn y (ids_of (rows_of passed))) e (one_row passed o (one_kept (λ (p : Operation). test p.id) held o (ap test e ∙ passing) j))

    from : (x : Id) → IsIn x (ids_of (rows_of passed)) → IsIn x (all_ids spans)
    from x i =
        let (o, j, e) = row_one passed x i in
        all_in spans x ((has x).1 (subst (λ y. test y ≡ true) e (kept_one (λ (p : Operation). test p.id) held o j).0))
