-- The fields of a delete set are what its plan wants.
use Rattle.std.proofs.Common.{◌≡◌, ◌+◌, ◌++◌, [], ◌∷◌, ℕ, Bool, true, false, List, length, reverse, nat_eq, if◌then◌else◌, refl, sym, ap, subst, ◌∙◌, append_assoc, append-nil}
use Rattle.std.specs.List.Sorted.{IsPermutation}
use Rattle.std.proofs.lemmas.Bool.{eqb-true}
use Rattle.std.proofs.lemmas.List.{length-reverse, reverse-append}
use Rattle.std.proofs.lemmas.List.Sorted.{IsPermutation-append_comm, IsPermutation-append_left, IsPermutation-refl, IsPermutation-reverse, IsPermutation-trans}
use Rattle.yd_words.specs.Each.{Each}
use Rattle.yd_words.proofs.EachLemmas.{each_permuted, each_weaker}
use Rattle.yd_ids.specs.Set.{AreMaximal, set_of}
use Rattle.yd_ids.specs.declared.id.Span.{Span}
use Rattle.yd_ids.proofs.SetOfLemmas.{maximal_spans, set_of_permuted, set_of_set}
use Rattle.yd_fields.specs.Field as field
use Rattle.yd_parts.specs.Plan.{give, Expects, repeated}
use Rattle.yd_fields.specs.UpdateFields.{fields_of_deletes, fields_of_group, fields_of_groups, fields_of_ranges, groups_of, with_grouped}
use Rattle.yd_fields.specs.UpdatePlan.{RangesRead, clients_step, deletes_plan, ranges_step}
use Rattle.yd_parts.proofs.ExpectLemmas.{expects_last, expects_none, expects_step}

-- ---- ranges of a client

-- the span is one of the client's
abbrev IsOf : ℕ → Span → Type 0
IsOf client span = span.client.0 ≡ client

-- the clock behind the last of the spans, or behind which they come
abbrev end_behind : ℕ → List Span → ℕ
end_behind before [] = before
end_behind before (span ∷ spans) = end_behind (span.clock + span.len) spans

-- one more range
range_expects : (client before : ℕ) (span : Span) (found : List Span) → IsOf client span →
    Expects (ranges_step (record { 0 = client }) (record { end = before; spans = found })) ((field.range before, (span.clock, span.len)) ∷ []) (record { end = span.clock + span.len; spans = found ++ span ∷ [] })
unfolding ranges_step
range_expects client before span found of = ((span.clock, span.len), refl, λ spot. ap (behind span.clock span.len) (sym of))
  where
    behind : ℕ → ℕ → ℕ → RangesRead
    behind clock len number = record { end = clock + len; spans = found ++ record { client = record { 0 = number }; clock = clock; len = len } ∷ [] }

-- the ranges of a client
ranges_expect : (client before : ℕ) (spans found : List Span) → Each (IsOf client) spans →
    Expects (repeated (ranges_step (record { 0 = client })) (length spans) (record { end = before; spans = found })) (fields_of_ranges before spans) (record { end = end_behind before spans; spans = found ++ spans })
ranges_expect client before [] found of = expects_none (ranges_step (record { 0 = client })) (record { end = before; spans = found }) (record { end = before; spans = found ++ [] }) (ap (λ spans. record { end = before; spans = spans }) (sym (append-nil found)))
ranges_expect client before (span ∷ spans) found of =
    let rest = ranges_expect client (span.clock + span.len) spans (found ++ span ∷ []) of.1 in
    expects_step (ranges_step (record { 0 = client })) (length spans) (record { end = before; spans = found }) (record { end = span.clock + span.len; spans = found ++ span ∷ [] }) (record { end = end_behind (span.clock + span.len) spans; spans = found ++ span ∷ spans })
    ((field.range before, (span.clock, span.len)) ∷ []) (fields_of_ranges (span.clock + span.len) spans) (range_expects client before span found of.0) (rw append_assoc at rest)

-- ---- groups

-- the group is not empty, and all its spans are of the client of the first one
abbrev IsGroup : List Span → Type 0
IsGroup [] = ⊥
IsGroup (first ∷ rest) = Each (IsOf first.client.0) rest

-- a client with its ranges
group_expects : (group found : List Span) → IsGroup group → Expects (clients_step found) (fields_of_group group) (found ++ group)
unfolding clients_step
group_expects [] found is = absurd is
group_expects (first ∷ rest) found is = (
  first.client.0,
  refl,
  λ spot. (
    length (first ∷ rest),
    refl,
    λ at.
        expects_last (repeated (ranges_step (record { 0 = first.client.0 })) (length (first ∷ rest)) (record { end = 0; spans = found })) (λ read. give read.spans) (fields_of_ranges 0 (first ∷ rest))
        (record { end = end_behind 0 (first ∷ rest); spans = found ++ first ∷ rest }) (found ++ first ∷ rest) (ranges_expect first.client.0 0 (first ∷ rest) found (refl, is)) refl,
  ),
)

-- the spans of groups
abbrev spans_in : List (List Span) → List Span
spans_in [] = []
spans_in (group ∷ groups) = group ++ spans_in groups

-- clients with their ranges
groups_expect : (groups : List (List Span)) (found : List Span) → Each IsGroup groups → Expects (repeated clients_step (length groups) found) (fields_of_groups groups) (found ++ spans_in groups)
groups_expect [] found are = expects_none clients_step found (found ++ []) (sym (append-nil found))
groups_expect (group ∷ groups) found are =
    let rest = groups_expect groups (found ++ group) are.1 in
    expects_step clients_step (length groups) found (found ++ group) (found ++ (group ++ spans_in groups)) (fields_of_group group) (fields_of_groups groups) (group_expects group found are.0) (rw append_assoc at rest)

-- a span before groups leaves groups
grouped_are : (span : Span) (groups : List (List Span)) → Each IsGroup groups → Each IsGroup (with_grouped span groups)
grouped_are span [] are = (tt, tt)
grouped_are span ([] ∷ groups) are = absurd are.0
grouped_are span ((first ∷ rest) ∷ groups) are = by (nat_eq span.client.0 first.client.0) refl
  where
    by : (test : Bool) → nat_eq span.client.0 first.client.0 ≡ test → Each IsGroup (if test then (span ∷ first ∷ rest) ∷ groups else (span ∷ []) ∷ (first ∷ rest) ∷ groups)
    by true same =
        let one : span.client.0 ≡ first.client.0 = eqb-true span.client.0 first.client.0 same in
        ((sym one, each_weaker (IsOf first.client.0) (IsOf span.client.0) (λ other of. of ∙ sym one) rest are.0), are.1)
    by false other = (tt, are)

-- spans are grouped to groups
groups_are : (spans : List Span) → Each IsGroup (groups_of spans)
groups_are [] = tt
groups_are (span ∷ spans) = grouped_are span (groups_of spans) (groups_are spans)

-- a span before groups is one more of their spans
spans_in-with_grouped : (span : Span) (groups : List (List Span)) → spans_in (with_grouped span groups) ≡ span ∷ spans_in groups
spans_in-with_grouped span [] = refl
spans_in-with_grouped span ([] ∷ groups) = refl
spans_in-with_grouped span ((first ∷ rest) ∷ groups) = by (nat_eq span.client.0 first.client.0)
  where
    by : (test : Bool) → spans_in (if test then (span ∷ first ∷ rest) ∷ groups else (span ∷ []) ∷ (first ∷ rest) ∷ groups) ≡ span ∷ first ∷ (rest ++ spans_in groups)
    by true = refl
    by false = refl

-- grouped spans are the spans
spans_in-groups_of : (spans : List Span) → spans_in (groups_of spans) ≡ spans
spans_in-groups_of [] = refl
spans_in-groups_of (span ∷ spans) = spans_in-with_grouped span (groups_of spans) ∙ ap (λ others. span ∷ others) (spans_in-groups_of spans)

-- the spans of groups in two lists
spans_in-append : (groups others : List (List Span)) → spans_in (groups ++ others) ≡ spans_in groups ++ spans_in others
spans_in-append [] others = refl
spans_in-append (group ∷ groups) others = ap (λ spans. group ++ spans) (spans_in-append groups others) ∙ sym (append_assoc group (spans_in groups) (spans_in others))

-- groups in reverse order have the same spans in another order
reversed_permuted : (groups : List (List Span)) → IsPermutation (spans_in groups) (spans_in (reverse groups))
reversed_permuted [] = IsPermutation-refl []
reversed_permuted (group ∷ groups) =
    let last : spans_in (reverse (group ∷ groups)) ≡ spans_in (reverse groups) ++ group =
    ap spans_in (reverse-append (group ∷ []) groups) ∙ spans_in-append (reverse groups) (group ∷ []) ∙ ap (λ spans. spans_in (reverse groups) ++ spans) (append-nil group) in
    subst (IsPermutation (group ++ spans_in groups)) (sym last)
    (IsPermutation-trans (group ++ spans_in groups) (spans_in groups ++ group) (spans_in (reverse groups) ++ group) (IsPermutation-append_comm group (spans_in groups))
    (IsPermutation-append_left group (spans_in groups) (spans_in (reverse groups)) (reversed_permuted groups)))

-- ---- delete sets

-- the groups of a set in reverse order are the set again
set_of_reversed : (set : List Span) → AreMaximal set → set_of (spans_in (reverse (groups_of set))) ≡ set
set_of_reversed set maximal =
    let order : IsPermutation set (spans_in (reverse (groups_of set))) = subst (λ spans. IsPermutation spans (spans_in (reverse (groups_of set)))) (spans_in-groups_of set) (reversed_permuted (groups_of set)) in
    sym (set_of_permuted set (spans_in (reverse (groups_of set))) (maximal_spans set maximal) order) ∙ set_of_set set maximal

-- the fields of a delete set are what its plan wants
pub deletes_expect : (deletes : List Span) → AreMaximal deletes → Expects deletes_plan (fields_of_deletes deletes) deletes
unfolding deletes_plan
deletes_expect deletes maximal =
    let groups = reverse (groups_of deletes) in
    let are : Each IsGroup groups = each_permuted IsGroup (groups_of deletes) groups (IsPermutation-reverse (groups_of deletes)) (groups_are deletes) in
    let clients : Expects (repeated clients_step (length (groups_of deletes)) []) (fields_of_groups groups) (spans_in groups) =
    subst (λ count. Expects (repeated clients_step count []) (fields_of_groups groups) (spans_in groups)) (length-reverse (groups_of deletes)) (groups_expect groups [] are) in
    (length (groups_of deletes), refl, λ spot. expects_last (repeated clients_step (length (groups_of deletes)) []) (λ spans. give (set_of spans)) (fields_of_groups groups) (spans_in groups) deletes clients (set_of_reversed deletes maximal))
