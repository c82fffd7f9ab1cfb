-- Spans in groups of one client each, from the last to the first.
use Rattle.std.proofs.Common.{◌≡◌, ℕ, zero, suc, ◌+◌, ◌<◌, ◌≤◌, true, false, Bool, List, [], ◌∷◌, ◌++◌, length, get_or, take, drop, reverse, refl, sym, ap, ◌∙◌, ◌≢◌, ⊎_elim, subst, arith}
use Rattle.std.specs.Prelude.{nat_eq, if◌then◌else◌}
use Rattle.std.proofs.lemmas.List.{drop_more, reverse-append}
use Rattle.yd_words.specs.Each.{Each}
use Rattle.yd_ids.specs.Id.{IsSpan}
use Rattle.yd_ids.specs.Set.{AreMaximal}
use Rattle.yd_ids.specs.Span.{EndsBefore}
use Rattle.yd_ids.specs.declared.id.Span.{Span}
use Rattle.yd_fields.specs.UpdateFields.{fields_of_group, fields_of_groups, groups_of, with_grouped}
use Rattle.yd_fields.specs.Writes.{AreRangesFrom, IsLastGroup}

-- a span of the client
abbrev pub IsOf : ℕ → Span → Type 0
IsOf client span = span.client.0 ≡ client

-- a number is itself
same_number : (n : ℕ) → nat_eq n n ≡ true
same_number n = grind arith

-- another number is not
other_number : (m n : ℕ) → m ≢ n → nat_eq m n ≡ false
other_number m n apart = grind (arith, apart)

-- spans of one client are one group
groups_one : (client : ℕ) (span : Span) (spans : List Span) → Each (IsOf client) (span ∷ spans) → groups_of (span ∷ spans) ≡ (span ∷ spans) ∷ []
groups_one client span [] all = refl
groups_one client span (next ∷ spans) all =
    let same : nat_eq span.client.0 next.client.0 ≡ true = ap (λ (n : ℕ). nat_eq n next.client.0) (all.0 ∙ sym all.1.0) ∙ same_number next.client.0 in
    ap (with_grouped span) (groups_one client next spans all.1) ∙ ap (λ (b : Bool). if b then (span ∷ next ∷ spans) ∷ [] else (span ∷ []) ∷ (next ∷ spans) ∷ []) same

-- there is a group
grouped_some : (span : Span) (groups : List (List Span)) → 0 < length (with_grouped span groups)
grouped_some span [] = omega arith
grouped_some span ([] ∷ groups) = omega arith
grouped_some span ((first ∷ rest) ∷ groups) = if_some (nat_eq span.client.0 first.client.0)
  where
    if_some : (b : Bool) → 0 < length (if b then (span ∷ first ∷ rest) ∷ groups else (span ∷ []) ∷ (first ∷ rest) ∷ groups)
    if_some true = omega arith
    if_some false = omega arith

-- a group more behind others stays there
grouped_append : (span : Span) (groups : List (List Span)) (last : List Span) → 0 < length groups → with_grouped span (groups ++ last ∷ []) ≡ with_grouped span groups ++ last ∷ []
grouped_append span [] last lt = absurd (omega arith)
grouped_append span ([] ∷ groups) last lt = refl
grouped_append span ((first ∷ rest) ∷ groups) last lt = by_test (nat_eq span.client.0 first.client.0)
  where
    by_test : (b : Bool) → (if b then (span ∷ first ∷ rest) ∷ (groups ++ last ∷ []) else (span ∷ []) ∷ (first ∷ rest) ∷ (groups ++ last ∷ [])) ≡ (if b then (span ∷ first ∷ rest) ∷ groups else (span ∷ []) ∷ (first ∷ rest) ∷ groups) ++ last ∷ []
    by_test true = refl
    by_test false = refl

-- the spans from a place on are the last group, where they are of one client and the span before them is not
groups_split : (start : ℕ) (spans : List Span) (client : ℕ) (d : Span) → start < length spans → Each (IsOf client) (drop start spans)
    → ((before : ℕ) → suc before ≡ start → (get_or spans before d).client.0 ≢ client)
    → groups_of spans ≡ groups_of (take start spans) ++ (drop start spans ∷ [])
groups_split zero [] client d lt all other = absurd (omega arith)
groups_split zero (span ∷ spans) client d lt all other = groups_one client span spans all
groups_split (suc zero) [] client d lt all other = absurd (omega arith)
groups_split (suc zero) (span ∷ []) client d lt all other = absurd (omega arith)
groups_split (suc zero) (span ∷ next ∷ spans) client d lt all other =
    let apart : nat_eq span.client.0 next.client.0 ≡ false = ap (nat_eq span.client.0) all.0 ∙ other_number span.client.0 client (other zero refl) in
    ap (with_grouped span) (groups_one client next spans all) ∙ ap (λ (b : Bool). if b then (span ∷ next ∷ spans) ∷ [] else (span ∷ []) ∷ (next ∷ spans) ∷ []) apart
groups_split (suc (suc start)) [] client d lt all other = absurd (omega arith)
groups_split (suc (suc start)) (span ∷ []) client d lt all other = absurd (omega arith)
groups_split (suc (suc start)) (span ∷ next ∷ spans) client d lt all other =
    ap (with_grouped span) (groups_split (suc start) (next ∷ spans) client d (omega arith) all (λ before e. other (suc before) (ap suc e)))
    ∙ grouped_append span (groups_of (take (suc start) (next ∷ spans))) (drop (suc start) (next ∷ spans)) (grouped_some next (groups_of (take start spans)))

-- ---- lemmas for callers

pub last_group_is : (spans : List Span) (start : ℕ) (client : ℕ) (d : Span) → start < length spans → Each (λ span. span.client.0 ≡ client) (drop start spans)
    → ((before : ℕ) → suc before ≡ start → (get_or spans before d).client.0 ≢ client) → IsLastGroup spans start
last_group_is spans start client d lt all other = record { client = client; one_client = all; groups = groups_split start spans client d lt all other }

-- the fields of the last group stand before those of the others
pub last_group_fields : (spans others group : List Span) (start : ℕ) → IsLastGroup spans start → others ≡ take start spans → group ≡ drop start spans
    → fields_of_groups (reverse (groups_of spans)) ≡ fields_of_group group ++ fields_of_groups (reverse (groups_of others))
last_group_fields spans others group start last front back =
    ap (λ (groups : List (List Span)). fields_of_groups (reverse groups)) last.groups
    ∙ ap fields_of_groups (reverse-append (groups_of (take start spans)) (drop start spans ∷ []))
    ∙ ap (λ (taken : List Span). fields_of_group taken ++ fields_of_groups (reverse (groups_of (take start spans)))) (sym back)
    ∙ ap (λ (left : List Span). fields_of_group group ++ fields_of_groups (reverse (groups_of left))) (sym front)

-- one span more of the client
pub one_client_more : (spans : List Span) (start before : ℕ) (client : ℕ) (d : Span) → suc before ≡ start → start < length spans → (get_or spans before d).client.0 ≡ client
    → Each (λ span. span.client.0 ≡ client) (drop start spans) → Each (λ span. span.client.0 ≡ client) (drop before spans)
one_client_more spans start before client d e lt here all =
    subst (Each (IsOf client)) (sym (drop_more spans before d (omega arith)))
    (here, subst (λ (n : ℕ). Each (IsOf client) (drop n spans)) (omega (arith, e)) all)

-- ---- maximal spans

each_front : {X : Type 0} (P : X → Type 0) (n : ℕ) (xs : List X) → Each P xs → Each P (take n xs)
each_front P zero xs all = tt
each_front P (suc n) [] all = tt
each_front P (suc n) (x ∷ xs) all = (all.0, each_front P n xs all.1)

pub maximal_front : (n : ℕ) (spans : List Span) → AreMaximal spans → AreMaximal (take n spans)
maximal_front zero spans all = tt
maximal_front (suc n) [] all = tt
maximal_front (suc n) (span ∷ spans) all = (all.0, all.1, each_front (EndsBefore span) n spans all.2, maximal_front n spans all.3)

pub maximal_back : (n : ℕ) (spans : List Span) → AreMaximal spans → AreMaximal (drop n spans)
maximal_back zero spans all = all
maximal_back (suc n) [] all = tt
maximal_back (suc n) (span ∷ spans) all = maximal_back n spans all.3

pub maximal_spans : (spans : List Span) → AreMaximal spans → Each IsSpan spans
maximal_spans [] all = tt
maximal_spans (span ∷ spans) all = (all.0, maximal_spans spans all.3)

-- spans of one client that end before others begin there
begins_behind : (client : ℕ) (span : Span) (spans : List Span) → span.client.0 ≡ client → Each (IsOf client) spans → Each (EndsBefore span) spans → Each (λ next. span.clock + span.len ≤ next.clock) spans
begins_behind client span [] e all ends = tt
begins_behind client span (next ∷ spans) e all ends = (
  ⊎_elim (λ (lt : span.client.0 < next.client.0). absurd (omega (arith, e ∙ sym all.0))) (λ (w : (span.client.0 ≡ next.client.0) × (span.clock + span.len < next.clock)). omega arith) ends.0,
  begins_behind client span spans e all.1 ends.1,
)

ranges_from : (client : ℕ) (before : ℕ) (spans : List Span) → AreMaximal spans → Each (λ span. span.client.0 ≡ client) spans → Each (λ span. before ≤ span.clock) spans → AreRangesFrom before spans
ranges_from client before [] all one behind = tt
ranges_from client before (span ∷ spans) all one behind =
    (behind.0, omega arith, all.0.end, ranges_from client (span.clock + span.len) spans all.3 one.1 (begins_behind client span spans one.0 one.1 all.2))

each_anywhere : (spans : List Span) → Each (λ span. 0 ≤ span.clock) spans
each_anywhere [] = tt
each_anywhere (span ∷ spans) = (omega arith, each_anywhere spans)

-- the last group can be written
pub last_group_ranges : (spans : List Span) (start : ℕ) → AreMaximal spans → IsLastGroup spans start → AreRangesFrom 0 (drop start spans)
last_group_ranges spans start all last = ranges_from last.client 0 (drop start spans) (maximal_back start spans all) last.one_client (each_anywhere (drop start spans))
