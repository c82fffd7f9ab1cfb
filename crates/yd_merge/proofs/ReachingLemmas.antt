-- How far ids reach: a client's clock is the end of its span that begins at 0, and so an update reaches.
use Rattle.std.proofs.Common.{◌≡◌, ◌≢◌, ◌↔◌, ℕ, ◌+◌, ◌<◌, ◌≤◌, ◌-◌, max, Bool, true, false, nat_eq, List, [], ◌∷◌, inl, inr, map, cond, refl, sym, ap, ◌∙◌, subst, arith, tests, true≢false}
use Rattle.std.proofs.lemmas.Bool.{cases_lt}
use Rattle.yd_words.specs.Each.{Each}
use Rattle.yd_words.specs.Member.{IsIn}
use Rattle.yd_words.proofs.MemberLemmas.{in_left_part, in_parts, in_right_part}
use Rattle.yd_words.proofs.TestLemmas.{test_fails}
use Rattle.yd_ids.specs.declared.id.Client.{Client}
use Rattle.yd_ids.specs.declared.id.Id.{Id}
use Rattle.yd_ids.specs.declared.id.Span.{Span}
use Rattle.yd_ids.specs.Id.{IsSpan}
use Rattle.yd_ids.specs.Set.{AreMaximal, HasId, HaveSameIds}
use Rattle.yd_ids.specs.Span.{EndsBefore, InSpan}
use Rattle.yd_ids.specs.Vector.{IsVector, clock_of, with_clock}
use Rattle.yd_ids.proofs.IdLemmas.{same_numbers}
use Rattle.yd_ids.proofs.MaximumLemmas.{with_this, with_other, with_vector}
use Rattle.yd_ids.proofs.VectorLemmas.{vectors_same}
use Rattle.yd_ops.specs.Operation.{Operation, later_id, operations_of}
use Rattle.yd_ops.specs.Valid.{IsValidUpdate}
use Rattle.yd_ops.specs.Value.{UpdateValue}
use Rattle.yd_ops.specs.Received.{has_operation}
use Rattle.yd_ops.proofs.OneOfLemmas.{id_there, operation_with}
use Rattle.yd_grouping.specs.Groups.{Group, operations_of_group, operations_of_groups, start_of}
use Rattle.yd_grouping.specs.Merged.{merge_of}
use Rattle.yd_grouping.specs.Reach.{reach_of}
use Rattle.yd_grouping.proofs.BlockLemmas.{group_has}
use Rattle.yd_grouping.proofs.MergeLemmas.{merge_valid}
use Rattle.yd_grouping.proofs.MergedIdsLemmas.{merge_ids}
use Rattle.yd_grouping.proofs.ReachLemmas.{reach_missing, reach_there, reach_vector}
use Rattle.yd_merge.specs.Lending.{IsLent, blocks_groups, lent_group, updates_groups}
use Rattle.yd_merge.specs.declared.lending.Lent.{Lent}
use Rattle.yd_merge.specs.Reaching.{Reaches, all_started, id_at, span_of, spans_of, started_by}
use Rattle.yd_merge.proofs.TurnLemmas.{at_place, blocks-groups-operations, updates-operations}

-- ---- the spans of groups

in_group : (group : Group) (x : Id) → InSpan (span_of group) x → (o : Operation) × IsIn o (operations_of_group group) × (o.id ≡ x)
in_group group x (client, low, high) = let (k, e) : (k : ℕ) × ((start_of group).clock + k ≡ x.clock) = found in
    let (o, i, same) = group_has group k (omega (arith, e, high)) in (o, i, same ∙ same_numbers (later_id (start_of group) k) x client e)
  where
    found : (k : ℕ) × ((start_of group).clock + k ≡ x.clock)
    found = (x.clock - (start_of group).clock, omega (arith, low))

has_span : (groups : List Group) (x : Id) → HasId (spans_of groups) x → has_operation (operations_of_groups groups) x ≡ true
has_span [] x h = absurd h
has_span (group ∷ groups) x (inl i) = let (o, j, e) = in_group group x i in
    id_there (operations_of_groups (group ∷ groups)) o x (in_left_part o (operations_of_group group) (operations_of_groups groups) j) e
has_span (group ∷ groups) x (inr h) = let (o, j, e) = operation_with (operations_of_groups groups) x (has_span groups x h) in
    id_there (operations_of_groups (group ∷ groups)) o x (in_right_part o (operations_of_group group) (operations_of_groups groups) j) e

in_spans : (groups : List Group) (o : Operation) → IsIn o (operations_of_groups groups) → HasId (spans_of groups) o.id
in_spans [] o i = absurd i
in_spans (group ∷ groups) o i = elim (in_parts o (operations_of_group group) (operations_of_groups groups) i) [
  | inl j ↦ let (k, lt, e) = at_place group o j in
      inl (sym (ap (λ (y : Id). y.client.0) e), omega (arith, ap (λ (y : Id). y.clock) e), omega (arith, lt, ap (λ (y : Id). y.clock) e))
  | inr j ↦ inr (in_spans groups o j)
]

span_has : (groups : List Group) (x : Id) → has_operation (operations_of_groups groups) x ≡ true → HasId (spans_of groups) x
span_has groups x e = let (o, i, same) = operation_with (operations_of_groups groups) x e in subst (HasId (spans_of groups)) same (in_spans groups o i)

-- ---- maximal spans, one after another

-- the end of the client's span that begins at 0, or 0
abbrev start_end : List Span → ℕ → ℕ
start_end [] client = 0
start_end (span ∷ spans) client = cond (nat_eq span.client.0 client) (cond (nat_eq span.clock 0) span.len (start_end spans client)) (start_end spans client)

-- behind a span of the client no other begins at 0, or has the clock at its end
record IsLast (span : Span) (spans : List Span) : Type 0 where
  starts : start_end spans span.client.0 ≡ 0
  ends : HasId spans (id_at span.client.0 (span.clock + span.len)) → ⊥

later_one : (span next : Span) (spans : List Span) → EndsBefore span next → IsLast span spans → IsLast span (next ∷ spans)
later_one span next spans before rest = record { starts = first (nat_eq next.client.0 span.client.0) refl; ends = has }
  where
    above : next.client.0 ≡ span.client.0 → span.clock + span.len < next.clock
    above e = elim before [ inl lt ↦ absurd (omega (arith, lt, e)) | inr both ↦ both.1 ]

    second : (c : Bool) → nat_eq next.clock 0 ≡ c → next.client.0 ≡ span.client.0 → cond c next.len (start_end spans span.client.0) ≡ 0
    second true f e = let more = above e in absurd (grind (arith, tests))
    second false f e = rest.starts

    first : (b : Bool) → nat_eq next.client.0 span.client.0 ≡ b → cond b (cond (nat_eq next.clock 0) next.len (start_end spans span.client.0)) (start_end spans span.client.0) ≡ 0
    first true f = second (nat_eq next.clock 0) refl (grind (arith, tests))
    first false f = rest.starts

    has : HasId (next ∷ spans) (id_at span.client.0 (span.clock + span.len)) → ⊥
    has (inl (client, low, high)) = let more = above client in absurd (omega (arith, low, more))
    has (inr h) = rest.ends h

later_none : (span : Span) (spans : List Span) → Each (EndsBefore span) spans → IsLast span spans
later_none span [] each = record { starts = refl; ends = λ h. h }
later_none span (next ∷ spans) each = later_one span next spans each.0 (later_none span spans each.1)

-- of maximal spans the client has the clocks up to that end, and not the end
record IsEnd (spans : List Span) (client clock : ℕ) : Type 0 where
  missing : HasId spans (id_at client clock) → ⊥
  there : (below : ℕ) → below < clock → HasId spans (id_at client below)

own_end : (span : Span) (spans : List Span) → Each (EndsBefore span) spans → IsEnd spans span.client.0 (start_end spans span.client.0) → (c : Bool) → nat_eq span.clock 0 ≡ c →
    IsEnd (span ∷ spans) span.client.0 (cond c span.len (start_end spans span.client.0))
own_end span spans each rest true e = record {
  missing = λ h. elim h [
    | inl i ↦ omega (arith, i.2, at)
    | inr k ↦ (later_none span spans each).ends (subst (λ n. HasId spans (id_at span.client.0 n)) (omega (arith, at)) k)
  ];
  there = λ below lt. inl (refl, omega (arith, at), omega (arith, at, lt));
}
  where
    at : span.clock ≡ 0
    at = grind (arith, tests)
own_end span spans each rest false e = record {
  missing = λ h. elim h [
    | inl i ↦ above i.1
    | inr k ↦ rest.missing k
  ];
  there = λ below lt. inr (rest.there below lt);
}
  where
    above : span.clock ≤ start_end spans span.client.0 → ⊥
    above le = let starts = (later_none span spans each).starts in grind (arith, tests)

other_end : (span : Span) (spans : List Span) (client clock : ℕ) → span.client.0 ≢ client → IsEnd spans client clock → IsEnd (span ∷ spans) client clock
other_end span spans client clock other rest = record {
  missing = λ h. elim h [ inl i ↦ other i.0 | inr k ↦ rest.missing k ];
  there = λ below lt. inr (rest.there below lt);
}

more_end : (span : Span) (spans : List Span) (client : ℕ) → Each (EndsBefore span) spans → IsEnd spans client (start_end spans client) →
    IsEnd (span ∷ spans) client (start_end (span ∷ spans) client)
more_end span spans client each rest = go (nat_eq span.client.0 client) refl
  where
    go : (b : Bool) → nat_eq span.client.0 client ≡ b → IsEnd (span ∷ spans) client (cond b (cond (nat_eq span.clock 0) span.len (start_end spans client)) (start_end spans client))
    go true e = subst (λ c. IsEnd (span ∷ spans) c (cond (nat_eq span.clock 0) span.len (start_end spans c))) same
        (own_end span spans each (subst (λ c. IsEnd spans c (start_end spans c)) (sym same) rest) (nat_eq span.clock 0) refl)
      where
        same : span.client.0 ≡ client
        same = grind (arith, tests)
    go false e = other_end span spans client (start_end spans client) (grind (arith, tests)) rest

spans_end : (spans : List Span) (client : ℕ) → AreMaximal spans → IsEnd spans client (start_end spans client)
spans_end [] client maximal = record { missing = λ h. h; there = λ below lt. absurd (omega (arith, lt)) }
spans_end (span ∷ spans) client maximal = more_end span spans client maximal.2 (spans_end spans client maximal.3)

-- ---- the vector

step_vector : (span : Span) (old : List (Client × ℕ)) → IsSpan span → IsVector old → IsVector (started_by span old)
step_vector span old is vector = go (nat_eq span.clock 0)
  where
    go : (b : Bool) → IsVector (cond b (with_clock (span.client, span.len) old) old)
    go true = with_vector (span.client, span.len) old is.client (omega (arith, is.end)) vector
    go false = vector

started_vector : (spans : List Span) (old : List (Client × ℕ)) → AreMaximal spans → IsVector old → IsVector (all_started spans old)
started_vector [] old maximal vector = vector
started_vector (span ∷ spans) old maximal vector = started_vector spans (started_by span old) maximal.3 (step_vector span old maximal.0 vector)

-- a client's clock is the greater of its old one and of that end
step_clock : (span : Span) (old : List (Client × ℕ)) (client : ℕ) → IsVector old → clock_of (started_by span old) client ≡ max (clock_of old client) (start_end (span ∷ []) client)
step_clock span old client vector = go (nat_eq span.clock 0) (nat_eq span.client.0 client) refl
  where
    go : (c b : Bool) → nat_eq span.client.0 client ≡ b →
        clock_of (cond c (with_clock (span.client, span.len) old) old) client ≡ max (clock_of old client) (cond b (cond c span.len 0) 0)
    go true true e = ap (clock_of (with_clock (span.client, span.len) old)) (sym same) ∙ with_this (span.client, span.len) old vector ∙ ap (λ n. max (clock_of old n) span.len) same
      where
        same : span.client.0 ≡ client
        same = grind (arith, tests)
    go true false e = with_other (span.client, span.len) old client other ∙ omega arith
      where
        other : client ≢ span.client.0
        other = grind (arith, tests)
    go false true e = omega arith
    go false false e = omega arith

one_end : (span : Span) (spans : List Span) (client : ℕ) → Each (EndsBefore span) spans → max (start_end (span ∷ []) client) (start_end spans client) ≡ start_end (span ∷ spans) client
one_end span spans client each = go (nat_eq span.client.0 client) refl (nat_eq span.clock 0)
  where
    go : (b : Bool) → nat_eq span.client.0 client ≡ b → (c : Bool) →
        max (cond b (cond c span.len 0) 0) (start_end spans client) ≡ cond b (cond c span.len (start_end spans client)) (start_end spans client)
    go true e true = omega (arith, subst (λ n. start_end spans n ≡ 0) same (later_none span spans each).starts)
      where
        same : span.client.0 ≡ client
        same = grind (arith, tests)
    go true e false = omega arith
    go false e c = omega arith

started_clock : (spans : List Span) (old : List (Client × ℕ)) (client : ℕ) → AreMaximal spans → IsVector old →
    clock_of (all_started spans old) client ≡ max (clock_of old client) (start_end spans client)
started_clock [] old client maximal vector = omega arith
started_clock (span ∷ spans) old client maximal vector =
    let rest = started_clock spans (started_by span old) client maximal.3 (step_vector span old maximal.0 vector) in
    omega (arith, rest, step_clock span old client vector, one_end span spans client maximal.2)

-- ---- lemmas for callers

-- the set of the spans of groups gives the vector that their operations reach
pub started_reaches : (groups : List Group) (spans set : List Span) (vector : List (Client × ℕ)) → spans ≡ spans_of groups → AreMaximal set → HaveSameIds set spans →
    vector ≡ all_started set [] → Reaches (operations_of_groups groups) vector
started_reaches groups spans set vector e maximal ids is client = record {
  missing = test_fails (has_operation (operations_of_groups groups) (id_at client (clock_of vector client)))
      (λ f. end.missing (subst (λ n. HasId set (id_at client n)) clock (there (id_at client (clock_of vector client)) f)));
  there = λ below lt. has (id_at client below) (end.there below (omega (arith, lt, clock)));
}
  where
    end : IsEnd set client (start_end set client)
    end = spans_end set client maximal

    clock : clock_of vector client ≡ start_end set client
    clock = ap (λ v. clock_of v client) is ∙ started_clock set [] client maximal tt ∙ omega arith

    has : (x : Id) → HasId set x → has_operation (operations_of_groups groups) x ≡ true
    has x h = has_span groups x (subst (λ ss. HasId ss x) e ((ids x).0 h))

    there : (x : Id) → has_operation (operations_of_groups groups) x ≡ true → HasId set x
    there x f = (ids x).1 (subst (λ ss. HasId ss x) (sym e) (span_has groups x f))

-- what is lent has spans
pub lent_spans : (lents : List Lent) → Each IsLent lents → Each IsSpan (spans_of (map lent_group lents))
lent_spans [] each = tt
lent_spans (lent ∷ lents) each = (record { client = each.0.valid.client; end = each.0.valid.end }, lent_spans lents each.1)

-- a vector that has of each client how far operations reach, which have the ids of an update, is the update's
pub reach_is : (update : UpdateValue) (os : List Operation) (vector : List (Client × ℕ)) → IsValidUpdate update →
    ((x : Id) → has_operation (operations_of update) x ≡ true ↔ has_operation os x ≡ true) → IsVector vector → Reaches os vector → vector ≡ reach_of update
reach_is update os vector valid there is reaches = vectors_same vector (reach_of update) is (reach_vector update valid) same
  where
    same : (client : ℕ) → clock_of vector client ≡ clock_of (reach_of update) client
    same client = elim (cases_lt (clock_of vector client) (clock_of (reach_of update) client)) [
      | inl less ↦ absurd (true≢false (sym ((there (id_at client (clock_of vector client))).0 (reach_there update valid client (clock_of vector client) less)) ∙ (reaches client).missing))
      | inr le ↦ elim (cases_lt (clock_of (reach_of update) client) (clock_of vector client)) [
        | inl more ↦ absurd (true≢false (sym ((there (id_at client (clock_of (reach_of update) client))).1 ((reaches client).there (clock_of (reach_of update) client) more))
            ∙ reach_missing update valid client))
        | inr ge ↦ omega (arith, le, ge)
      ]
    ]

pub reach_one : (update : UpdateValue) (groups : List Group) (vector : List (Client × ℕ)) → IsValidUpdate update → groups ≡ blocks_groups update.blocks → IsVector vector →
    Reaches (operations_of_groups groups) vector → vector ≡ reach_of update
reach_one update groups vector valid e is reaches = reach_is update (operations_of_groups groups) vector valid
    (λ x. ((λ f. ap (λ os. has_operation os x) same ∙ f), (λ f. sym (ap (λ os. has_operation os x) same) ∙ f))) is reaches
  where
    same : operations_of_groups groups ≡ operations_of update
    same = ap operations_of_groups e ∙ blocks-groups-operations update.blocks

pub reach_all : (updates : List UpdateValue) (groups : List Group) (vector : List (Client × ℕ)) → Each IsValidUpdate updates → groups ≡ updates_groups updates → IsVector vector →
    Reaches (operations_of_groups groups) vector → vector ≡ reach_of (merge_of updates)
reach_all updates groups vector valid e is reaches = reach_is (merge_of updates) (operations_of_groups groups) vector (merge_valid updates valid)
    (λ x. let ids = merge_ids updates valid x in let same = ap (λ os. has_operation os x) (ap operations_of_groups e ∙ updates-operations updates) in
    ((λ f. same ∙ ids.0 f), (λ f. ids.1 (sym same ∙ f)))) is reaches
