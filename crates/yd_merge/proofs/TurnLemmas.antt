-- Groups that are written one wholly before the next: their operations stand in the order of writing, and what updates have, put so, is their merge.
use Rattle.std.proofs.Common.{◌≡◌, ◌↔◌, ℕ, ◌+◌, ◌<◌, ◌≤◌, true, List, [], ◌∷◌, ◌++◌, inl, inr, map, drop, length, refl, sym, ap, ap₂, ◌∙◌, subst, arith, tests, append_assoc, append-nil}
use Rattle.std.specs.Global.{Vec}
use Rattle.std.specs.List.Sorted.{IsPermutation}
use Rattle.std.specs.Prelude.{Option, Some, None, IfSome, is_some}
use Rattle.std.proofs.lemmas.List.{drop_all, length-drop}
use Rattle.std.proofs.lemmas.List.Sorted.{IsPermutation-map, IsPermutation-sym}
use Rattle.yd_words.specs.Each.{Each}
use Rattle.yd_words.specs.Member.{IsIn}
use Rattle.yd_words.proofs.EachLemmas.{each_permuted, each_weaker}
use Rattle.yd_words.proofs.MemberLemmas.{in_left_part, in_parts, in_right_part}
use Rattle.yd_ids.specs.Ids.{is_written_before}
use Rattle.yd_ids.specs.Set.{HasId}
use Rattle.yd_ids.specs.declared.id.Client.{Client}
use Rattle.yd_ids.specs.declared.id.Id.{Id}
use Rattle.yd_ids.specs.declared.id.Span.{Span}
use Rattle.yd_ops.specs.Operation.{Operation, later_id, operations_of, operations_of_blocks, operations_of_struct, operations_of_structs, units_of_content}
use Rattle.yd_ops.specs.Valid.{IsStructAt, IsValidUpdate}
use Rattle.yd_ops.specs.Value.{BlockValue, StructValue, UpdateValue, clocks_of, gone, item, skip}
use Rattle.yd_ops.proofs.OperationLemmas.{length-units_of_content}
use Rattle.yd_ops.specs.Agreement.{AreAlike, DeleteId, HaveSameContents, ShareId, operations_of_all}
use Rattle.yd_ops.specs.Deletes.{SpellLess}
use Rattle.yd_ops.specs.Received.{IsWritten, received_set}
use Rattle.yd_ops.proofs.AgreementLemmas.{received_deletes, received_maximal, received_one}
use Rattle.yd_ops.proofs.GroupLemmas.{deletes_of-ids}
use Rattle.yd_ops.proofs.RunLemmas.{run_written}
use Rattle.yd_ops.proofs.SpellingLemmas.{gone_written}
use Rattle.yd_ops.proofs.WritingLemmas.{written_agrees}
use Rattle.yd_grouping.specs.Building.{Built, all_pushed, finished, nothing_built}
use Rattle.yd_grouping.specs.Groupable.{AreGroupable}
use Rattle.yd_grouping.specs.Grouped.{blocks_of, grouping_of}
use Rattle.yd_grouping.specs.Groups.{Group, IsGroup, of_gone, of_run, operations_of_group, operations_of_groups, size_of, start_of, struct_of}
use Rattle.yd_grouping.specs.Law.{Ascend, HaveUnits}
use Rattle.yd_grouping.specs.Merged.{merge_of}
use Rattle.yd_grouping.proofs.AgainLemmas.{grouping_alone}
use Rattle.yd_grouping.proofs.BlockLemmas.{IsValidGroup, blocks-operations, blocks_valid, written_ascend}
use Rattle.yd_grouping.proofs.BuilderLemmas.{builder_groups}
use Rattle.yd_grouping.proofs.GroupableLemmas.{written_groupable}
use Rattle.yd_grouping.proofs.GroupedLemmas.{groupable-operations, grouping_valid, groups_units}
use Rattle.yd_entries.proofs.UnitLemmas.{from_gone, from_unit}
use Rattle.yd_merge.specs.declared.lending.Lent.{Lent}
use Rattle.yd_merge.specs.Lending.{AreInTurn, GoesBefore, IsLent, IsOfUpdate, blocks_groups, lent_group, struct_groups, structs_groups, updates_groups}
use Rattle.yd_merge.proofs.ToldLemmas.{carries_none}

-- ---- what updates have

struct-operations : (client : Client) (clock : ℕ) (s : StructValue) → operations_of_groups (struct_groups client clock s) ≡ operations_of_struct client clock s
struct-operations client clock (item run) = append-nil (operations_of_group (of_run run))
struct-operations client clock (skip count) = refl
struct-operations client clock (gone count) = append-nil (operations_of_group (of_gone (record { client = client; clock = clock }) count))

pub groups-append : (groups others : List Group) → operations_of_groups (groups ++ others) ≡ operations_of_groups groups ++ operations_of_groups others
groups-append [] others = refl
groups-append (group ∷ groups) others = ap (λ os. operations_of_group group ++ os) (groups-append groups others)
    ∙ sym (append_assoc (operations_of_group group) (operations_of_groups groups) (operations_of_groups others))

structs-operations : (client : Client) (clock : ℕ) (structs : List StructValue) → operations_of_groups (structs_groups client clock structs) ≡ operations_of_structs client clock structs
structs-operations client clock [] = refl
structs-operations client clock (s ∷ structs) = groups-append (struct_groups client clock s) (structs_groups client (clock + clocks_of s) structs)
    ∙ ap₂ (λ os ps. os ++ ps) (struct-operations client clock s) (structs-operations client (clock + clocks_of s) structs)

pub blocks-groups-operations : (blocks : List BlockValue) → operations_of_groups (blocks_groups blocks) ≡ operations_of_blocks blocks
blocks-groups-operations [] = refl
blocks-groups-operations (block ∷ blocks) = groups-append (structs_groups block.client block.clock block.structs) (blocks_groups blocks)
    ∙ ap₂ (λ os ps. os ++ ps) (structs-operations block.client block.clock block.structs) (blocks-groups-operations blocks)

pub updates-operations : (updates : List UpdateValue) → operations_of_groups (updates_groups updates) ≡ operations_of_all updates
updates-operations [] = refl
updates-operations (update ∷ updates) = groups-append (blocks_groups update.blocks) (updates_groups updates)
    ∙ ap₂ (λ os ps. os ++ ps) (blocks-groups-operations update.blocks) (updates-operations updates)

pub updates-append : (updates others : List UpdateValue) → updates_groups (updates ++ others) ≡ updates_groups updates ++ updates_groups others
updates-append [] others = refl
updates-append (update ∷ updates) others = ap (λ gs. blocks_groups update.blocks ++ gs) (updates-append updates others)
    ∙ sym (append_assoc (blocks_groups update.blocks) (updates_groups updates) (updates_groups others))

-- ---- a group of a valid update

struct_units : (group : Group) → IsStructAt (start_of group).client (start_of group).clock (struct_of group) → 0 < size_of group
struct_units (of_run run) is = is.has_units
struct_units (of_gone id count) is = is

pub have_unit : (group : Group) → IsOfUpdate group → 0 < size_of group
have_unit group is = struct_units group is.struct

is_group : (group : Group) → IsStructAt (start_of group).client (start_of group).clock (struct_of group) → IsGroup group
is_group (of_run run) is = (is.has_units, carries_none run.left run.right run.list is.list)
is_group (of_gone id count) is = is

pub are_groups : (groups : List Group) → Each IsOfUpdate groups → Each IsGroup groups
are_groups groups each = each_weaker IsOfUpdate IsGroup (λ group is. is_group group is.struct) groups each

valid_group : (group : Group) → IsOfUpdate group → IsValidGroup group
valid_group group is = record { client = is.client; struct = is.struct; end = is.end }

group_written : (group : Group) → IsWritten (operations_of_group group)
group_written (of_run run) = run_written run
group_written (of_gone id count) = gone_written count id

-- an operation of a group has one of its ids
pub at_place : (group : Group) (o : Operation) → IsIn o (operations_of_group group) → (k : ℕ) × (k < size_of group) × (o.id ≡ later_id (start_of group) k)
at_place (of_run run) o i = let (k, lt, e, u) = from_unit run.id run.left run.right run.list (units_of_content run.content) o i in (k, omega (arith, lt, length-units_of_content run.content), e)
at_place (of_gone id count) o i = let (k, lt, e) = from_gone id count o i in (k, lt, ap (λ (p : Operation). p.id) e)

-- ---- in turn

-- whose operations are written before those of all groups of the second list
goes_through : (group next other : Group) → GoesBefore group next → 0 < size_of next → GoesBefore next other → GoesBefore group other
goes_through group next other (inl lt) some (inl more) = inl (omega (arith, lt, more))
goes_through group next other (inl lt) some (inr (e, le)) = inl (omega (arith, lt, e))
goes_through group next other (inr (e, le)) some (inl more) = inl (omega (arith, e, more))
goes_through group next other (inr (e, le)) some (inr (f, more)) = inr (e ∙ f, omega (arith, le, some, more))

pub goes_all : (group : Group) (groups : List Group) → HaveUnits groups → AreInTurn (group ∷ groups) → Each (GoesBefore group) groups
goes_all group [] units turn = tt
goes_all group (next ∷ groups) units turn =
    (turn.0, each_weaker (GoesBefore next) (GoesBefore group) (λ other goes. goes_through group next other turn.0 units.0 goes) groups (goes_all next groups units.1 turn.1))

pub turn_rest : (group : Group) (groups : List Group) → AreInTurn (group ∷ groups) → AreInTurn groups
turn_rest group [] turn = tt
turn_rest group (next ∷ groups) turn = turn.1

before_one : (group next : Group) → GoesBefore group next → (o p : Operation) → IsIn o (operations_of_group group) → IsIn p (operations_of_group next) → is_written_before o.id p.id ≡ true
before_one group next goes o p i j = let (k, lt, e) = at_place group o i in let (m, less, f) = at_place next p j in
    rw (e, f) (before k m lt goes)
  where
    before : (k m : ℕ) → k < size_of group → GoesBefore group next → is_written_before (later_id (start_of group) k) (later_id (start_of next) m) ≡ true
    before k m lt (inl less) = grind (arith, tests)
    before k m lt (inr (same, le)) = grind (arith, tests)

before_all : (group : Group) (groups : List Group) → Each (GoesBefore group) groups → (o p : Operation) → IsIn o (operations_of_group group) → IsIn p (operations_of_groups groups) →
    is_written_before o.id p.id ≡ true
before_all group [] each o p i j = absurd j
before_all group (next ∷ groups) each o p i j = elim (in_parts p (operations_of_group next) (operations_of_groups groups) j) [
  | inl k ↦ before_one group next each.0 o p i k
  | inr k ↦ before_all group groups each.1 o p i k
]

written_both : (os ps : List Operation) → IsWritten os → IsWritten ps → ((o p : Operation) → IsIn o os → IsIn p ps → is_written_before o.id p.id ≡ true) → IsWritten (os ++ ps)
written_both [] ps w v before = v
written_both (o ∷ os) ps w v before = (
  (λ p i. elim (in_parts p os ps i) [ inl j ↦ w.0 p j | inr j ↦ before o p (inl refl) j ]),
  written_both os ps w.1 v (λ q p i j. before q p (inr i) j),
)

pub turn_written : (groups : List Group) → HaveUnits groups → AreInTurn groups → IsWritten (operations_of_groups groups)
turn_written [] units turn = tt
turn_written (group ∷ groups) units turn = written_both (operations_of_group group) (operations_of_groups groups) (group_written group)
    (turn_written groups units.1 (turn_rest group groups turn)) (before_all group groups (goes_all group groups units.1 turn))

-- such groups of valid updates can be grouped
pub turn_groupable : (groups : List Group) → Each IsOfUpdate groups → AreInTurn groups → AreGroupable (operations_of_groups groups)
turn_groupable groups each turn = subst AreGroupable same (written_groupable whole valid (subst IsWritten (sym same) written))
  where
    units : HaveUnits groups
    units = groups_units groups (are_groups groups each)

    written : IsWritten (operations_of_groups groups)
    written = turn_written groups units turn

    ascend : Ascend groups
    ascend = written_ascend groups units written

    whole : UpdateValue
    whole = record { blocks = blocks_of groups; deletes = [] }

    valid : IsValidUpdate whole
    valid = record { blocks = blocks_valid groups ascend (each_weaker IsOfUpdate IsValidGroup valid_group groups each); deletes = tt }

    same : operations_of whole ≡ operations_of_groups groups
    same = blocks-operations groups ascend

-- ---- the same groups in another order

-- the operations of each group are among these
abbrev AreAmong : List Operation → Group → Type 0
AreAmong os group = (o : Operation) → IsIn o (operations_of_group group) → IsIn o os

all_among : (groups : List Group) (os : List Operation) → Each (AreAmong os) groups → (o : Operation) → IsIn o (operations_of_groups groups) → IsIn o os
all_among [] os each o i = absurd i
all_among (group ∷ groups) os each o i = elim (in_parts o (operations_of_group group) (operations_of_groups groups) i) [
  | inl j ↦ each.0 o j
  | inr j ↦ all_among groups os each.1 o j
]

own_among : (groups : List Group) → Each (AreAmong (operations_of_groups groups)) groups
own_among [] = tt
own_among (group ∷ groups) = (
  (λ o i. in_left_part o (operations_of_group group) (operations_of_groups groups) i),
  each_weaker (AreAmong (operations_of_groups groups)) (AreAmong (operations_of_groups (group ∷ groups)))
      (λ other among o i. in_right_part o (operations_of_group group) (operations_of_groups groups) (among o i)) groups (own_among groups),
)

permuted_in : (groups others : List Group) → IsPermutation groups others → (o : Operation) → IsIn o (operations_of_groups others) → IsIn o (operations_of_groups groups)
permuted_in groups others p o i = all_among others (operations_of_groups groups)
    (each_permuted (AreAmong (operations_of_groups groups)) groups others p (own_among groups)) o i

pub permuted_operations : (groups others : List Group) → IsPermutation groups others → (o : Operation) → IsIn o (operations_of_groups groups) ↔ IsIn o (operations_of_groups others)
permuted_operations groups others p o = (permuted_in others groups (IsPermutation-sym groups others p) o, permuted_in groups others p o)

-- ---- the merge

-- operations that stand in the order of writing are alike
alike_in : (os ps : List Operation) → IsWritten os → ((o : Operation) → IsIn o ps → IsIn o os) → AreAlike ps
alike_in os ps w among = record {
  lefts = λ o p s. ap (λ (q : Operation). q.left_origin) (one 1 o p s);
  rights = λ o p s. ap (λ (q : Operation). q.right_origin) (one 1 o p s);
  lists = λ o p s. ap (λ (q : Operation). q.list) (one 1 o p s);
  contents = λ o p s. ap (λ (q : Operation). q.content) (one 2 o p s);
}
  where
    one : (level : ℕ) (o p : Operation) → ShareId ps level o p → o ≡ p
    one level o p s = written_agrees os w o p (among o s.one) (among p s.other) s.id

less_in : (os ps : List Operation) (x : Id) → ((o : Operation) → IsIn o os → IsIn o ps) → SpellLess os x → SpellLess ps x
less_in os ps x among (o, i, e, less) = (o, among o i, e, less)

less_deleted : (updates : List UpdateValue) (x : Id) → SpellLess (operations_of_all updates) x → DeleteId updates x
less_deleted [] x (o, i, e, less) = absurd i
less_deleted (update ∷ updates) x (o, i, e, less) = elim (in_parts o (operations_of update) (operations_of_all updates) i) [
  | inl j ↦ inl ((deletes_of-ids update x).1 (inl (o, j, e, less)))
  | inr j ↦ inr (less_deleted updates x (o, j, e, less))
]

-- operations in the order of writing that are those of valid updates are what is received of them
module _ (updates : List UpdateValue) (os : List Operation) (valid : Each IsValidUpdate updates) (are : AreGroupable os)
    (same : (o : Operation) → IsIn o (operations_of_all updates) ↔ IsIn o os) where
  abbrev all_named : List Span
  all_named = (received_set updates).deletes

  named : (x : Id) → SpellLess os x → HasId all_named x
  named x less = (received_deletes updates x).1 (less_deleted updates x (less_in os (operations_of_all updates) x (λ o i. (same o).1 i) less))

  grouped-operations : operations_of (grouping_of os all_named) ≡ os
  grouped-operations = groupable-operations os all_named are

  has_same : HaveSameContents updates (grouping_of os all_named ∷ [])
  has_same = record {
    operations = λ o. (
      (λ i. in_left_part o (operations_of (grouping_of os all_named)) [] (subst (IsIn o) (sym grouped-operations) ((same o).0 i))),
      (λ i. elim (in_parts o (operations_of (grouping_of os all_named)) [] i) [ inl j ↦ (same o).1 (subst (IsIn o) grouped-operations j) | inr j ↦ absurd j ]),
    );
    deletes = λ x. (
      (λ h. inl ((deletes_of-ids (grouping_of os all_named) x).1 (inr ((received_deletes updates x).1 h)))),
      (λ h. elim h [
        | inl k ↦ elim ((deletes_of-ids (grouping_of os all_named) x).0 k) [
          | inl less ↦ (received_deletes updates x).0 (named x (subst (λ ps. SpellLess ps x) grouped-operations less))
          | inr l ↦ (received_deletes updates x).0 l
        ]
        | inr k ↦ absurd k
      ]),
    );
  }

  pub are_received : (received_set updates).operations ≡ os
  are_received = ap (λ r. r.operations) (received_one updates (grouping_of os all_named ∷ []) valid
      (grouping_valid os all_named are (received_maximal updates valid), tt) (alike_in os (operations_of_all updates) are.written (λ o i. (same o).0 i)) has_same
      ∙ grouping_alone os all_named are (received_maximal updates valid) named)

-- ---- lemmas for callers

-- what valid updates have, put in turn, has the operations that are received of them
pub turn_received : (updates : List UpdateValue) (groups : List Group) → Each IsValidUpdate updates → Each IsOfUpdate groups → IsPermutation (updates_groups updates) groups →
    AreInTurn groups → operations_of_groups groups ≡ (received_set updates).operations
turn_received updates groups valid each p turn = sym (are_received updates (operations_of_groups groups) valid (turn_groupable groups each turn) (λ o. (
  (λ i. (permuted_operations (updates_groups updates) groups p o).0 (subst (IsIn o) (sym (updates-operations updates)) i)),
  (λ i. subst (IsIn o) (updates-operations updates) ((permuted_operations (updates_groups updates) groups p o).1 i)),
)))

-- and its operations are alike
pub turn_alike : (updates : List UpdateValue) (groups : List Group) → Each IsOfUpdate groups → IsPermutation (updates_groups updates) groups → AreInTurn groups →
    AreAlike (operations_of_all updates)
turn_alike updates groups each p turn =
    alike_in (operations_of_groups groups) (operations_of_all updates) (turn_written groups (groups_units groups (are_groups groups each)) turn)
    (λ o i. (permuted_operations (updates_groups updates) groups p o).0 (subst (IsIn o) (sym (updates-operations updates)) i))

-- and is their merge
pub turn_merge : (updates : List UpdateValue) (groups : List Group) (deletes : List Span) → Each IsValidUpdate updates → Each IsOfUpdate groups →
    IsPermutation (updates_groups updates) groups → AreInTurn groups → deletes ≡ (received_set updates).deletes → grouping_of (operations_of_groups groups) deletes ≡ merge_of updates
turn_merge updates groups deletes valid each p turn e = ap₂ (λ os ds. grouping_of os ds) (turn_received updates groups valid each p turn) e

-- ---- what is lent

pub of_update : (lents : List Lent) → Each IsLent lents → Each IsOfUpdate (map lent_group lents)
of_update [] each = tt
of_update (lent ∷ lents) each = (each.0.valid, of_update lents each.1)

-- where what is lent by updates was put in turn, their operations are alike
pub lent_alike : (updates : List UpdateValue) (lents : List Lent) (sorted : Option (Vec Lent)) → Each IsLent lents → map lent_group lents ≡ updates_groups updates →
    IfSome sorted (λ s. IsPermutation lents s.items) → IfSome sorted (λ s. AreInTurn (map lent_group s.items)) → is_some sorted ≡ true → AreAlike (operations_of_all updates)
lent_alike updates lents None each groups same turn there = absurd cc
lent_alike updates lents (Some sorted) each groups same turn there =
    turn_alike updates (map lent_group sorted.items) (of_update sorted.items (each_permuted IsLent lents sorted.items same each))
    (subst (λ gs. IsPermutation gs (map lent_group sorted.items)) groups (IsPermutation-map lent_group lents sorted.items same)) turn

-- at the end all are pushed, and so grouped
pub all_lent : (lents : List Lent) (i : ℕ) (built : Built) (deletes : List Span) → Each IsLent lents → AreInTurn (map lent_group lents) → length lents ≤ i →
    all_pushed built (map lent_group (drop i lents)) ≡ all_pushed nothing_built (map lent_group lents) →
    finished built deletes ≡ grouping_of (operations_of_groups (map lent_group lents)) deletes
all_lent lents i built deletes each turn le e = ap (λ b. finished b deletes) (sym (ap (λ ls. all_pushed built (map lent_group ls)) (drop_all i lents le)) ∙ e)
    ∙ builder_groups (map lent_group lents) deletes groups (turn_written (map lent_group lents) (groups_units (map lent_group lents) groups) turn)
  where
    groups : Each IsGroup (map lent_group lents)
    groups = are_groups (map lent_group lents) (of_update lents each)

few_turn : (lents : List Lent) → length lents ≤ 1 → AreInTurn (map lent_group lents)
few_turn [] le = tt
few_turn (lent ∷ []) le = tt
few_turn (lent ∷ next ∷ lents) le = absurd (omega (arith, le))

-- where at most one is left, all are in turn
pub turn_end : (lents : List Lent) (i : ℕ) → length lents ≤ i + 1 → AreInTurn (map lent_group lents) ↔ AreInTurn (map lent_group (drop i lents)) → AreInTurn (map lent_group lents)
turn_end lents i le all = all.1 (few_turn (drop i lents) (omega (arith, le, length-drop i lents)))
