-- The operations of groups: those of joined groups are those of both, and gathering keeps them.
use Rattle.std.specs.Prelude.{if◌then◌else◌, nat_eq}
use Rattle.std.proofs.Common.{◌≡◌, ℕ, zero, suc, ◌+◌, Bool, true, false, List, [], ◌∷◌, ◌++◌, map, Some, None, inl, inr, refl, sym, ap, ap₂, ◌∙◌, arith, tests, true≢false, append_assoc}
use Rattle.yd_words.specs.Each.{Each}
use Rattle.yd_ids.specs.declared.id.Id.{Id}
use Rattle.yd_ids.proofs.IdLemmas.{same_is, same_numbers}
use Rattle.yd_ops.specs.Operation.{Operation, UnitContent, gone_from, gone_operation, gone_unit, later_id, level_of, operations_from, units_of_content}
use Rattle.yd_ops.specs.Value.{len_of}
use Rattle.yd_ops.proofs.JoinLemmas.{joined-len, joins_says, runs_have}
use Rattle.yd_ops.proofs.OperationLemmas.{later_none}
use Rattle.yd_ops.proofs.LevelLemmas.{AreBare}
use Rattle.yd_meaning.specs.Held.{is_gone}
use Rattle.yd_grouping.specs.Groups.{Group, IsGroup, content_of_unit, gathered, group_joins, group_of, groups_for, in_front, joined_group, of_gone, of_run, operations_of_group, operations_of_groups, run_of}

-- ---- gone units

one_more : (id : Id) (n : ℕ) → later_id (later_id id 1) n ≡ later_id id (suc n)
one_more id n = same_numbers (later_id (later_id id 1) n) (later_id id (suc n)) refl (omega arith)

gone-append : (id : Id) (m n : ℕ) → gone_from id (m + n) ≡ gone_from id m ++ gone_from (later_id id m) n
gone-append id zero n = ap₂ (λ x k. gone_from x k) (sym (later_none id)) nothing
  where
    nothing : 0 + n ≡ n
    nothing = omega arith
gone-append id (suc m) n = ap (gone_from id) one ∙ ap (λ r. gone_operation id ∷ r) (gone-append (later_id id 1) m n
    ∙ ap (λ x. gone_from (later_id id 1) m ++ gone_from x n) (one_more id m))
  where
    one : suc m + n ≡ suc (m + n)
    one = omega arith

-- ---- groups

pub joined-operations : (group next : Group) → IsGroup group → IsGroup next → group_joins group next ≡ true →
    operations_of_group (joined_group group next) ≡ operations_of_group group ++ operations_of_group next
joined-operations (of_run run) (of_run next) is also e =
    runs_have run next is.0 e also.1
joined-operations (of_run run) (of_gone id n) is also e = absurd (true≢false (sym e))
joined-operations (of_gone id n) (of_run next) is also e = absurd (true≢false (sym e))
joined-operations (of_gone id n) (of_gone next m) is also e = gone-append id n m ∙ ap (λ x. gone_from id n ++ gone_from x m) (sym (same_is next (later_id id n) e))

-- joined groups are as groups have to be
pub joined_is : (group next : Group) → IsGroup group → IsGroup next → group_joins group next ≡ true → IsGroup (joined_group group next)
joined_is (of_run run) (of_run next) is also e = let j = joins_says run next e in (omega (arith, is.0, joined-len run.content next.content j.kind), is.1)
joined_is (of_run run) (of_gone id n) is also e = is
joined_is (of_gone id n) (of_run next) is also e = is
joined_is (of_gone id n) (of_gone next m) is also e = omega (arith, is)

pub front_are : (group : Group) (groups : List Group) → IsGroup group → Each IsGroup groups → Each IsGroup (in_front group groups)
front_are group [] is each = (is, tt)
front_are group (next ∷ groups) is each = go (group_joins group next) refl
  where
    go : (t : Bool) → group_joins group next ≡ t → Each IsGroup (if t then joined_group group next ∷ groups else group ∷ next ∷ groups)
    go true e = (joined_is group next is each.0 e, each.1)
    go false e = (is, each)

pub gathered_are : (groups : List Group) → Each IsGroup groups → Each IsGroup (gathered groups)
gathered_are [] each = tt
gathered_are (group ∷ groups) each = front_are group (gathered groups) each.0 (gathered_are groups each.1)

front-operations : (group : Group) (groups : List Group) → IsGroup group → Each IsGroup groups → operations_of_groups (in_front group groups)
    ≡ operations_of_group group ++ operations_of_groups groups
front-operations group [] is each = refl
front-operations group (next ∷ groups) is each = go (group_joins group next) refl
  where
    go : (t : Bool) → group_joins group next ≡ t →
        operations_of_groups (if t then joined_group group next ∷ groups else group ∷ next ∷ groups) ≡ operations_of_group group
        ++ (operations_of_group next ++ operations_of_groups groups)
    go true e = ap (λ ps. ps ++ operations_of_groups groups) (joined-operations group next is each.0 e)
        ∙ append_assoc (operations_of_group group) (operations_of_group next) (operations_of_groups groups)
    go false e = refl

pub gathered-operations : (groups : List Group) → Each IsGroup groups → operations_of_groups (gathered groups) ≡ operations_of_groups groups
gathered-operations [] each = refl
gathered-operations (group ∷ groups) each = front-operations group (gathered groups) each.0 (gathered_are groups each.1)
    ∙ ap (λ ps. operations_of_group group ++ ps) (gathered-operations groups each.1)

-- ---- operations as groups

-- a list stands only where both origins are absent, so not behind a left origin
abbrev pub CarriesNone : Operation → Type 0
CarriesNone o = (y : Id) → o.left_origin ≡ Some y → o.list ≡ None

unit-of : (unit : UnitContent) → nat_eq (level_of unit) 0 ≡ false → units_of_content (content_of_unit unit) ≡ unit ∷ []
unit-of gone_unit e = absurd (true≢false e)
unit-of unit e = refl

pub unit-len : (unit : UnitContent) → len_of (content_of_unit unit) ≡ 1
unit-len gone_unit = refl
unit-len unit = refl

pub group_is : (o : Operation) → CarriesNone o → IsGroup (group_of o)
group_is o carries = go (is_gone o)
  where
    go : (t : Bool) → IsGroup (if t then of_gone o.id 1 else of_run (run_of o))
    go true = omega arith
    go false = (omega (arith, unit-len o.content), carries)

-- an operation's group has that operation
pub group-operation : (o : Operation) → (level_of o.content ≡ 0 → o ≡ gone_operation o.id) → operations_of_group (group_of o) ≡ o ∷ []
group-operation o bare = go (is_gone o) refl
  where
    go : (t : Bool) → is_gone o ≡ t → operations_of_group (if t then of_gone o.id 1 else of_run (run_of o)) ≡ o ∷ []
    go true e = ap (λ q. q ∷ []) (sym (bare (grind (arith, tests))))
    go false e = ap (operations_from o.id o.left_origin o.right_origin o.list) (unit-of o.content e)

pub groups_are : (os : List Operation) → Each CarriesNone os → Each IsGroup (map group_of os)
groups_are [] each = tt
groups_are (o ∷ os) each = (group_is o each.0, groups_are os each.1)

map-operations : (os : List Operation) → AreBare os → operations_of_groups (map group_of os) ≡ os
map-operations [] bare = refl
map-operations (o ∷ os) bare = ap₂ (λ ps qs. ps ++ qs) (group-operation o (bare o (inl refl))) (map-operations os (λ p i. bare p (inr i)))

-- ---- lemmas for callers

-- the groups for operations have these operations
pub groups-operations : (os : List Operation) → Each CarriesNone os → AreBare os → operations_of_groups (groups_for os) ≡ os
groups-operations os each bare = gathered-operations (map group_of os) (groups_are os each) ∙ map-operations os bare
