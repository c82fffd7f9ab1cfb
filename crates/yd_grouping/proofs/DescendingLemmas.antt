-- The clients of a grouping descend: each has one block.
use Rattle.std.specs.Prelude.{nat_eq, if◌then◌else◌}
use Rattle.std.proofs.Common.{◌≡◌, ◌<◌, ◌≤◌, Bool, true, false, List, [], ◌∷◌, map, refl, sym, subst, arith, tests}
use Rattle.yd_words.specs.Member.{IsIn}
use Rattle.yd_words.proofs.MemberLemmas.{in_left_part}
use Rattle.yd_ids.specs.Ids.{is_written_before}
use Rattle.yd_ids.specs.declared.id.Span.{Span}
use Rattle.yd_ops.specs.Operation.{Operation, later_id}
use Rattle.yd_ops.specs.Value.{BlockValue}
use Rattle.yd_ops.specs.Received.{IsWritten}
use Rattle.yd_grouping.specs.Groupable.{AreGroupable}
use Rattle.yd_grouping.specs.Grouped.{block_of, block_with, blocks_of, front_block, grouping_of}
use Rattle.yd_grouping.specs.Groups.{Group, group_of, groups_for, operations_of_group, operations_of_groups, size_of, start_of}
use Rattle.yd_grouping.specs.Law.{ClientsDescend, HaveUnits}
use Rattle.yd_grouping.proofs.BlockLemmas.{group_has, written_back, written_parts}
use Rattle.yd_grouping.proofs.GroupedLemmas.{are_bare, carry_none, groups_units}
use Rattle.yd_grouping.proofs.GroupsLemmas.{gathered_are, groups-operations, groups_are}

-- the first units of groups have falling clients
abbrev Fall : List Group → Type 0
Fall [] = Unit {0}
Fall (group ∷ []) = Unit {0}
Fall (group ∷ next ∷ groups) = ((start_of next).client.0 ≤ (start_of group).client.0) × Fall (next ∷ groups)

falls : (group next : Group) (groups : List Group) → 0 < size_of group → 0 < size_of next → IsWritten (operations_of_groups (group ∷ next ∷ groups)) →
    (start_of next).client.0 ≤ (start_of group).client.0
falls group next groups some more w = go (group_has group 0 some) (group_has next 0 more)
  where
    go : (o : Operation) × IsIn o (operations_of_group group) × (o.id ≡ later_id (start_of group) 0) →
        (p : Operation) × IsIn p (operations_of_group next) × (p.id ≡ later_id (start_of next) 0) → (start_of next).client.0 ≤ (start_of group).client.0
    go (o, i, e) (p, j, f) =
        let before : is_written_before (later_id (start_of group) 0) (later_id (start_of next) 0) ≡ true =
        subst (λ x. is_written_before x (later_id (start_of next) 0) ≡ true) e (subst (λ x. is_written_before o.id x ≡ true) f
        (written_parts (operations_of_group group) (operations_of_groups (next ∷ groups)) w o p i (in_left_part p (operations_of_group next) (operations_of_groups groups) j))) in
        grind (arith, tests)

written_fall : (groups : List Group) → HaveUnits groups → IsWritten (operations_of_groups groups) → Fall groups
written_fall [] each w = tt
written_fall (group ∷ []) each w = tt
written_fall (group ∷ next ∷ groups) each w =
    (falls group next groups each.0 each.1.0 w, written_fall (next ∷ groups) each.1 (written_back (operations_of_group group) (operations_of_groups (next ∷ groups)) w))

-- the first block is of the group's client or of a smaller one
abbrev Leads : Group → List BlockValue → Type 0
Leads group [] = Unit {0}
Leads group (block ∷ blocks) = block.client.0 ≤ (start_of group).client.0

fall_leads : (group : Group) (groups : List Group) → Fall (group ∷ groups) → Leads group (blocks_of groups)
fall_leads group [] fall = tt
fall_leads group (next ∷ groups) fall = at (blocks_of groups)
  where
    at : (blocks : List BlockValue) → Leads group (front_block next blocks)
    at [] = fall.0
    at (block ∷ blocks) = go (nat_eq block.client.0 (start_of next).client.0)
      where
        go : (t : Bool) → Leads group (if t then block_with next block ∷ blocks else block_of next ∷ block ∷ blocks)
        go true = fall.0
        go false = fall.0

front_descends : (group : Group) (blocks : List BlockValue) → Leads group blocks → ClientsDescend blocks → ClientsDescend (front_block group blocks)
front_descends group [] leads fall = tt
front_descends group (block ∷ []) leads fall = go (nat_eq block.client.0 (start_of group).client.0) refl
  where
    go : (t : Bool) → nat_eq block.client.0 (start_of group).client.0 ≡ t → ClientsDescend (if t then block_with group block ∷ [] else block_of group ∷ block ∷ [])
    go true e = tt
    go false e = (grind (arith, tests), tt)
front_descends group (block ∷ next ∷ blocks) leads fall = go (nat_eq block.client.0 (start_of group).client.0) refl
  where
    go : (t : Bool) → nat_eq block.client.0 (start_of group).client.0 ≡ t → ClientsDescend (if t then block_with group block ∷ next ∷ blocks else block_of
        group ∷ block ∷ next ∷ blocks)
    go true e = (omega (arith, fall.0, leads, same), fall.1)
      where
        same : block.client.0 ≡ (start_of group).client.0
        same = grind (arith, tests)
    go false e = (grind (arith, tests), fall)

fall_rest : (group : Group) (groups : List Group) → Fall (group ∷ groups) → Fall groups
fall_rest group [] fall = tt
fall_rest group (next ∷ groups) fall = fall.1

blocks_descend : (groups : List Group) → Fall groups → ClientsDescend (blocks_of groups)
blocks_descend [] fall = tt
blocks_descend (group ∷ groups) fall = front_descends group (blocks_of groups) (fall_leads group groups fall) (blocks_descend groups (fall_rest group groups fall))

pub clients_descend : (os : List Operation) (deletes : List Span) → AreGroupable os → ClientsDescend (grouping_of os deletes).blocks
clients_descend os deletes are = blocks_descend (groups_for os)
    (written_fall (groups_for os) (groups_units (groups_for os) (gathered_are (map group_of os) (groups_are os (carry_none os are.valid))))
    (subst (λ ps. IsWritten ps) (sym (groups-operations os (carry_none os are.valid) (are_bare os are.valid))) are.written))
