-- Blocks: a group in front of blocks, what operations they have, and that they are valid.
use Rattle.std.specs.Prelude.{if◌then◌else◌, nat_eq}
use Rattle.std.proofs.Common.{◌≡◌, ℕ, zero, suc, ◌+◌, ◌-◌, ◌<◌, ◌≤◌, Bool, true, false, List, [], ◌∷◌, ◌++◌, length, Option, Some, None, inl, inr, refl, sym, ap, ap₂, ◌∙◌, subst, arith, tests, append_assoc}
use Rattle.yd_words.specs.Each.{Each}
use Rattle.yd_words.specs.Member.{IsIn}
use Rattle.yd_words.proofs.MemberLemmas.{in_left_part, in_right_part}
use Rattle.yd_ids.specs.Id.{IsClient, IsClock}
use Rattle.yd_ids.specs.Ids.{is_written_before}
use Rattle.yd_ids.specs.declared.id.Client.{Client}
use Rattle.yd_ids.specs.declared.id.Id.{Id}
use Rattle.yd_ids.proofs.IdLemmas.{same_numbers}
use Rattle.yd_ops.specs.Operation.{Operation, UnitContent, gone_from, gone_operation, later_id, operations_from, operations_of_blocks, operations_of_struct, operations_of_structs, units_of_content}
use Rattle.yd_ops.specs.Valid.{AreStructsFrom, IsStructAt, IsValidBlock}
use Rattle.yd_ops.specs.Value.{BlockValue, StructValue, clocks_of}
use Rattle.yd_ops.specs.declared.lists.List.{List as DocList}
use Rattle.yd_ops.proofs.OperationLemmas.{length-units_of_content}
use Rattle.yd_ops.specs.Received.{IsWritten}
use Rattle.yd_grouping.specs.Grouped.{block_of, block_with, blocks_of, end_of, front_block, with_gap}
use Rattle.yd_grouping.specs.Groups.{Group, of_gone, of_run, operations_of_group, operations_of_groups, size_of, start_of, struct_of}
use Rattle.yd_grouping.specs.Law.{Ascend, HaveUnits}

-- ---- each unit of a group is one of its operations

from_has : (id : Id) (left right : Option Id) (list : Option DocList) (units : List UnitContent) (k : ℕ) → k < length units →
    (o : Operation) × IsIn o (operations_from id left right list units) × (o.id ≡ later_id id k)
from_has id left right list [] k lt = absurd (omega (arith, lt))
from_has id left right list (unit ∷ units) zero lt =
    (record { id = id; left_origin = left; right_origin = right; list = list; content = unit }, inl refl, same_numbers id (later_id id 0) refl (omega arith))
from_has id left right list (unit ∷ units) (suc k) lt = let (o, i, e) = from_has (later_id id 1) (Some id) right None units k (omega (arith, lt)) in
    (o, inr i, e ∙ same_numbers (later_id (later_id id 1) k) (later_id id (suc k)) refl (omega arith))

gone_has : (id : Id) (count k : ℕ) → k < count → (o : Operation) × IsIn o (gone_from id count) × (o.id ≡ later_id id k)
gone_has id zero k lt = absurd (omega (arith, lt))
gone_has id (suc count) zero lt = (gone_operation id, inl refl, same_numbers id (later_id id 0) refl (omega arith))
gone_has id (suc count) (suc k) lt = let (o, i, e) = gone_has (later_id id 1) count k (omega (arith, lt)) in
    (o, inr i, e ∙ same_numbers (later_id (later_id id 1) k) (later_id id (suc k)) refl (omega arith))

pub group_has : (group : Group) (k : ℕ) → k < size_of group → (o : Operation) × IsIn o (operations_of_group group) × (o.id ≡ later_id (start_of group) k)
group_has (of_run run) k lt = from_has run.id run.left run.right run.list (units_of_content run.content) k (omega (arith, lt, length-units_of_content run.content))
group_has (of_gone id count) k lt = gone_has id count k lt

-- ---- groups in the order of writing

-- a group ends before the next one of its client begins
abbrev pub Precedes : Group → Group → Type 0
Precedes group next = (start_of next).client.0 ≡ (start_of group).client.0 → end_of group ≤ (start_of next).clock

pub written_parts : (os ps : List Operation) → IsWritten (os ++ ps) → (o p : Operation) → IsIn o os → IsIn p ps → is_written_before o.id p.id ≡ true
written_parts [] ps w o p i j = absurd i
written_parts (q ∷ qs) ps w o p (inl e) j = subst (λ r. is_written_before r.id p.id ≡ true) (sym e) (w.0 p (in_right_part p qs ps j))
written_parts (q ∷ qs) ps w o p (inr i) j = written_parts qs ps w.1 o p i j

pub written_back : (os ps : List Operation) → IsWritten (os ++ ps) → IsWritten ps
written_back [] ps w = w
written_back (q ∷ qs) ps w = written_back qs ps w.1

precedes : (group next : Group) (groups : List Group) → 0 < size_of group → 0 < size_of next → IsWritten (operations_of_groups (group ∷ next ∷ groups)) → Precedes group next
precedes group next groups some more w client = go (group_has group (size_of group - 1) (omega (arith, some))) (group_has next 0 more)
  where
    go : (o : Operation) × IsIn o (operations_of_group group) × (o.id ≡ later_id (start_of group) (size_of group - 1)) →
        (p : Operation) × IsIn p (operations_of_group next) × (p.id ≡ later_id (start_of next) 0) → end_of group ≤ (start_of next).clock
    go (o, i, e) (p, j, f) =
        let before : is_written_before (later_id (start_of group) (size_of group - 1)) (later_id (start_of next) 0) ≡ true =
        subst (λ x. is_written_before x (later_id (start_of next) 0) ≡ true) e (subst (λ x. is_written_before o.id x ≡ true) f
        (written_parts (operations_of_group group) (operations_of_groups (next ∷ groups)) w o p i (in_left_part p (operations_of_group next) (operations_of_groups groups) j))) in
        grind (arith, tests)

pub written_ascend : (groups : List Group) → HaveUnits groups → IsWritten (operations_of_groups groups) → Ascend groups
written_ascend [] each w = tt
written_ascend (group ∷ []) each w = tt
written_ascend (group ∷ next ∷ groups) each w =
    (precedes group next groups each.0 each.1.0 w, written_ascend (next ∷ groups) each.1 (written_back (operations_of_group group) (operations_of_groups (next ∷ groups)) w))

-- ---- a group in front of blocks

-- it ends before the first block begins, where that is its client's
abbrev pub FitsBefore : Group → List BlockValue → Type 0
FitsBefore group [] = Unit {0}
FitsBefore group (block ∷ blocks) = block.client.0 ≡ (start_of group).client.0 → end_of group ≤ block.clock

pub ascend_fits : (group : Group) (groups : List Group) → Ascend (group ∷ groups) → FitsBefore group (blocks_of groups)
ascend_fits group [] ascend = tt
ascend_fits group (next ∷ groups) ascend = front_fits (blocks_of groups)
  where
    front_fits : (blocks : List BlockValue) → FitsBefore group (front_block next blocks)
    front_fits [] = ascend.0
    front_fits (block ∷ blocks) = go (nat_eq block.client.0 (start_of next).client.0)
      where
        go : (t : Bool) → FitsBefore group (if t then block_with next block ∷ blocks else block_of next ∷ block ∷ blocks)
        go true = ascend.0
        go false = ascend.0

pub struct-clocks : (group : Group) → clocks_of (struct_of group) ≡ size_of group
struct-clocks (of_run run) = refl
struct-clocks (of_gone id count) = refl

struct-operations : (group : Group) → operations_of_struct (start_of group).client (start_of group).clock (struct_of group) ≡ operations_of_group group
struct-operations (of_run run) = refl
struct-operations (of_gone id count) = refl

gap-operations : (client : Client) (clock n : ℕ) (structs : List StructValue) → operations_of_structs client clock (with_gap n structs)
    ≡ operations_of_structs client (clock + n) structs
gap-operations client clock zero structs = ap (λ k. operations_of_structs client k structs) none
  where
    none : clock ≡ clock + 0
    none = omega arith
gap-operations client clock (suc n) structs = refl

front-block-operations : (group : Group) (blocks : List BlockValue) → FitsBefore group blocks → operations_of_blocks (front_block group blocks)
    ≡ operations_of_group group ++ operations_of_blocks blocks
front-block-operations group [] fits = append_assoc (operations_of_struct (start_of group).client (start_of group).clock (struct_of group)) [] []
    ∙ ap (λ ps. ps ++ []) (struct-operations group)
front-block-operations group (block ∷ blocks) fits = go (nat_eq block.client.0 (start_of group).client.0) refl
  where
    go : (t : Bool) → nat_eq block.client.0 (start_of group).client.0 ≡ t → operations_of_blocks (if t then block_with group block ∷ blocks else block_of group ∷ block ∷ blocks)
        ≡ operations_of_group group ++ (operations_of_structs block.client block.clock block.structs ++ operations_of_blocks blocks)
    go true e = ap (λ ps. ps ++ operations_of_blocks blocks) (ap₂ (λ ps qs. ps ++ qs) (struct-operations group)
        (gap-operations (start_of group).client ((start_of group).clock + clocks_of (struct_of group)) (block.clock - end_of group) block.structs
        ∙ ap₂ (λ c k. operations_of_structs c k block.structs) same ends))
        ∙ append_assoc (operations_of_group group) (operations_of_structs block.client block.clock block.structs) (operations_of_blocks blocks)
      where
        numbers : block.client.0 ≡ (start_of group).client.0
        numbers = grind (arith, tests)

        same : (start_of group).client ≡ block.client
        same = λ i. record { 0 = sym numbers i }

        ends : (start_of group).clock + clocks_of (struct_of group) + (block.clock - end_of group) ≡ block.clock
        ends = omega (arith, struct-clocks group, fits numbers)
    go false e = ap (λ ps. (ps ++ []) ++ (operations_of_structs block.client block.clock block.structs ++ operations_of_blocks blocks)) (struct-operations group)
        ∙ append_assoc (operations_of_group group) [] (operations_of_structs block.client block.clock block.structs ++ operations_of_blocks blocks)

pub ascend_rest : (group : Group) (groups : List Group) → Ascend (group ∷ groups) → Ascend groups
ascend_rest group [] ascend = tt
ascend_rest group (next ∷ groups) ascend = ascend.1

-- ---- lemmas for callers

-- the blocks of groups have their operations
pub blocks-operations : (groups : List Group) → Ascend groups → operations_of_blocks (blocks_of groups) ≡ operations_of_groups groups
blocks-operations [] ascend = refl
blocks-operations (group ∷ groups) ascend = front-block-operations group (blocks_of groups) (ascend_fits group groups ascend)
    ∙ ap (λ ps. operations_of_group group ++ ps) (blocks-operations groups (ascend_rest group groups ascend))

-- the group's struct is valid where it begins, and ends at a clock
pub record IsValidGroup (group : Group) : Type 0 where
  pub client : IsClient (start_of group).client
  pub struct : IsStructAt (start_of group).client (start_of group).clock (struct_of group)
  pub end : IsClock (end_of group)

gap_structs : (client : Client) (clock n : ℕ) (structs : List StructValue) → IsClock (clock + n) → AreStructsFrom client (clock + n) structs →
    AreStructsFrom client clock (with_gap n structs)
gap_structs client clock zero structs is are = subst (λ k. AreStructsFrom client k structs) none are
  where
    none : clock + 0 ≡ clock
    none = omega arith
gap_structs client clock (suc n) structs is are = (omega arith, is, are)

start_clock : (group : Group) → IsClock (end_of group) → IsClock (start_of group).clock
start_clock group is = omega (arith, is)

front_valid : (group : Group) (blocks : List BlockValue) → IsValidGroup group → FitsBefore group blocks → Each IsValidBlock blocks → Each IsValidBlock (front_block group blocks)
front_valid group [] is fits each = (alone, tt)
  where
    alone : IsValidBlock (block_of group)
    alone = record { client = is.client; clock = start_clock group is.end; structs = (is.struct, omega (arith, is.end, struct-clocks group), tt) }
front_valid group (block ∷ blocks) is fits each = go (nat_eq block.client.0 (start_of group).client.0) refl
  where
    go : (t : Bool) → nat_eq block.client.0 (start_of group).client.0 ≡ t → Each IsValidBlock (if t then block_with group block ∷ blocks else block_of group ∷ block ∷ blocks)
    go true e = (
      record {
        client = is.client;
        clock = start_clock group is.end;
        structs = (
          is.struct,
          omega (arith, is.end, struct-clocks group),
          gap_structs (start_of group).client ((start_of group).clock + clocks_of (struct_of group)) (block.clock - end_of group) block.structs
              (subst (λ k. IsClock k) (sym ends) each.0.clock)
              (subst (λ k. AreStructsFrom (start_of group).client k block.structs) (sym ends) (subst (λ c. AreStructsFrom c block.clock block.structs) same each.0.structs)),
        );
      },
      each.1,
    )
      where
        numbers : block.client.0 ≡ (start_of group).client.0
        numbers = grind (arith, tests)

        same : block.client ≡ (start_of group).client
        same = λ i. record { 0 = numbers i }

        ends : (start_of group).clock + clocks_of (struct_of group) + (block.clock - end_of group) ≡ block.clock
        ends = omega (arith, struct-clocks group, fits numbers)
    go false e = (record { client = is.client; clock = start_clock group is.end; structs = (is.struct, omega (arith, is.end, struct-clocks group), tt) }, each)

-- and are valid
pub blocks_valid : (groups : List Group) → Ascend groups → Each IsValidGroup groups → Each IsValidBlock (blocks_of groups)
blocks_valid [] ascend each = tt
blocks_valid (group ∷ groups) ascend each =
    front_valid group (blocks_of groups) each.0 (ascend_fits group groups ascend) (blocks_valid groups (ascend_rest group groups ascend) each.1)
