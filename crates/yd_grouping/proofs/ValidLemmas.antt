-- Valid operations: those of a valid update are, and taking, lowering and mending keep it.
use Rattle.std.specs.Prelude.{IfSome}
use Rattle.std.proofs.Common.{◌≡◌, ℕ, zero, suc, ◌+◌, ◌<◌, Bool, true, false, cond, List, [], ◌∷◌, ◌++◌, length, map, Option, Some, None, inl, inr, refl, sym, subst, arith}
use Rattle.std.proofs.lemmas.Bool.{cases_Bool}
use Rattle.yd_words.specs.Each.{Each}
use Rattle.yd_words.specs.Member.{IsIn}
use Rattle.yd_words.proofs.EachLemmas.{each_append}
use Rattle.yd_units.specs.Half.{AreUnits}
use Rattle.yd_any.specs.Tree.{AnyTree, AnyTrees, no_trees, tree}
use Rattle.yd_ids.specs.Id.{IsClient, IsClock, IsId}
use Rattle.yd_ids.specs.Ids.{is_same, is_written_before}
use Rattle.yd_ids.specs.declared.id.Client.{Client}
use Rattle.yd_ids.specs.declared.id.Id.{Id}
use Rattle.yd_ops.specs.Operation.{Operation, UnitContent, as_level, deleted_units, gone_from, gone_operation, json_unit, later_id, level_of, operations_from, operations_of, operations_of_blocks, operations_of_struct, operations_of_structs, text_unit, units_of_content, units_of_trees}
use Rattle.yd_ops.specs.Valid.{AreStructsFrom, AreValidTrees, CarriesList, IsStructAt, IsValidBlock, IsValidContent, IsValidUnit, IsValidUpdate}
use Rattle.yd_ops.specs.Value.{BlockValue, ContentValue, StructValue, UpdateValue, any, binary, clocks_of, deleted, embed, format, gone, item, json, len_of, nested, skip, string}
use Rattle.yd_ops.specs.declared.lists.List.{List as DocList}
use Rattle.yd_ops.proofs.OperationLemmas.{length-units_of_content}
use Rattle.yd_ops.specs.Pairs.{as_torn, is_alone}
use Rattle.yd_ops.specs.Received.{Received, all_taken, groups_of, lowered, nothing_received, received_after, received_more, received_set, taken_in, with_group, with_groups}
use Rattle.yd_ops.proofs.GroupLemmas.{all_of, update_groups}
use Rattle.yd_ops.proofs.LevelLemmas.{half_full, lowered_either}
use Rattle.yd_ops.proofs.MendingLemmas.{alone_decides}
use Rattle.yd_ops.proofs.SpellingLemmas.{run_bare}
use Rattle.yd_grouping.specs.Groupable.{IsValidOperation, IsValidUnitContent}

-- what holds of each of two lists in a row holds of each of them
pub each_parts : {X : Type 0} (P : X → Type 0) (xs ys : List X) → Each P (xs ++ ys) → Each P xs × Each P ys
each_parts P [] ys each = (tt, each)
each_parts P (x ∷ xs) ys each = let (front, back) = each_parts P xs ys each.1 in ((each.0, front), back)

-- ---- units

units_valid : (us : List ℕ) → AreUnits us → Each IsValidUnitContent (map text_unit us)
units_valid [] valid = tt
units_valid (u ∷ us) valid = (valid 0, units_valid us (λ i. valid (suc i)))

json_valid : (us : List (Option AnyTree)) → Each IsValidUnit us → Each IsValidUnitContent (map json_unit us)
json_valid [] valid = tt
json_valid (u ∷ us) valid = (valid.0, json_valid us valid.1)

trees_valid : (ts : AnyTrees) → AreValidTrees ts → Each IsValidUnitContent (units_of_trees ts)
trees_valid no_trees valid = tt
trees_valid (tree t ts) valid = (valid.0, trees_valid ts valid.1)

deleted_valid : (n : ℕ) → Each IsValidUnitContent (deleted_units n)
deleted_valid zero = tt
deleted_valid (suc n) = (tt, deleted_valid n)

pub content_valid : (content : ContentValue) → IsValidContent content → Each IsValidUnitContent (units_of_content content)
content_valid (json values) valid = json_valid values valid
content_valid (binary blob) valid = (tt, tt)
content_valid (string units) valid = units_valid units valid.0
content_valid (embed t) valid = (valid, tt)
content_valid (format key t) valid = (valid, tt)
content_valid (nested kind) valid = (tt, tt)
content_valid (any ts) valid = trees_valid ts valid
content_valid (deleted count) valid = deleted_valid count

-- ---- operations of valid updates

pub from_valid : (id : Id) (left right : Option Id) (list : Option DocList) (units : List UnitContent) → IsClient id.client → IsClock (id.clock + length units) →
    IfSome left IsId → IfSome right IsId → CarriesList left right list → Each IsValidUnitContent units →
    ((o : Operation) → IsIn o (operations_from id left right list units) → level_of o.content ≡ 0 → o ≡ gone_operation o.id) →
    Each IsValidOperation (operations_from id left right list units)
from_valid id left right list [] client end is_left is_right carries each bare = tt
from_valid id left right list (unit ∷ units) client end is_left is_right carries each bare = (
  record {
    client = client;
    end = omega (arith, end);
    left = is_left;
    right = is_right;
    list = λ some. carries;
    bare = bare (record { id = id; left_origin = left; right_origin = right; list = list; content = unit }) (inl refl);
    content = each.0;
  },
  from_valid (later_id id 1) (Some id) right None units client (omega (arith, end)) (record { client = client; clock = omega (arith, end) }) is_right
      tt each.1 (λ o i. bare o (inr i)),
)

pub gone_valid : (count : ℕ) (id : Id) → IsClient id.client → IsClock (id.clock + count) → Each IsValidOperation (gone_from id count)
gone_valid zero id client end = tt
gone_valid (suc count) id client end = (
  record { client = client; end = omega (arith, end); left = tt; right = tt; list = λ some. absurd (omega (arith, some)); bare = λ e. refl; content = tt },
  gone_valid count (later_id id 1) client (omega (arith, end)),
)

struct_valid : (client : Client) (clock : ℕ) (s : StructValue) → IsClient client → IsStructAt client clock s → IsClock (clock + clocks_of s) →
    Each IsValidOperation (operations_of_struct client clock s)
struct_valid client clock (item run) is valid end =
    let ends : IsClock (run.id.clock + len_of run.content) = rw valid.begins end in
    from_valid run.id run.left run.right run.list (units_of_content run.content) (rw valid.begins is)
    (omega (arith, ends, length-units_of_content run.content)) valid.left valid.right valid.list (content_valid run.content valid.content) (run_bare run)
struct_valid client clock (skip count) is valid end = tt
struct_valid client clock (gone count) is valid end = gone_valid count (record { client = client; clock = clock }) is end

structs_valid : (client : Client) (clock : ℕ) (structs : List StructValue) → IsClient client → AreStructsFrom client clock structs →
    Each IsValidOperation (operations_of_structs client clock structs)
structs_valid client clock [] is valid = tt
structs_valid client clock (s ∷ structs) is valid = each_append IsValidOperation (operations_of_struct client clock s) (operations_of_structs client (clock + clocks_of s) structs)
    (struct_valid client clock s is valid.0 valid.1) (structs_valid client (clock + clocks_of s) structs is valid.2)

blocks_operations_valid : (blocks : List BlockValue) → Each IsValidBlock blocks → Each IsValidOperation (operations_of_blocks blocks)
blocks_operations_valid [] valid = tt
blocks_operations_valid (block ∷ blocks) valid = each_append IsValidOperation (operations_of_structs block.client block.clock block.structs) (operations_of_blocks blocks)
    (structs_valid block.client block.clock block.structs valid.0.client valid.0.structs) (blocks_operations_valid blocks valid.1)

pub operations_valid : (update : UpdateValue) → IsValidUpdate update → Each IsValidOperation (operations_of update)
operations_valid update valid = blocks_operations_valid update.blocks valid.blocks

-- ---- what taking keeps

at_level_valid : (level : ℕ) (o : Operation) → level < level_of o.content → IsValidOperation o → IsValidOperation (as_level level o)
at_level_valid zero o lt valid = record { client = valid.client; end = valid.end; left = tt; right = tt; list = λ some. absurd (omega (arith, some)); bare = λ e. refl; content = tt }
at_level_valid (suc zero) o lt valid = record {
  client = valid.client;
  end = valid.end;
  left = valid.left;
  right = valid.right;
  list = λ some. valid.list (omega (arith, lt));
  bare = λ e. absurd (omega (arith, e));
  content = tt;
}
at_level_valid (suc (suc level)) o lt valid = valid

pub lowered_valid : (there o : Operation) → IsValidOperation there → IsValidOperation (lowered there o)
lowered_valid there o valid = elim (lowered_either there o) [
  | inl s ↦ subst (λ q. IsValidOperation q) (sym s.1) (at_level_valid (level_of o.content) there s.0 valid)
  | inr s ↦ subst (λ q. IsValidOperation q) (sym s.1) valid
]

taken_valid : (o : Operation) (os : List Operation) → IsValidOperation o → Each IsValidOperation os → Each IsValidOperation (taken_in o os)
taken_valid o [] valid each = (valid, tt)
taken_valid o (p ∷ ps) valid each = go (is_same o.id p.id) (is_written_before o.id p.id) (taken_valid o ps valid each.1)
  where
    go : (s t : Bool) → Each IsValidOperation (taken_in o ps) → Each IsValidOperation (cond s (lowered p o ∷ ps) (cond t (o ∷ p ∷ ps) (p ∷ taken_in o ps)))
    go true t rest = (lowered_valid p o each.0, each.1)
    go false true rest = (valid, each)
    go false false rest = (each.0, rest)

all_valid : (os taken : List Operation) → Each IsValidOperation os → Each IsValidOperation taken → Each IsValidOperation (all_taken os taken)
all_valid [] taken each also = also
all_valid (o ∷ os) taken each also = all_valid os (taken_in o taken) each.1 (taken_valid o taken each.0 also)

full_list : (o : Operation) → level_of o.content ≡ 2 → IsValidOperation o → IsValidOperation (as_torn true o)
full_list o full valid = record {
  client = valid.client;
  end = valid.end;
  left = valid.left;
  right = valid.right;
  list = λ some. valid.list (omega (arith, full));
  bare = λ e. absurd (omega (arith, e));
  content = omega arith;
}

torn_valid : (os : List Operation) (o : Operation) → IsValidOperation o → IsValidOperation (as_torn (is_alone os o) o)
torn_valid os o valid = elim (cases_Bool (is_alone os o)) [
  | inl alone ↦ rw alone (full_list o (half_full o.content ((alone_decides os o).0 alone).0) valid)
  | inr whole ↦ rw whole valid
]

mapped_valid : (all os : List Operation) → Each IsValidOperation os → Each IsValidOperation (map (λ o. as_torn (is_alone all o) o) os)
mapped_valid all [] each = tt
mapped_valid all (o ∷ os) each = (torn_valid all o each.0, mapped_valid all os each.1)

groups_valid : (groups : List (List Operation)) (taken : List Operation) → Each IsValidOperation (all_of groups) → Each IsValidOperation taken →
    Each IsValidOperation (with_groups groups taken)
groups_valid [] taken each also = also
groups_valid (group ∷ groups) taken each also = let (front, back) = each_parts IsValidOperation group (all_of groups) each in
    groups_valid groups (with_group group taken) back (mapped_valid (all_taken group taken) (all_taken group taken) (all_valid group taken front also))

-- ---- lemmas for callers

pub after_valid : (r : Received) (update : UpdateValue) → IsValidUpdate update → Each IsValidOperation r.operations → Each IsValidOperation (received_after r update).operations
after_valid r update valid each = groups_valid (groups_of update) r.operations
    (subst (λ os. Each IsValidOperation os) (sym (update_groups update)) (operations_valid update valid)) each

more_valid : (r : Received) (updates : List UpdateValue) → Each IsValidUpdate updates → Each IsValidOperation r.operations →
    Each IsValidOperation (received_more r updates).operations
more_valid r [] valid each = each
more_valid r (update ∷ updates) valid each = more_valid (received_after r update) updates valid.1 (after_valid r update valid.0 each)

-- what is received of valid updates are valid operations
pub received_valid : (updates : List UpdateValue) → Each IsValidUpdate updates → Each IsValidOperation (received_set updates).operations
received_valid updates valid = more_valid nothing_received updates valid tt
