-- A grouping has the operations that were grouped, and is a valid update.
use Rattle.std.specs.Prelude.{IfSome, IsTrue, if◌then◌else◌}
use Rattle.std.proofs.Common.{◌≡◌, ℕ, zero, suc, ◌+◌, ◌<◌, ◌^◌, Bool, true, false, List, [], ◌∷◌, map, Option, Some, None, refl, sym, ap, ap₂, ◌∙◌, subst, arith, tests}
use Rattle.yd_words.specs.Each.{Each}
use Rattle.yd_words.proofs.EachLemmas.{each_append}
use Rattle.yd_words.proofs.MemberLemmas.{each_in}
use Rattle.yd_units.specs.Half.{AreUnits}
use Rattle.yd_units.proofs.HalfLemmas.{after_whole}
use Rattle.yd_any.specs.Rows.{trees_and}
use Rattle.yd_any.specs.Tree.{AnyTrees, no_trees, tree}
use Rattle.yd_any.specs.Valid.{is_valid_json}
use Rattle.yd_ids.specs.Id.{IsClient, IsClock, IsId}
use Rattle.yd_ids.specs.Set.{AreMaximal}
use Rattle.yd_ids.specs.declared.id.Id.{Id}
use Rattle.yd_ids.specs.declared.id.Span.{Span}
use Rattle.yd_ids.proofs.IdLemmas.{same_is}
use Rattle.yd_ops.specs.Joining.{are_of_one_kind, joined_content}
use Rattle.yd_ops.specs.Operation.{Operation, UnitContent, any_unit, embedded, json_unit, later_id, level_of, mark, operations_of, text_unit}
use Rattle.yd_ops.specs.Valid.{AreValidTrees, CarriesList, IsValidContent, IsValidUnit, IsValidUpdate}
use Rattle.yd_ops.specs.Value.{ContentValue, RunValue, UpdateValue, any, embed, format, json, len_of, string}
use Rattle.yd_ops.specs.declared.lists.List.{List as DocList}
use Rattle.yd_ops.proofs.JoinLemmas.{joined-len, joins_says, of_one_kind}
use Rattle.yd_ops.specs.Received.{IsWritten}
use Rattle.yd_ops.proofs.LevelLemmas.{AreBare}
use Rattle.yd_ops.proofs.MendingLemmas.{paired_has}
use Rattle.yd_meaning.specs.Held.{is_gone}
use Rattle.yd_grouping.specs.Groupable.{AreGroupable, IsValidOperation, IsValidUnitContent}
use Rattle.yd_grouping.specs.Grouped.{IsGrouped, blocks_of, grouping_of}
use Rattle.yd_grouping.specs.Groups.{AreApart, Group, IsGroup, content_of_unit, group_joins, group_of, groups_for, in_front, joined_group, of_gone, of_run, operations_of_groups, run_of}
use Rattle.yd_grouping.specs.Law.{Ascend, HaveUnits}
use Rattle.yd_grouping.proofs.BlockLemmas.{IsValidGroup, blocks-operations, blocks_valid, written_ascend}
use Rattle.yd_grouping.proofs.GatherLemmas.{apart_gathered}
use Rattle.yd_grouping.proofs.GroupsLemmas.{CarriesNone, gathered_are, groups-operations, groups_are, unit-len}
use Rattle.yd_grouping.proofs.SingleLemmas.{regrouped}
use Rattle.yd_grouping.proofs.WholeLemmas.{HasWholeText, IsWholeGroup, groups_whole}

-- ---- groups that are valid but for halves

-- the content is valid, but for halves
abbrev IsSound : ContentValue → Type 0
IsSound (string units) = Each (λ u. u < 2 ^ 16) units
IsSound (any ts) = AreValidTrees ts
IsSound (json values) = Each IsValidUnit values
IsSound (embed t) = IsTrue (is_valid_json t)
IsSound (format key t) = IsTrue (is_valid_json t)
IsSound content = Unit {0}

trees_both : (ts us : AnyTrees) → AreValidTrees ts → AreValidTrees us → AreValidTrees (trees_and ts us)
trees_both no_trees us a b = b
trees_both (tree t ts) us a b = (a.0, trees_both ts us a.1 b)

joined_sound : (content next : ContentValue) → are_of_one_kind content next ≡ true → IsSound content → IsSound next → IsSound (joined_content content next)
joined_sound = of_one_kind (λ c d. IsSound c → IsSound d → IsSound (joined_content c d))
    (λ us vs a b. each_append (λ u. u < 2 ^ 16) us vs a b) trees_both (λ us vs a b. each_append IsValidUnit us vs a b) (λ m n a b. tt)

unit_sound : (unit : UnitContent) → IsValidUnitContent unit → IsSound (content_of_unit unit)
unit_sound (text_unit unit) valid = (valid, tt)
unit_sound (any_unit value) valid = (valid, tt)
unit_sound (json_unit value) valid = (valid, tt)
unit_sound (embedded value) valid = valid
unit_sound (mark key value) valid = valid
unit_sound unit valid = tt

each_units : (us : List ℕ) → Each (λ u. u < 2 ^ 16) us → AreUnits us
each_units [] each i = omega arith
each_units (u ∷ us) each zero = each.0
each_units (u ∷ us) each (suc i) = each_units us each.1 i

sound_valid : (content : ContentValue) → IsSound content → HasWholeText content → IsValidContent content
sound_valid (string units) sound whole = (each_units units sound, after_whole units whole)
sound_valid content sound whole = sound

record IsSoundRun (run : RunValue) : Type 0 where
  client : IsClient run.id.client
  has_units : 0 < len_of run.content
  end : IsClock (run.id.clock + len_of run.content)
  left : IfSome run.left IsId
  right : IfSome run.right IsId
  list : CarriesList run.left run.right run.list
  content : IsSound run.content

abbrev IsSoundGroup : Group → Type 0
IsSoundGroup (of_run run) = IsSoundRun run
IsSoundGroup (of_gone id count) = IsClient id.client × (0 < count) × IsClock (id.clock + count)

joined_is_sound : (group next : Group) → group_joins group next ≡ true → IsSoundGroup group → IsSoundGroup next → IsSoundGroup (joined_group group next)
joined_is_sound (of_run run) (of_run next) e is also = let j = joins_says run next e in record {
  client = is.client;
  has_units = omega (arith, is.has_units, joined-len run.content next.content j.kind);
  end = omega (arith, also.end, ap (λ (x : Id). x.clock) j.begins, joined-len run.content next.content j.kind);
  left = is.left;
  right = is.right;
  list = is.list;
  content = joined_sound run.content next.content j.kind is.content also.content;
}
joined_is_sound (of_run run) (of_gone id n) e is also = is
joined_is_sound (of_gone id n) (of_run next) e is also = is
joined_is_sound (of_gone id n) (of_gone next m) e is also = (is.0, omega (arith, is.1), omega (arith, also.2, ap (λ (x : Id). x.clock) (same_is next (later_id id n) e)))

front_sound : (group : Group) (groups : List Group) → IsSoundGroup group → Each IsSoundGroup groups → Each IsSoundGroup (in_front group groups)
front_sound group [] is each = (is, tt)
front_sound group (next ∷ groups) is each = go (group_joins group next) refl
  where
    go : (t : Bool) → group_joins group next ≡ t → Each IsSoundGroup (if t then joined_group group next ∷ groups else group ∷ next ∷ groups)
    go true e = (joined_is_sound group next e is each.0, each.1)
    go false e = (is, each)

group_sound : (o : Operation) → IsValidOperation o → IsSoundGroup (group_of o)
group_sound o valid = go (is_gone o) refl
  where
    go : (t : Bool) → is_gone o ≡ t → IsSoundGroup (if t then of_gone o.id 1 else of_run (run_of o))
    go true e = (valid.client, omega arith, valid.end)
    go false e = record {
      client = valid.client;
      has_units = omega (arith, unit-len o.content);
      end = omega (arith, valid.end, unit-len o.content);
      left = valid.left;
      right = valid.right;
      list = valid.list (grind (arith, tests));
      content = unit_sound o.content valid.content;
    }

groups_sound : (os : List Operation) → Each IsValidOperation os → Each IsSoundGroup (groups_for os)
groups_sound [] each = tt
groups_sound (o ∷ os) each = front_sound (group_of o) (groups_for os) (group_sound o each.0) (groups_sound os each.1)

both_valid : (group : Group) → IsSoundGroup group → IsWholeGroup group → IsValidGroup group
both_valid (of_run run) sound whole = record {
  client = sound.client;
  struct = record { begins = refl; has_units = sound.has_units; left = sound.left; right = sound.right; list = sound.list; content = sound_valid run.content sound.content whole };
  end = sound.end;
}
both_valid (of_gone id count) sound whole = record { client = sound.0; struct = sound.1; end = sound.2 }

all_both : (groups : List Group) → Each IsSoundGroup groups → Each IsWholeGroup groups → Each IsValidGroup groups
all_both [] sound whole = tt
all_both (group ∷ groups) sound whole = (both_valid group sound.0 whole.0, all_both groups sound.1 whole.1)

-- ---- what the premises give

behind_none : (left right : Option Id) (list : Option DocList) (y : Id) → left ≡ Some y → CarriesList left right list → list ≡ None
behind_none left right None y e carries = refl
behind_none None right (Some list) y e carries = absurd cc
behind_none (Some x) right (Some list) y e carries = absurd carries

pub valid_carries : (o : Operation) → IsValidOperation o → CarriesNone o
valid_carries o valid y e = go (level_of o.content) refl
  where
    go : (n : ℕ) → level_of o.content ≡ n → o.list ≡ None
    go zero f = ap (λ (q : Operation). q.list) (valid.bare f)
    go (suc n) f = behind_none o.left_origin o.right_origin o.list y e (valid.list (omega (arith, f)))

pub carry_none : (os : List Operation) → Each IsValidOperation os → Each CarriesNone os
carry_none [] each = tt
carry_none (o ∷ os) each = (valid_carries o each.0, carry_none os each.1)

pub are_bare : (os : List Operation) → Each IsValidOperation os → AreBare os
are_bare os each o i e = (each_in IsValidOperation os each o i).bare e

pub groups_units : (groups : List Group) → Each IsGroup groups → HaveUnits groups
groups_units [] each = tt
groups_units (of_run run ∷ groups) each = (each.0.0, groups_units groups each.1)
groups_units (of_gone id count ∷ groups) each = (each.0, groups_units groups each.1)

pub groups_ascend : (os : List Operation) → IsWritten os → Each CarriesNone os → AreBare os → Ascend (groups_for os)
groups_ascend os w each bare = written_ascend (groups_for os) (groups_units (groups_for os) (gathered_are (map group_of os) (groups_are os each)))
    (subst (λ ps. IsWritten ps) (sym (groups-operations os each bare)) w)

-- ---- lemmas for callers

pub grouping-operations : (os : List Operation) (deletes : List Span) → IsWritten os → Each CarriesNone os → AreBare os → operations_of (grouping_of os deletes) ≡ os
grouping-operations os deletes w each bare = blocks-operations (groups_for os) (groups_ascend os w each bare) ∙ groups-operations os each bare

pub groupable-operations : (os : List Operation) (deletes : List Span) → AreGroupable os → operations_of (grouping_of os deletes) ≡ os
groupable-operations os deletes are = grouping-operations os deletes are.written (carry_none os are.valid) (are_bare os are.valid)

pub grouping_valid : (os : List Operation) (deletes : List Span) → AreGroupable os → AreMaximal deletes → IsValidUpdate (grouping_of os deletes)
grouping_valid os deletes are maximal = record {
  blocks = blocks_valid (groups_for os) (groups_ascend os are.written (carry_none os are.valid) (are_bare os are.valid))
      (all_both (groups_for os) (groups_sound os are.valid) (groups_whole os are.written (paired_has os are.paired) are.rights));
  deletes = maximal;
}

pub grouping_grouped : (os : List Operation) (deletes : List Span) → AreGroupable os → IsGrouped (grouping_of os deletes)
grouping_grouped os deletes are = ap (λ ps. grouping_of ps deletes) (sym (groupable-operations os deletes are))

-- two grouped updates with the same operations and deletions are one
pub grouped_one : (one other : UpdateValue) → IsGrouped one → IsGrouped other → operations_of one ≡ operations_of other → one.deletes ≡ other.deletes → one ≡ other
grouped_one one other is also operations deletes = is ∙ ap₂ grouping_of operations deletes ∙ sym also

-- groups that stand apart, in the order of writing, make a grouped update
pub built_grouped : (groups : List Group) (deletes : List Span) → HaveUnits groups → Ascend groups → AreApart groups →
    record { blocks = blocks_of groups; deletes = deletes } ≡ grouping_of (operations_of_groups groups) deletes
built_grouped groups deletes units ascend apart = ap (λ (gs : List Group). record { blocks = blocks_of gs; deletes = deletes })
    (sym (regrouped groups units ∙ apart_gathered groups apart))
