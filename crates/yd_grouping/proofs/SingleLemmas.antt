-- The groups for the operations of groups are these groups, gathered; so operations may be grouped piece by piece.
use Rattle.std.proofs.Common.{◌≡◌, ℕ, zero, suc, ◌+◌, ◌<◌, true, List, [], ◌∷◌, map, Option, Some, None, refl, sym, ap, ap₂, ◌∙◌, arith}
use Rattle.yd_any.specs.Tree.{AnyTree, AnyTrees, no_trees, tree}
use Rattle.yd_ids.specs.declared.id.Id.{Id}
use Rattle.yd_ids.proofs.IdLemmas.{same_itself}
use Rattle.yd_ops.specs.Joining.{are_of_one_kind, joined_content}
use Rattle.yd_ops.specs.Operation.{deleted_units, gone_from, json_unit, later_id, operations_from, text_unit, units_of_content, units_of_trees}
use Rattle.yd_ops.specs.Value.{ContentValue, any, deleted, json, len_of, string}
use Rattle.yd_ops.specs.declared.lists.List.{List as DocList}
use Rattle.yd_ops.proofs.JoinLemmas.{neighbour_itself, says_joins}
use Rattle.yd_grouping.specs.Groups.{Group, gathered, groups_for, in_front, met, of_gone, of_run, operations_of_group, operations_of_groups, size_of}
use Rattle.yd_grouping.specs.Law.{HaveUnits}
use Rattle.yd_grouping.proofs.GatherLemmas.{border}

-- a unit in front of the rest of its run
unit_front : (id : Id) (left right : Option Id) (list : Option DocList) (content next : ContentValue) → len_of content ≡ 1 → are_of_one_kind content next ≡ true →
    in_front (of_run (record { id = id; left = left; right = right; list = list; content = content }))
    (of_run (record { id = later_id id 1; left = Some id; right = right; list = None; content = next }) ∷ [])
    ≡ of_run (record { id = id; left = left; right = right; list = list; content = joined_content content next }) ∷ []
unit_front id left right list content next one kind =
    rw (says_joins (record { id = id; left = left; right = right; list = list; content = content }) (record
    { id = later_id id 1; left = Some id; right = right; list = None; content = next })
    (record { begins = ap (later_id id) (sym one); behind = same_itself (later_id id 1); right = neighbour_itself right; kind = kind })) refl

text_single : (id : Id) (left right : Option Id) (list : Option DocList) (u : ℕ) (us : List ℕ) →
    groups_for (operations_from id left right list (map text_unit (u ∷ us))) ≡ of_run (record { id = id; left = left; right = right; list = list; content = string (u ∷ us) }) ∷ []
text_single id left right list u [] = refl
text_single id left right list u (v ∷ us) =
    ap (in_front (of_run (record { id = id; left = left; right = right; list = list; content = string (u ∷ []) }))) (text_single (later_id id 1) (Some id) right None v us)
    ∙ unit_front id left right list (string (u ∷ [])) (string (v ∷ us)) refl refl

json_single : (id : Id) (left right : Option Id) (list : Option DocList) (u : Option AnyTree) (us : List (Option AnyTree)) →
    groups_for (operations_from id left right list (map json_unit (u ∷ us))) ≡ of_run (record { id = id; left = left; right = right; list = list; content = json (u ∷ us) }) ∷ []
json_single id left right list u [] = refl
json_single id left right list u (v ∷ us) =
    ap (in_front (of_run (record { id = id; left = left; right = right; list = list; content = json (u ∷ []) }))) (json_single (later_id id 1) (Some id) right None v us)
    ∙ unit_front id left right list (json (u ∷ [])) (json (v ∷ us)) refl refl

trees_single : (id : Id) (left right : Option Id) (list : Option DocList) (t : AnyTree) (ts : AnyTrees) →
    groups_for (operations_from id left right list (units_of_trees (tree t ts))) ≡ of_run (record { id = id; left = left; right = right; list = list; content = any (tree t ts) })
    ∷ []
trees_single id left right list t no_trees = refl
trees_single id left right list t (tree u ts) =
    ap (in_front (of_run (record { id = id; left = left; right = right; list = list; content = any (tree t no_trees) }))) (trees_single (later_id id 1) (Some id) right None u ts)
    ∙ unit_front id left right list (any (tree t no_trees)) (any (tree u ts)) refl refl

deleted_single : (id : Id) (left right : Option Id) (list : Option DocList) (n : ℕ) →
    groups_for (operations_from id left right list (deleted_units (suc n))) ≡ of_run (record { id = id; left = left; right = right; list = list; content = deleted (suc n) }) ∷ []
deleted_single id left right list zero = refl
deleted_single id left right list (suc n) =
    ap (in_front (of_run (record { id = id; left = left; right = right; list = list; content = deleted 1 }))) (deleted_single (later_id id 1) (Some id) right None n)
    ∙ unit_front id left right list (deleted 1) (deleted (suc n)) refl refl
    ∙ ap (λ k. of_run (record { id = id; left = left; right = right; list = list; content = deleted k }) ∷ []) one
  where
    one : 1 + suc n ≡ suc (suc n)
    one = omega arith

gone_single : (id : Id) (n : ℕ) → groups_for (gone_from id (suc n)) ≡ of_gone id (suc n) ∷ []
gone_single id zero = refl
gone_single id (suc n) = ap (in_front (of_gone id 1)) (gone_single (later_id id 1) n) ∙ rw (same_itself (later_id id 1)) (ap (λ k. of_gone id k ∷ []) one)
  where
    one : 1 + suc n ≡ suc (suc n)
    one = omega arith

content_single : (id : Id) (left right : Option Id) (list : Option DocList) (content : ContentValue) → 0 < len_of content →
    groups_for (operations_from id left right list (units_of_content content)) ≡ of_run (record { id = id; left = left; right = right; list = list; content = content }) ∷ []
content_single id left right list (string []) some = absurd (omega (arith, some))
content_single id left right list (string (u ∷ us)) some = text_single id left right list u us
content_single id left right list (json []) some = absurd (omega (arith, some))
content_single id left right list (json (u ∷ us)) some = json_single id left right list u us
content_single id left right list (any no_trees) some = absurd (omega (arith, some))
content_single id left right list (any (tree t ts)) some = trees_single id left right list t ts
content_single id left right list (deleted zero) some = absurd (omega (arith, some))
content_single id left right list (deleted (suc n)) some = deleted_single id left right list n
content_single id left right list content some = refl

-- ---- lemmas for callers

-- the operations of one group are grouped as that group
pub single : (group : Group) → 0 < size_of group → groups_for (operations_of_group group) ≡ group ∷ []
single (of_run run) some = content_single run.id run.left run.right run.list run.content some
single (of_gone id zero) some = absurd (omega (arith, some))
single (of_gone id (suc n)) some = gone_single id n

pub regrouped : (groups : List Group) → HaveUnits groups → groups_for (operations_of_groups groups) ≡ gathered groups
regrouped [] each = refl
regrouped (group ∷ groups) each = border (operations_of_group group) (operations_of_groups groups)
    ∙ ap₂ (λ gs hs. met gs hs) (single group each.0) (regrouped groups each.1)
