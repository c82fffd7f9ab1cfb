-- What goes on with the tail of a group is what the group joins.
use Rattle.std.proofs.Common.{◌≡◌, ℕ, Bool, true, false, ◌&&◌, Option, Some, None, refl, ap, sym, ◌∙◌}
use Rattle.std.specs.Prelude.{nat_eq}
use Rattle.yd_ids.specs.Ids.{is_same, is_same_neighbour}
use Rattle.yd_ids.specs.declared.id.Id.{Id}
use Rattle.yd_ops.specs.Joining.{are_of_one_kind, join_kind, stands_behind}
use Rattle.yd_ops.specs.Operation.{later_id}
use Rattle.yd_ops.specs.Value.{ContentValue, RunValue, any, binary, deleted, embed, format, gone, item, json, nested, string}
use Rattle.yd_grouping.specs.Groups.{Group, group_joins, of_gone, of_run, start_of, struct_of}
use Rattle.yd_skimming.specs.Tails.{id_behind, joins_tail, kind_of, last_tail, tail_with}

-- ---- tests

and_false : (a : Bool) → a && false ≡ false
and_false true = refl
and_false false = refl

and_true : (a : Bool) → a && true ≡ a
and_true true = refl
and_true false = refl

regroup : (a b c d : Bool) → a && (b && c && d) ≡ a && b && c && d
regroup true b c d = refl
regroup false b c d = refl

-- ---- a run

content_joins : (end : Id) (right : Option Id) (content : ContentValue) (next : RunValue) → joins_tail (tail_with end right (kind_of content)) next.id (item next) ≡
    is_same next.id end && stands_behind next.left next.id && is_same_neighbour right next.right && are_of_one_kind content next.content
content_joins end right (string units) next = regroup (is_same next.id end) (stands_behind next.left next.id) (is_same_neighbour right next.right) (nat_eq 1 (join_kind next.content))
content_joins end right (any ts) next = regroup (is_same next.id end) (stands_behind next.left next.id) (is_same_neighbour right next.right) (nat_eq 2 (join_kind next.content))
content_joins end right (json values) next = regroup (is_same next.id end) (stands_behind next.left next.id) (is_same_neighbour right next.right) (nat_eq 3 (join_kind next.content))
content_joins end right (deleted count) next = regroup (is_same next.id end) (stands_behind next.left next.id) (is_same_neighbour right next.right) (nat_eq 4 (join_kind next.content))
content_joins end right (binary blob) next = sym (and_false (is_same next.id end && stands_behind next.left next.id && is_same_neighbour right next.right))
content_joins end right (embed t) next = sym (and_false (is_same next.id end && stands_behind next.left next.id && is_same_neighbour right next.right))
content_joins end right (format key t) next = sym (and_false (is_same next.id end && stands_behind next.left next.id && is_same_neighbour right next.right))
content_joins end right (nested kind) next = sym (and_false (is_same next.id end && stands_behind next.left next.id && is_same_neighbour right next.right))

gone_apart : (end : Id) (right : Option Id) (content : ContentValue) (id : Id) (count : ℕ) → joins_tail (tail_with end right (kind_of content)) id (gone count) ≡ false
gone_apart end right (string units) id count = and_false (is_same id end)
gone_apart end right (any ts) id count = and_false (is_same id end)
gone_apart end right (json values) id count = and_false (is_same id end)
gone_apart end right (deleted units) id count = and_false (is_same id end)
gone_apart end right (binary blob) id count = refl
gone_apart end right (embed t) id count = refl
gone_apart end right (format key t) id count = refl
gone_apart end right (nested kind) id count = refl

-- ---- gone units

never_gone : (content : ContentValue) → nat_eq 5 (join_kind content) ≡ false
never_gone (string units) = refl
never_gone (any ts) = refl
never_gone (json values) = refl
never_gone (deleted count) = refl
never_gone (binary blob) = refl
never_gone (embed t) = refl
never_gone (format key t) = refl
never_gone (nested kind) = refl

run_apart : (id : Id) (count : ℕ) (next : RunValue) → joins_tail (last_tail (Some (of_gone id count))) next.id (item next) ≡ false
run_apart id count next =
    ap (λ kind. is_same next.id (later_id id count) && (stands_behind next.left next.id && is_same_neighbour None next.right && kind)) (never_gone next.content)
    ∙ ap (λ rest. is_same next.id (later_id id count) && rest) (and_false (stands_behind next.left next.id && is_same_neighbour None next.right))
    ∙ and_false (is_same next.id (later_id id count))

-- ---- lemmas for callers

pub tail_joins : (last next : Group) → joins_tail (last_tail (Some last)) (start_of next) (struct_of next) ≡ group_joins last next
tail_joins (of_run run) (of_run next) = content_joins (id_behind (of_run run)) run.right run.content next
tail_joins (of_run run) (of_gone id count) = gone_apart (id_behind (of_run run)) run.right run.content id count
tail_joins (of_gone id count) (of_run next) = run_apart id count next
tail_joins (of_gone id count) (of_gone next more) = and_true (is_same next (later_id id count))
