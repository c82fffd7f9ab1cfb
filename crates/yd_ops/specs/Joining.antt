-- Which runs are one run cut in two, and the run that they are (Yjs 13, Item.mergeWith; that only their operations are asked is own).
use Rattle.std.specs.Prelude.{◌≡◌, ℕ, ◌+◌, ◌-◌, Bool, true, ◌&&◌, List, [], ◌++◌, Option, Some, nat_eq, nat_lt}
use Rattle.yd_words.specs.Test.{is_some_and}
use Rattle.yd_any.specs.Tree.{AnyTree, AnyTrees, no_trees}
use Rattle.yd_any.specs.Rows.{trees_and}
use Rattle.yd_ids.specs.declared.id.Id.{Id}
use Rattle.yd_ids.specs.Ids.{is_same, is_same_neighbour}
use Rattle.yd_ops.specs.Value.{ContentValue, json, string, any, deleted, len_of, RunValue}
use Rattle.yd_ops.specs.Operation.{later_id}

-- ---- contents

-- the kind of a content, among those that join; 0 for one that stands alone
abbrev pub join_kind : ContentValue → ℕ
join_kind (string units) = 1
join_kind (any ts) = 2
join_kind (json values) = 3
join_kind (deleted count) = 4
join_kind content = 0

-- whether both contents are of one kind that joins: strings, any-values, JSON units or deleted units
abbrev pub are_of_one_kind : ContentValue → ContentValue → Bool
are_of_one_kind content next = nat_lt 0 (join_kind content) && nat_eq (join_kind content) (join_kind next)

-- the units of a string
abbrev pub units_in : ContentValue → List ℕ
units_in (string units) = units
units_in content = []

-- the any-values of a content
abbrev pub trees_in : ContentValue → AnyTrees
trees_in (any ts) = ts
trees_in content = no_trees

-- the JSON units of a content
abbrev pub values_in : ContentValue → List (Option AnyTree)
values_in (json values) = values
values_in content = []

-- how many units are deleted
abbrev pub count_in : ContentValue → ℕ
count_in (deleted count) = count
count_in content = 0

-- two contents of one kind as one
abbrev pub joined_content : ContentValue → ContentValue → ContentValue
joined_content (string units) next = string (units ++ units_in next)
joined_content (any ts) next = any (trees_and ts (trees_in next))
joined_content (json values) next = json (values ++ values_in next)
joined_content (deleted count) next = deleted (count + count_in next)
joined_content content next = content

-- ---- runs

-- whether a left origin is the id before this one
abbrev pub stands_behind : Option Id → Id → Bool
stands_behind left id = is_some_and (λ y. is_same id (later_id y 1)) left

-- whether a run goes on with the next one: it begins at the clock where the run ends, behind the run's last unit, with the same right origin, and
-- a content of the same kind
abbrev pub run_joins : RunValue → RunValue → Bool
run_joins run next =
    is_same next.id (later_id run.id (len_of run.content)) && stands_behind next.left next.id
    && is_same_neighbour run.right next.right && are_of_one_kind run.content next.content

-- both as one run
abbrev pub joined_run : RunValue → RunValue → RunValue
joined_run run next = record { id = run.id; left = run.left; right = run.right; list = run.list; content = joined_content run.content next.content }

-- a run goes on with the next: that begins where the run ends, its left origin is the run's last unit, the right origins are equal, and both
-- contents are strings, any-values, JSON units or deleted units
pub record GoesOn (run next : RunValue) : Type 0 where
  pub begins : next.id ≡ later_id run.id (len_of run.content)
  pub behind : next.left ≡ Some (later_id run.id (len_of run.content - 1))
  pub right : run.right ≡ next.right
  pub kind : are_of_one_kind run.content next.content ≡ true
