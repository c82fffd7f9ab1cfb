-- Rows in turn: each stands behind those that are its left and its right (own).
use Rattle.std.specs.Prelude.{ℕ, zero, suc, Bool, true, ◌&&◌, not, List, [], ◌∷◌, Option, Some, None, nat_lt, if◌then◌else◌}
use Rattle.yd_ids.specs.declared.id.Id.{Id}
use Rattle.yd_ids.specs.Ids.{is_same, has_id}
use Rattle.yd_origins.specs.Table.{OriginTable, ids_of, left_of, right_of}

-- how many ids stand in front of one in the list
abbrev pub place_in : List Id → Id → ℕ
place_in [] x = zero
place_in (y ∷ ys) x = if is_same y x then zero else suc (place_in ys x)

-- whether a neighbour is absent, or stands in front of the id
abbrev pub is_earlier : List Id → Id → Option Id → Bool
is_earlier ids x None = true
is_earlier ids x (Some y) = has_id ids y && nat_lt (place_in ids y) (place_in ids x)

-- whether no id stands there twice
abbrev pub are_distinct : List Id → Bool
are_distinct [] = true
are_distinct (x ∷ xs) = not (has_id xs x) && are_distinct xs

-- whether each id passes a test
abbrev pub all_pass : (Id → Bool) → List Id → Bool
all_pass test [] = true
all_pass test (x ∷ xs) = test x && all_pass test xs

-- whether the rows are in turn: no id stands there twice, and each row stands behind its left and its right
abbrev pub are_in_turn : OriginTable → Bool
are_in_turn table = are_distinct (ids_of table)
    && all_pass (λ x. is_earlier (ids_of table) x (left_of table x)) (ids_of table)
    && all_pass (λ x. is_earlier (ids_of table) x (right_of table x)) (ids_of table)
