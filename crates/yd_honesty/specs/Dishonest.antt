-- The smallest id that breaks the edit rules, as a test (own; the rules themselves stand in `yd_meaning`).
use Rattle.std.specs.Prelude.{◌≡◌, ℕ, zero, suc, Bool, true, false, ◌&&◌, ◌||◌, not, List, [], ◌∷◌, Option, Some, None, map, filter, length, if◌then◌else◌}
use Rattle.yd_words.specs.Member.{IsIn}
use Rattle.yd_ids.specs.Ids.{is_same}
use Rattle.yd_ids.specs.declared.id.Id.{Id}
use Rattle.yd_ops.specs.Operation.{Operation}
use Rattle.yd_ops.specs.declared.lists.List.{List as DocList}
use Rattle.yd_origins.specs.Before.{is_before}
use Rattle.yd_origins.specs.Operations.{table_of_all}
use Rattle.yd_meaning.specs.Names.{same_list}
use Rattle.yd_meaning.specs.Held.{needs, standing}
use Rattle.yd_meaning.specs.Order.{operation_set, list_of, MeetsRules}
use Rattle.yd_grouping.specs.Disagreement.{some_passes, smallest_of}

-- ---- what breaks the edit rules

-- an operation that stands has the id, and does not meet the edit rules
pub record BreaksRules (held : List Operation) (x : Id) : Type 0 where
  pub one : Operation
  pub there : IsIn one (standing held)
  pub id : one.id ≡ x
  pub broken : MeetsRules held one → ⊥

-- ---- the past

-- what the operation with the id needs
abbrev pub needs_at : List Operation → Id → List Id
needs_at [] x = []
needs_at (o ∷ os) x = if is_same o.id x then needs o else needs_at os x

-- whether an id is of the past of another, over at most so many needs
abbrev pub is_past_within : List Operation → ℕ → Id → Id → Bool
is_past_within held zero x y = false
is_past_within held (suc n) x y = some_passes (λ z. is_same z y || is_past_within held n z y) (needs_at held x)

-- whether it is; as many needs as there are operations are never too few
abbrev pub is_past : List Operation → Id → Id → Bool
is_past held = is_past_within held (length held)

-- ---- the edit rules, as tests

-- whether there is nothing, or it passes the test
abbrev pub is_none_or : {X : Type 0} → (X → Bool) → Option X → Bool
is_none_or test None = true
is_none_or test (Some x) = test x

-- whether both origins are of one list, where both are there
abbrev pub are_of_one : (Id → DocList) → Option Id → Option Id → Bool
are_of_one list None right = true
are_of_one list (Some p) right = is_none_or (λ r. same_list (list p) (list r)) right

-- whether the left origin is before the right one, where both are there
abbrev pub is_left_first : (Id → Id → Bool) → Option Id → Option Id → Bool
is_left_first before None right = true
is_left_first before (Some p) right = is_none_or (λ r. not (is_same p r) && before p r) right

-- whether an id is strictly between the two
abbrev pub is_between : (Id → Id → Bool) → Option Id → Option Id → Id → Bool
is_between before left right x = is_none_or (λ p. not (is_same p x) && before p x) left && is_none_or (λ r. not (is_same x r) && before x r) right

-- whether one operation is before another, by the origins of all that stand
abbrev pub is_before_in : List Operation → Id → Id → Bool
is_before_in held = is_before (table_of_all (operation_set (standing held)))

-- whether an operation parts the neighbours of another: it is of the other's past and list, and strictly between its origins
abbrev pub parts_neighbours : List Operation → Operation → Operation → Bool
parts_neighbours held o p =
    is_past held o.id p.id && same_list (list_of (standing held) p.id) (list_of (standing held) o.id)
    && is_between (is_before_in held) o.left_origin o.right_origin p.id

-- whether an operation meets the edit rules
abbrev pub meets_rules : List Operation → Operation → Bool
meets_rules held o =
    are_of_one (list_of (standing held)) o.left_origin o.right_origin
    && is_left_first (is_before_in held) o.left_origin o.right_origin
    && not (some_passes (parts_neighbours held o) (standing held))

-- the smallest id that breaks the edit rules, if one does
abbrev pub dishonest_of : List Operation → Option Id
dishonest_of held = smallest_of (map (λ (o : Operation). o.id) (filter (λ o. not (meets_rules held o)) (standing held)))
