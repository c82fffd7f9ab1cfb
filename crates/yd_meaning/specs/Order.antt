-- The lists of held operations: which operation is in which, and the order that the origins give (own; the definitions of the order stand in `yd_origins`).
use Rattle.std.specs.Prelude.{◌≡◌, true, List, [], ◌∷◌, Option, Some, None, if◌then◌else◌}
use Rattle.yd_words.specs.Member.{IsIn}
use Rattle.yd_ids.specs.declared.id.Id.{Id}
use Rattle.yd_ids.specs.Ids.{is_same}
use Rattle.yd_ops.specs.declared.lists.List.{List as DocList}
use Rattle.yd_ops.specs.declared.lists.Parent.TheVariants.{Root}
use Rattle.yd_ops.specs.Operation.{Operation}
use Rattle.yd_origins.specs.Before.{is_before, IsLeftFirst, IsBetween}
use Rattle.yd_origins.specs.Table.{Row, OriginTable}
use Rattle.yd_origins.specs.Sorted.{origin_order}
use Rattle.yd_origins.specs.Operations.{OperationSet, list_of_operation, table_of_all, table_of_list}
use Rattle.yd_ops.specs.Received.{has_operation}
use Rattle.yd_meaning.specs.ListNames.{list_names}
use Rattle.yd_meaning.specs.Held.{needs, standing}

-- an operation as a row of the table of origins
abbrev pub row_of : Operation → Row
row_of o = record { id = o.id; left = o.left_origin; right = o.right_origin }

-- operations as rows
abbrev pub rows_of : List Operation → OriginTable
rows_of [] = []
rows_of (o ∷ os) = row_of o ∷ rows_of os

-- the list that an operation carries; for one without a list this is never asked, and the root without a name stands there
abbrev pub list_or_root : Option DocList → DocList
list_or_root None = record { parent = Root []; key = None }
list_or_root (Some list) = list

-- the list that the operation with the id carries
abbrev pub list_carried : List Operation → Id → DocList
list_carried [] x = list_or_root None
list_carried (o ∷ os) x = if is_same o.id x then list_or_root o.list else list_carried os x

-- operations as the laws of the order see them
abbrev pub operation_set : List Operation → OperationSet list_names
operation_set os = record { origins = rows_of os; carried = list_carried os }

-- the list of an operation: that of its left origin, else of its right origin, else the one that it carries
abbrev pub list_of : List Operation → Id → DocList
list_of held x = list_of_operation (operation_set held) x

-- the ids of a list, in the order that the origins give
abbrev pub order_of : List Operation → DocList → List Id
order_of held list = origin_order (table_of_list (operation_set held) list)

-- ---- the edit rules

-- the past of an operation: what it needs, and the past of each of these; this goes over lost operations too
pub data IsPast (held : List Operation) : Id → Id → Type 0 where
  of_need : {x y : Id} → (o : Operation) → IsIn o held → o.id ≡ x → IsIn y (needs o) → IsPast held x y
  of_past : {x y z : Id} → IsPast held x y → IsPast held y z → IsPast held x z

-- an operation's origins are of one list, the left one is before the right one, and nothing that stands in its list and is of
-- its past is strictly between them
pub record MeetsRules (held : List Operation) (o : Operation) : Type 0 where
  pub one_list : (p r : Id) → o.left_origin ≡ Some p → o.right_origin ≡ Some r → list_of (standing held) p ≡ list_of (standing held) r
  pub left_first : IsLeftFirst (is_before (table_of_all (operation_set (standing held)))) o.left_origin o.right_origin
  pub past_outside : (y : Id) → has_operation (standing held) y ≡ true → IsPast held o.id y → list_of (standing held) y ≡ list_of (standing held) o.id →
      IsBetween (is_before (table_of_all (operation_set (standing held)))) o.left_origin o.right_origin y → ⊥

-- the operations that stand keep the edit rules: each was put between two neighbours that its maker saw
abbrev pub AreHonest : List Operation → Type 0
AreHonest held = (o : Operation) → IsIn o (standing held) → MeetsRules held o
