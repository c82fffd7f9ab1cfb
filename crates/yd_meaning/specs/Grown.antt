-- Lists that grew by integration scans, each operation after its origins and the smaller clocks of its client (own; the scan is that of Yjs 13).
use Rattle.std.specs.Prelude.{◌≡◌, true, List, []}
use Rattle.yd_words.specs.Member.{IsIn}
use Rattle.yd_ids.specs.declared.id.Id.{Id}
use Rattle.yd_ops.specs.declared.lists.List.{List as DocList}
use Rattle.yd_ops.specs.Operation.{Operation}
use Rattle.yd_origins.specs.Table.{OriginTable}
use Rattle.yd_origins.specs.Growing.{GrowsByScan}
use Rattle.yd_origins.specs.Operations.{table_of_list, IsHonest}
use Rattle.yd_ops.specs.Received.{has_operation}
use Rattle.yd_meaning.specs.Held.{standing}
use Rattle.yd_meaning.specs.Order.{operation_set, list_of}

-- the operations of one list that stand, as rows
abbrev pub table_in : List Operation → DocList → OriginTable
table_in stands list = table_of_list (operation_set stands) list

-- the ids came to stand so by the scans of one after another, from nothing
abbrev pub IsGrown : List Operation → DocList → List Id → Type 0
IsGrown stands list ids = GrowsByScan (table_in stands list) [] ids

-- each id that stands and is of the list is there
abbrev pub HasAllOfList : List Operation → DocList → List Id → Type 0
HasAllOfList stands list ids = (x : Id) → has_operation stands x ≡ true → list_of stands x ≡ list → IsIn x ids

-- what stands of held operations keeps the edit rules by itself: its pasts go over what stands. Where the held operations
-- keep the edit rules, whose pasts go over what is lost too, this is so
abbrev pub StandsHonest : List Operation → Type 0
StandsHonest held = IsHonest (operation_set (standing held))
