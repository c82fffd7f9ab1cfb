-- Where what stands keeps the edit rules, a whole list that grew by scans is the origin order.
use Rattle.std.proofs.Common.{◌≡◌, List, []}
use Rattle.yd_ids.specs.declared.id.Id.{Id}
use Rattle.yd_ops.specs.declared.lists.List.{List as DocList}
use Rattle.yd_ops.specs.Operation.{Operation}
use Rattle.yd_origins.specs.Table.{IsTable}
use Rattle.yd_origins.proofs.GrowingLemmas.{growth_gives_order}
use Rattle.yd_origins.proofs.HonestLemmas.{own_fits}
use Rattle.yd_origins.proofs.ListTableLemmas.{own_is_table, own_member, own_list}
use Rattle.yd_ops.specs.Received.{IsWritten}
use Rattle.yd_meaning.specs.Held.{standing}
use Rattle.yd_meaning.specs.Order.{rows_of, operation_set, order_of}
use Rattle.yd_meaning.proofs.RowLemmas.{row_has}
use Rattle.yd_meaning.proofs.StandingTableLemmas.{standing_table}
use Rattle.yd_meaning.specs.Grown.{table_in, IsGrown, HasAllOfList, StandsHonest}
use Rattle.yd_meaning.proofs.GrowthLemmas.{nothing_closed}

pub grown_is_order : (held : List Operation) → IsWritten held → StandsHonest held → (list : DocList) (ids : List Id) →
    IsGrown (standing held) list ids → HasAllOfList (standing held) list ids → ids ≡ order_of (standing held) list
grown_is_order held w honest list ids grown whole =
    let set = operation_set (standing held) in
    let table : IsTable (rows_of (standing held)) = standing_table held w in
    growth_gives_order (table_in (standing held) list) (own_is_table set table list) (own_fits set table honest list) [] ids
    (nothing_closed (table_in (standing held) list)) tt grown
    (λ x i. whole x (row_has (standing held) x (own_member set table list x i)) (own_list set table list x i))
