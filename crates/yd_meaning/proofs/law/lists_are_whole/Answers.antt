use Rattle.std.proofs.Common.{◌≡◌, List, map, ap, ◌∙◌}
use Rattle.yd_words.specs.Member.{IsIn}
use Rattle.yd_ops.specs.declared.lists.List.{List as DocList}
use Rattle.yd_ops.specs.Operation.{Operation}
use Rattle.yd_origins.specs.Table.{IsTable}
use Rattle.yd_ops.specs.Received.{IsWritten}
use Rattle.yd_meaning.specs.Names.{item_of_list}
use Rattle.yd_meaning.specs.Held.{held_set, standing}
use Rattle.yd_meaning.specs.Order.{rows_of, order_of}
use Rattle.yd_meaning.specs.Document.{operations_at}
use Rattle.yd_meaning.specs.Law.{HasWholeLists}
use Rattle.yd_meaning.proofs.HeldListLemmas.{in_order_of}
use Rattle.yd_meaning.proofs.NestingLemmas.{standing_item}
use Rattle.yd_meaning.proofs.VectorLemmas.{held_written}
use Rattle.yd_meaning.proofs.StandingTableLemmas.{standing_table}
use Rattle.yd_meaning.proofs.DocumentLemmas.{order_distinct, operations_held}
use Rattle.yd_meaning.proofs.law.lists_are_whole.Goals as goal

pub returns : goal.returns
returns c = whole
  where
    whole : (received : List Operation) → IsWritten received → HasWholeLists (held_set received)
    whole received written = record {
      each = in_order_of held table;
      once = order_distinct held table;
      units = λ named list. (shown list).0;
      as_held = λ named list. (shown list).1;
      items = λ list x y i e. let (has, is) = (in_order_of held table list x).0 i in
          standing_item (held_set received) (held_written received written) x y has (ap item_of_list is ∙ e);
    }
      where
        held : List Operation
        held = standing (held_set received)

        table : IsTable (rows_of held)
        table = standing_table (held_set received) (held_written received written)

        shown : (list : DocList) → (map (λ (o : Operation). o.id) (operations_at held (order_of held list)) ≡ order_of held list)
            × ((o : Operation) → IsIn o (operations_at held (order_of held list)) → IsIn o held)
        shown list = operations_held held table.distinct (order_of held list) (λ x i. ((in_order_of held table list x).0 i).0)
