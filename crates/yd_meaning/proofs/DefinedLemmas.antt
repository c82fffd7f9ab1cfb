-- The defined document, for every set: its lists are whole, and it deletes what must be deleted by their order.
use Rattle.std.proofs.Common.{◌≡◌, Bool, true, ◌↔◌, List, sym, subst}
use Rattle.yd_words.specs.Member.{IsIn, AreDistinct}
use Rattle.yd_words.proofs.TestLemmas.{both_hold}
use Rattle.yd_ids.specs.declared.id.Id.{Id}
use Rattle.yd_ops.specs.declared.lists.List.{List as DocList}
use Rattle.yd_ops.specs.Operation.{Operation}
use Rattle.yd_origins.specs.Table.{IsTable}
use Rattle.yd_ops.specs.Received.{has_operation, IsWritten}
use Rattle.yd_meaning.specs.Held.{standing}
use Rattle.yd_meaning.specs.Order.{rows_of, order_of, list_of}
use Rattle.yd_meaning.specs.Deleted.{is_deleted}
use Rattle.yd_meaning.specs.Document.{document_with}
use Rattle.yd_meaning.proofs.DocumentLemmas.{order_distinct, operations_held}
use Rattle.yd_meaning.proofs.HeldListLemmas.{in_order_of}
use Rattle.yd_meaning.proofs.StandingTableLemmas.{standing_table}
use Rattle.yd_meaning.specs.Own.{ids_in}
use Rattle.yd_meaning.specs.Deletions.{AreClosedDeletions, AreLeastDeletions}
use Rattle.yd_meaning.proofs.DeletionLemmas.{definition_closed, definition_least}

module _ (held : List Operation) (written : IsWritten held) (named : Id → Bool) where
  table : IsTable (rows_of (standing held))
  table = standing_table held written

  -- ---- lemmas for callers

  -- its lists are in the origin order
  pub ids_are : (list : DocList) → ids_in (document_with held named) list ≡ order_of (standing held) list
  ids_are list = (operations_held (standing held) table.distinct (order_of (standing held) list) (λ x i. ((in_order_of (standing held) table list x).0 i).0)).0

  -- each list has each operation that stands in it, once and no other, as it is held
  pub defined_each : (list : DocList) (x : Id) → IsIn x (ids_in (document_with held named) list) ↔ (has_operation (standing held) x ≡ true) × (list_of (standing held) x ≡ list)
  defined_each list = subst (λ ids. (x : Id) → IsIn x ids ↔ (has_operation (standing held) x ≡ true) × (list_of (standing held) x ≡ list)) (sym (ids_are list))
      (in_order_of (standing held) table list)

  pub defined_once : (list : DocList) → AreDistinct (ids_in (document_with held named) list)
  defined_once list = subst AreDistinct (sym (ids_are list)) (order_distinct (standing held) table list)

  pub defined_as_held : (list : DocList) (o : Operation) → IsIn o ((document_with held named).units list) → IsIn o (standing held)
  defined_as_held list = (operations_held (standing held) table.distinct (order_of (standing held) list) (λ x i. ((in_order_of (standing held) table list x).0 i).0)).1

  -- what it deletes is held, and deleted by definition
  pub deleted_both : (x : Id) → (document_with held named).deleted x ≡ true → (has_operation held x ≡ true) × (is_deleted held named x ≡ true)
  deleted_both x e = both_hold (has_operation held x) (is_deleted held named x) e

  -- all is deleted that must be, and nothing else
  pub defined_closed : AreClosedDeletions (ids_in (document_with held named)) held named (document_with held named).deleted
  defined_closed = definition_closed held written named (ids_in (document_with held named)) ids_are

  pub defined_least : AreLeastDeletions (ids_in (document_with held named)) held named (document_with held named).deleted
  defined_least = definition_least held written named (ids_in (document_with held named)) ids_are
