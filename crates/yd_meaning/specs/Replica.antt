-- The document of a replica, as far as all that stands on a replica may rely on it (own).
use Rattle.std.specs.Prelude.{◌≡◌, ◌↔◌, true}
use Rattle.yd_words.specs.Member.{IsIn, AreDistinct}
use Rattle.yd_ids.specs.declared.id.Id.{Id}
use Rattle.yd_ops.specs.declared.lists.List.{List as DocList}
use Rattle.yd_ops.specs.declared.lists.Parent.{Parent}
use Rattle.yd_ops.specs.Operation.{Operation}
use Rattle.yd_ops.specs.Received.{Received, has_operation}
use Rattle.yd_meaning.specs.Held.{held_set, standing, is_named}
use Rattle.yd_meaning.specs.Order.{list_of, AreHonest}
use Rattle.yd_meaning.specs.Document.{Document, document_of, keys_among}
use Rattle.yd_meaning.specs.Deletions.{AreClosedDeletions, AreLeastDeletions}
use Rattle.yd_meaning.specs.Own.{ids_in}

-- a replica that received this may have the document. For every set each list has each unit that stands in it, once and no
-- other, as it is held; it deletes what must be deleted by its own order, and nothing else; and it has the keys of what
-- stands. Where the edit rules are kept, it is the defined one
pub record IsReplicaDocument (document : Document) (r : Received) : Type 0 where
  pub each : (list : DocList) (x : Id) → IsIn x (ids_in document list)
      ↔ (has_operation (standing (held_set r.operations)) x ≡ true) × (list_of (standing (held_set r.operations)) x ≡ list)
  pub once : (list : DocList) → AreDistinct (ids_in document list)
  pub as_held : (list : DocList) (o : Operation) → IsIn o (document.units list) → IsIn o (standing (held_set r.operations))
  pub closed : AreClosedDeletions (ids_in document) (held_set r.operations) (is_named r.deletes) document.deleted
  pub least : AreLeastDeletions (ids_in document) (held_set r.operations) (is_named r.deletes) document.deleted
  pub keys : (parent : Parent) → document.keys parent ≡ keys_among (standing (held_set r.operations)) parent
  pub defined : AreHonest (held_set r.operations) → document ≡ document_of r
