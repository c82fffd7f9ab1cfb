-- The document that a replica has of its own, for every set of held operations: its lists grew by integration scans, and it deletes by their order (own).
use Rattle.std.specs.Prelude.{◌≡◌, ◌↔◌, Bool, true, List, map}
use Rattle.yd_words.specs.Member.{IsIn, AreDistinct}
use Rattle.yd_ids.specs.declared.id.Id.{Id}
use Rattle.yd_ops.specs.declared.lists.List.{List as DocList}
use Rattle.yd_ops.specs.declared.lists.Parent.{Parent}
use Rattle.yd_ops.specs.Operation.{Operation}
use Rattle.yd_ops.specs.Received.{has_operation}
use Rattle.yd_meaning.specs.Held.{standing}
use Rattle.yd_meaning.specs.Order.{list_of}
use Rattle.yd_meaning.specs.Document.{Document, keys_among}
use Rattle.yd_meaning.specs.Grown.{IsGrown}
use Rattle.yd_meaning.specs.Deletions.{AreClosedDeletions, AreLeastDeletions}

-- the ids of a document's list, in its order
abbrev pub ids_in : Document → DocList → List Id
ids_in document list = map (λ (o : Operation). o.id) (document.units list)

-- each list of a document has each operation that stands and is of it, once and no other, as it is held; and it grew by
-- scans, from nothing
pub record HasGrownLists (document : Document) (held : List Operation) : Type 0 where
  pub each : (list : DocList) (x : Id) → IsIn x (ids_in document list) ↔ (has_operation (standing held) x ≡ true) × (list_of (standing held) x ≡ list)
  pub once : (list : DocList) → AreDistinct (ids_in document list)
  pub as_held : (list : DocList) (o : Operation) → IsIn o (document.units list) → IsIn o (standing held)
  pub grown : (list : DocList) → IsGrown (standing held) list (ids_in document list)

-- a document is a replica's own of held operations, where deletions name some ids: its lists grew by scans; it deletes what
-- must be deleted by their order, and nothing else; and it has the keys of what stands
pub record IsOwnDocument (document : Document) (held : List Operation) (named : Id → Bool) : Type 0 where
  pub lists : HasGrownLists document held
  pub closed : AreClosedDeletions (ids_in document) held named document.deleted
  pub least : AreLeastDeletions (ids_in document) held named document.deleted
  pub keys : (parent : Parent) → document.keys parent ≡ keys_among (standing held) parent
