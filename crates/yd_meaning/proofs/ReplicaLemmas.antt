-- A replica's document: the defined one is one, an own one is one, and where the edit rules are kept there is no other.
use Rattle.std.proofs.Common.{◌≡◌, true, refl, sym, ◌∙◌}
use Rattle.yd_ids.specs.declared.id.Id.{Id}
use Rattle.yd_ops.specs.Received.{Received, has_operation, IsWritten}
use Rattle.yd_meaning.specs.Held.{held_set, is_named}
use Rattle.yd_meaning.specs.Order.{AreHonest}
use Rattle.yd_meaning.specs.Document.{Document, document_of}
use Rattle.yd_meaning.proofs.VectorLemmas.{held_written}
use Rattle.yd_meaning.specs.Own.{IsOwnDocument}
use Rattle.yd_meaning.specs.Deletions.{for_name}
use Rattle.yd_meaning.specs.Replica.{IsReplicaDocument}
use Rattle.yd_meaning.proofs.DefinedLemmas.{defined_each, defined_once, defined_as_held, defined_closed, defined_least}
use Rattle.yd_meaning.proofs.GrownDocumentLemmas.{own_is_defined}

-- ---- lemmas for callers

module _ (r : Received) (written : IsWritten r.operations) where
  -- the defined document is a replica's, for every set
  pub defined_is : IsReplicaDocument (document_of r) r
  defined_is = record {
    each = defined_each (held_set r.operations) (held_written r.operations written) (is_named r.deletes);
    once = defined_once (held_set r.operations) (held_written r.operations written) (is_named r.deletes);
    as_held = defined_as_held (held_set r.operations) (held_written r.operations written) (is_named r.deletes);
    closed = defined_closed (held_set r.operations) (held_written r.operations written) (is_named r.deletes);
    least = defined_least (held_set r.operations) (held_written r.operations written) (is_named r.deletes);
    keys = λ parent. refl;
    defined = λ honest. refl;
  }

  -- so is a document whose lists grew by scans
  pub own_is : (document : Document) → IsOwnDocument document (held_set r.operations) (is_named r.deletes) → IsReplicaDocument document r
  own_is document own = record {
    each = own.lists.each;
    once = own.lists.once;
    as_held = own.lists.as_held;
    closed = own.closed;
    least = own.least;
    keys = own.keys;
    defined = λ honest. own_is_defined r.operations written honest document (is_named r.deletes) own;
  }

-- where the edit rules are kept, two replicas that received the same have one document
pub documents_are_one : (r : Received) → AreHonest (held_set r.operations) → (document other : Document) →
    IsReplicaDocument document r → IsReplicaDocument other r → document ≡ other
documents_are_one r honest document other one another = one.defined honest ∙ sym (another.defined honest)

-- held ids that are named are deleted, and no id is that is not held
pub named_are_deleted : (r : Received) (document : Document) → IsReplicaDocument document r → (x : Id) → has_operation (held_set r.operations) x ≡ true →
    is_named r.deletes x ≡ true → document.deleted x ≡ true
named_are_deleted r document is x there by = is.closed.all x (for_name there by)

pub deleted_are_held : (r : Received) (document : Document) → IsReplicaDocument document r → (x : Id) → document.deleted x ≡ true →
    has_operation (held_set r.operations) x ≡ true
deleted_are_held r document is x = is.closed.only_held x
