-- The laws of a state whose lists grow, as statements (own).
use Rattle.std.specs.Prelude.{◌≡◌}
use Rattle.yd_ops.specs.declared.lists.List.{List as DocList}
use Rattle.yd_meaning.specs.Held.{standing}
use Rattle.yd_meaning.specs.Order.{order_of, AreHonest}
use Rattle.yd_meaning.specs.Deleted.{AreDeleteSet}
use Rattle.yd_meaning.specs.Document.{document_of}
use Rattle.yd_meaning.specs.Own.{ids_in}
use Rattle.yd_meaning.specs.Replica.{IsReplicaDocument}
use Rattle.yd_state.specs.State.{StateValue, received_in, held_in, document_in, IsSound}

-- the document of a sound state is one that a replica may have
abbrev pub DocumentIsOwn : Type 0
DocumentIsOwn = (s : StateValue) → IsSound s → IsReplicaDocument (document_in s) (received_in s)

-- the document of a state is the one that the received operations and deletions define: each list is in the order that its
-- origins give, and what is deleted is the delete set
pub record IsDefined (s : StateValue) : Type 0 where
  pub document : document_in s ≡ document_of (received_in s)
  pub order : (list : DocList) → ids_in (document_in s) list ≡ order_of (standing (held_in s)) list
  pub deletes : AreDeleteSet s.deletes (received_in s)

-- so it is where what is held keeps the edit rules
abbrev pub DocumentIsDefined : Type 0
DocumentIsDefined = (s : StateValue) → IsSound s → AreHonest (held_in s) → IsDefined s
