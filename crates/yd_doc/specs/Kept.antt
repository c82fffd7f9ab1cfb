-- What contracts see of a replica.
use Rattle.std.specs.Prelude.{Bool, List}
use Rattle.yd_ids.specs.declared.id.Client.{Client}
use Rattle.yd_ids.specs.declared.id.Span.{Span}
use Rattle.yd_ids.specs.Id.{IsClient}
use Rattle.yd_ops.specs.Received.{Received}
use Rattle.yd_meaning.specs.Document.{Document}
use Rattle.yd_state.specs.State.{StateValue, received_in, document_in, IsSound}

-- whose replica it is, whether it is behind, and what it keeps
pub record Kept : Type 0 where
  pub client : Client
  pub is_behind : Bool
  pub state : StateValue

-- what it received
abbrev pub received_of : Kept → Received
received_of r = received_in r.state

-- the document that it has, in its own order and with its own delete set
abbrev pub own_document : Kept → Document
own_document r = document_in r.state

-- its own delete set, as maximal spans
abbrev pub own_deletes : Kept → List Span
own_deletes r = r.state.deletes

-- it is a client's, and what it keeps is sound
pub record IsReplica (r : Kept) : Type 0 where
  pub client : IsClient r.client
  pub sound : IsSound r.state
