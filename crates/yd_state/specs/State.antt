-- What contracts see of a `State`: what was received and what is held of it, and the document that it has of its own (own).
use Rattle.std.specs.Prelude.{List, [], ◌∷◌, if◌then◌else◌}
use Rattle.yd_ids.specs.declared.id.Id.{Id}
use Rattle.yd_ids.specs.declared.id.Span.{Span}
use Rattle.yd_ids.specs.Set.{AreMaximal}
use Rattle.yd_ops.specs.declared.lists.List.{List as DocList}
use Rattle.yd_ops.specs.Operation.{Operation}
use Rattle.yd_ops.specs.Received.{Received}
use Rattle.yd_ops.specs.ReceivedLaw.{IsReceived}
use Rattle.yd_meaning.specs.Names.{same_list}
use Rattle.yd_meaning.specs.Held.{standing, is_named}
use Rattle.yd_meaning.specs.Document.{Document, operations_at, keys_among}
use Rattle.yd_meaning.specs.Own.{IsOwnDocument}
use Rattle.yd_received.specs.Received.{taken_of, held_of}
use Rattle.yd_held.specs.Held.{HeldValue, HoldsAll}

-- what was received and what is held of it, the ids that are deleted by name, the ids of each list in order, and the held
-- ids that are deleted
pub record StateValue : Type 0 where
  pub held : HeldValue
  pub named : List Span
  pub orders : List (List Id)
  pub deletes : List Span

-- what is received: operations in the order of writing, and deletions
abbrev pub received_in : StateValue → Received
received_in s = record { operations = taken_of s.held.received; deletes = s.named }

-- what is held of it
abbrev pub held_in : StateValue → List Operation
held_in s = held_of s.held.received

-- the ids of the list with a name, of lists with these names; a list that is not there has none
abbrev pub order_named : List DocList → List (List Id) → DocList → List Id
order_named [] orders list = []
order_named (name ∷ names) [] list = []
order_named (name ∷ names) (order ∷ orders) list = if same_list name list then order else order_named names orders list

-- the document that it has: the units of each list in its own order, its own delete set, and the keys of what stands
abbrev pub document_in : StateValue → Document
document_in s = record {
  units = λ list. operations_at (standing (held_in s)) (order_named s.held.names s.orders list);
  deleted = is_named s.deletes;
  keys = keys_among (standing (held_in s));
}

-- what is received is that of valid updates; all is held that can be; and the document is a replica's own of what is held
pub record IsSound (s : StateValue) : Type 0 where
  pub received : IsReceived (received_in s)
  pub holds : HoldsAll s.held
  pub named : AreMaximal s.named
  pub own : IsOwnDocument (document_in s) (held_in s) (is_named s.named)
