-- What a `State` keeps: what was received and is held, and a store with just what is held, which tells its document (own).
use Rattle.std.specs.Prelude.{◌↔◌, ◌≤◌, ℕ, suc, List, [], ◌∷◌, map, if◌then◌else◌}
use Rattle.yd_ids.specs.declared.id.Client.{Client}
use Rattle.yd_ids.specs.declared.id.Id.{Id}
use Rattle.yd_ids.specs.declared.id.Span.{Span}
use Rattle.yd_ids.specs.Set.{HasId}
use Rattle.yd_ids.specs.Vector.{clock_of}
use Rattle.yd_ops.specs.declared.lists.List.{List as DocList}
use Rattle.yd_ops.specs.Operation.{Operation}
use Rattle.yd_store.specs.Store.{Stored}
use Rattle.yd_store.specs.Units.{operations_in, HasMarked}
use Rattle.yd_ops.specs.Received.{Received}
use Rattle.yd_ops.specs.ReceivedLaw.{IsReceived}
use Rattle.yd_meaning.specs.Names.{same_list}
use Rattle.yd_meaning.specs.Held.{standing, is_named}
use Rattle.yd_meaning.specs.Document.{Document, keys_among}
use Rattle.yd_meaning.specs.Deletions.{AreClosedDeletions, AreLeastDeletions}
use Rattle.yd_kept.specs.Telling.{IsSoundStore}
use Rattle.yd_kept.specs.Kept.{KeptValue}
use Rattle.yd_received.specs.Received.{taken_of, held_of}
use Rattle.yd_held.specs.Held.{HeldValue, HoldsAll}
use Rattle.yd_state.specs.Placing.{KeepsAll}
use Rattle.yd_state.specs.State.{StateValue}

-- what was received and what is held of it, the ids that are deleted by name, those of them that are not held, the store
-- with what is held, and the held ids that are deleted
pub record GrownValue : Type 0 where
  pub held : HeldValue
  pub named : List Span
  pub waiting : List Span
  pub kept : KeptValue
  pub deletes : List Span

-- what is received: operations in the order of writing, and deletions
abbrev pub received_by : GrownValue → Received
received_by s = record { operations = taken_of s.held.received; deletes = s.named }

-- what is held of it
abbrev pub held_by : GrownValue → List Operation
held_by s = held_of s.held.received

-- ---- its document

-- the operations of the list with a name, of lists with these names from a number on; none where no list has the name
abbrev pub units_named : Stored → ℕ → List DocList → DocList → List Operation
units_named it n [] list = []
units_named it n (name ∷ names) list = if same_list name list then operations_in it n else units_named it (suc n) names list

-- the operations of the list with a name
abbrev pub units_of : KeptValue → DocList → List Operation
units_of it list = units_named it.store 0 it.names list

-- their ids
abbrev pub ids_of : KeptValue → DocList → List Id
ids_of it list = map (λ (o : Operation). o.id) (units_of it list)

-- the document that the store tells: the operations of each list in its own order, the own delete set, and the keys of what
-- stands; a list without units is not told from one that is not there
abbrev pub document_by : GrownValue → Document
document_by s = record {
  units = units_of s.kept;
  deleted = is_named s.deletes;
  keys = keys_among (standing (held_by s));
}

-- how contracts see it: the ids of each list in place of the store, whose room and cuts are not told
abbrev pub seen_of : GrownValue → StateValue
seen_of s = record { held = s.held; named = s.named; orders = map (ids_of s.kept) s.held.names; deletes = s.deletes }

-- ---- what is sound

-- the named ids that are not held
abbrev pub AreWaiting : List (Client × ℕ) → List Span → List Span → Type 0
AreWaiting vector named waiting = (x : Id) → HasId waiting x ↔ (HasId named x × (clock_of vector x.client.0 ≤ x.clock))

-- by the order of a store's lists all is deleted that must be, and nothing else
pub record AreOwnDeletions (it : KeptValue) (held : List Operation) (named deletes : List Span) : Type 0 where
  pub closed : AreClosedDeletions (ids_of it) held (is_named named) (is_named deletes)
  pub least : AreLeastDeletions (ids_of it) held (is_named named) (is_named deletes)

-- the units of a store that are marked are those with these ids
abbrev pub AreMarked : Stored → List Span → Type 0
AreMarked it deletes = (x : Id) → HasMarked it x ↔ HasId deletes x

-- what is received is that of valid updates; all is held that can be; the store has just what is held, in lists that grew by
-- scans; and what is deleted is so by their order, and is marked
pub record IsWhole (s : GrownValue) : Type 0 where
  pub received : IsReceived (received_by s)
  pub holds : HoldsAll s.held
  pub waits : AreWaiting s.held.vector s.named s.waiting
  pub keeps : KeepsAll (held_by s) s.kept
  pub store : IsSoundStore s.kept.store
  pub own : AreOwnDeletions s.kept (held_by s) s.named s.deletes
  pub marks : AreMarked s.kept.store s.deletes
