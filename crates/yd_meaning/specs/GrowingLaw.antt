-- The laws of grown documents, as statements.
use Rattle.std.specs.Prelude.{◌≡◌, ◌&&◌, Bool, true, List, [], filter}
use Rattle.yd_words.specs.Member.{AreDistinct}
use Rattle.yd_ids.specs.declared.id.Id.{Id}
use Rattle.yd_ops.specs.declared.lists.List.{List as DocList}
use Rattle.yd_ops.specs.Operation.{Operation}
use Rattle.yd_ops.specs.Valid.{IsValidUpdate}
use Rattle.yd_ops.specs.Value.{UpdateValue}
use Rattle.yd_origins.specs.Table.{OriginTable}
use Rattle.yd_origins.specs.Growing.{GrowsByScan, IsClosed}
use Rattle.yd_ops.specs.Received.{has_operation, IsWritten, Received, received_after}
use Rattle.yd_ops.specs.ReceivedLaw.{IsReceived}
use Rattle.yd_meaning.specs.Held.{held_set, standing, is_named}
use Rattle.yd_meaning.specs.Order.{order_of, AreHonest}
use Rattle.yd_meaning.specs.Deleted.{is_deleted}
use Rattle.yd_meaning.specs.Document.{Document, document_with, document_of}
use Rattle.yd_meaning.specs.Law.{IsPartOf}
use Rattle.yd_meaning.specs.Grown.{table_in, IsGrown, HasAllOfList, StandsHonest}
use Rattle.yd_meaning.specs.Staying.{StaysHeld}
use Rattle.yd_meaning.specs.Deletions.{AreClosedDeletions, AreLeastDeletions, DeletesBesides}
use Rattle.yd_meaning.specs.Own.{IsOwnDocument}
use Rattle.yd_meaning.specs.Replica.{IsReplicaDocument}

-- ---- lists

-- where what stands keeps the edit rules, a list that grew by scans and is whole is the origin order; and so it is where the
-- held operations keep them
pub record GrownIsOrder : Type 0 where
  pub order : (held : List Operation) → IsWritten held → StandsHonest held → (list : DocList) (ids : List Id) →
      IsGrown (standing held) list ids → HasAllOfList (standing held) list ids → ids ≡ order_of (standing held) list
  pub honest : (received : List Operation) → IsWritten received → AreHonest (held_set received) → StandsHonest (held_set received)

-- what grew and then grew further has grown by the scans of both, in every table; and what grew has its rows alone, each
-- once, and of each its left, its right and the smaller clocks of its client
pub record GrowthGoesOn : Type 0 where
  pub further : (table : OriginTable) (old mid new : List Id) → GrowsByScan table old mid → GrowsByScan table mid new → GrowsByScan table old new
  pub closed : (table : OriginTable) (ids : List Id) → GrowsByScan table [] ids → IsClosed table ids
  pub once : (table : OriginTable) (ids : List Id) → GrowsByScan table [] ids → AreDistinct ids

-- every list can grow, whatever is held: what stands of it comes in some arrangement, and then it is whole
abbrev pub ListsCanGrow : Type 0
ListsCanGrow = (received : List Operation) → IsWritten received → (list : DocList) →
    (ids : List Id) × IsGrown (standing (held_set received)) list ids × HasAllOfList (standing (held_set received)) list ids

-- a list that grew in a part grew so in the whole, whatever more is held; so it is grown again, once it grew on by scans of
-- what came
pub record StaysGrown (part held : List Operation) : Type 0 where
  pub same : (list : DocList) (ids : List Id) → IsGrown (standing part) list ids → IsGrown (standing held) list ids
  pub further : (list : DocList) (old new : List Id) → IsGrown (standing part) list old → GrowsByScan (table_in (standing held) list) old new →
      IsGrown (standing held) list new

-- so it is with a part that stays held
abbrev pub GrownStays : Type 0
GrownStays = (part held : List Operation) → IsWritten held → StaysHeld part held → StaysGrown part held

-- ---- what stays held

-- a closed part of what is held stays held; and so does all that was held before an update, where nothing that stood is lost
pub record HeldStays : Type 0 where
  pub parts : (received : List Operation) → IsWritten received → (part : List Operation) → IsPartOf part (held_set received) → StaysHeld part (held_set received)
  pub received : (r : Received) (update : UpdateValue) → IsReceived r → IsValidUpdate update →
      ((x : Id) → has_operation (standing (held_set r.operations)) x ≡ true → has_operation (standing (held_set (received_after r update).operations)) x ≡ true) →
      StaysHeld (held_set r.operations) (held_set (received_after r update).operations)

-- ---- deletions

-- where the lists are in the origin order, what must be deleted and nothing else is what the definitions delete
abbrev pub LeastIsDeleted : Type 0
LeastIsDeleted = (held : List Operation) → IsWritten held → (lists : DocList → List Id) (named deleted : Id → Bool) →
    ((list : DocList) → lists list ≡ order_of (standing held) list) → AreClosedDeletions lists held named deleted → AreLeastDeletions lists held named deleted →
    (x : Id) → deleted x ≡ (has_operation held x && is_deleted held named x)

-- what was closed in a part is closed in the whole, once what must be deleted besides is so
abbrev pub ClosedGoesOn : Type 0
ClosedGoesOn = (old_lists lists : DocList → List Id) (part held : List Operation) (named more deleted now : Id → Bool) →
    AreClosedDeletions old_lists part named deleted → DeletesBesides old_lists lists part held named more deleted now → AreClosedDeletions lists held more now

-- what need be deleted in a part that stays held need be so in the whole, where each list has what it had in its order, and no
-- fewer ids are named
abbrev pub LeastStays : Type 0
LeastStays = (part held : List Operation) → StaysHeld part held → (old_lists lists : DocList → List Id) →
    ((list : DocList) → old_lists list ≡ filter (has_operation part) (lists list)) → (named more deleted : Id → Bool) →
    ((x : Id) → named x ≡ true → more x ≡ true) → AreLeastDeletions old_lists part named deleted →
    (other : Id → Bool) → AreClosedDeletions lists held more other → (x : Id) → deleted x ≡ true → other x ≡ true

-- ---- documents

-- where the edit rules are kept, a replica's own document is the one that the held operations define, and that is one
pub record OwnIsDefined : Type 0 where
  pub defined : (received : List Operation) → IsWritten received → AreHonest (held_set received) → (document : Document) (named : Id → Bool) →
      IsOwnDocument document (held_set received) named → document ≡ document_with (held_set received) named
  pub own : (received : List Operation) → IsWritten received → AreHonest (held_set received) → (named : Id → Bool) →
      IsOwnDocument (document_with (held_set received) named) (held_set received) named

-- for every set the defined document is a replica's, and so is each whose lists grew by scans; where the edit rules are kept,
-- there is no other than the defined one
pub record ReplicasAreDefined : Type 0 where
  pub defined : (r : Received) → IsWritten r.operations → IsReplicaDocument (document_of r) r
  pub own : (r : Received) → IsWritten r.operations → (document : Document) →
      IsOwnDocument document (held_set r.operations) (is_named r.deletes) → IsReplicaDocument document r
  pub one : (r : Received) → AreHonest (held_set r.operations) → (document other : Document) →
      IsReplicaDocument document r → IsReplicaDocument other r → document ≡ other
