-- The laws of what updates mean, as statements.
use Rattle.std.specs.Prelude.{◌≡◌, ◌<◌, ◌≤◌, ◌↔◌, ℕ, Bool, suc, true, false, ◌||◌, List, Some, None, IfSome, map}
use Rattle.yd_words.specs.Each.{Each}
use Rattle.yd_words.specs.Member.{IsIn, AreDistinct}
use Rattle.yd_words.specs.Test.{is_some_and}
use Rattle.yd_ids.specs.declared.id.Client.{Client}
use Rattle.yd_ids.specs.declared.id.Id.{Id}
use Rattle.yd_ids.specs.Set.{HasId}
use Rattle.yd_ops.specs.declared.lists.List.{List as DocList}
use Rattle.yd_ops.specs.Operation.{Operation, level_of, operations_of}
use Rattle.yd_ops.specs.Valid.{IsValidUpdate}
use Rattle.yd_ops.specs.Value.{UpdateValue}
use Rattle.yd_origins.specs.Parts.{first_of, behind}
use Rattle.yd_origins.specs.Table.{left_of, right_of, IsTable}
use Rattle.yd_origins.specs.Before.{is_before, IsInOrder, Fits}
use Rattle.yd_origins.specs.Law.{IsStrict}
use Rattle.yd_origins.specs.Growing.{GrowsByScan, IsClosed}
use Rattle.yd_origins.specs.Deleted.{IsDeleted}
use Rattle.yd_origins.specs.Operations.{list_by_origins, table_of_all, table_of_list, IsHonest}
use Rattle.yd_ops.specs.Received.{has_operation, IsWritten, taken_in, Received, received_after, received_set}
use Rattle.yd_ops.specs.Deletes.{deletes_of}
use Rattle.yd_ops.specs.Agreement.{operations_of_all, AreAlike, Agree, HaveSameContents, SayTheSame}
use Rattle.yd_ops.specs.ReceivedLaw.{IsReceived, IsCovered}
use Rattle.yd_meaning.specs.Names.{item_of_list}
use Rattle.yd_meaning.specs.Held.{needs, sources, item_carried, held_set, is_gone, standing, is_lost, is_one_that, held_clock}
use Rattle.yd_meaning.specs.Order.{rows_of, list_or_root, list_of, order_of, operation_set, AreHonest}
use Rattle.yd_meaning.specs.Deleted.{is_overwritten, is_deleted, is_in_delete_set}
use Rattle.yd_meaning.specs.Document.{Document, document_with, IsDocumentOf}
use Rattle.yd_meaning.specs.Text.{shown_text}

-- ---- what is held

-- what is held is received, with all that it needs; it is all of what is received that has so; and nothing more: a test
-- that an operation passes where its needs pass it is passed by all that is held
pub record HeldIsLeast : Type 0 where
  pub closed : (received : List Operation) (o : Operation) → IsIn o (held_set received) →
      IsIn o received × ((x : Id) → IsIn x (needs o) → has_operation (held_set received) x ≡ true)
  pub whole : (received : List Operation) (o : Operation) → IsIn o received →
      ((x : Id) → IsIn x (needs o) → has_operation (held_set received) x ≡ true) → IsIn o (held_set received)
  pub least : (received : List Operation) (test : Id → Bool) →
      ((o : Operation) → IsIn o received → ((x : Id) → IsIn x (needs o) → test x ≡ true) → test o.id ≡ true) →
      (o : Operation) → IsIn o (held_set received) → test o.id ≡ true

-- whatever comes, and whatever it lowers, an id that is held stays held
abbrev pub HeldGrows : Type 0
HeldGrows = (r : Received) (update : UpdateValue) → IsReceived r → IsValidUpdate update → (x : Id) →
    has_operation (held_set r.operations) x ≡ true → has_operation (held_set (received_after r update).operations) x ≡ true

-- the held clocks of a client are those below its clock in the state vector
abbrev pub VectorCounts : Type 0
VectorCounts = (received : List Operation) → IsWritten received → (client : Client) (clock : ℕ) →
    has_operation (held_set received) (record { client = client; clock = clock }) ≡ true ↔ clock < held_clock (held_set received) client.0

-- what another set has is received: each of its ids is there, its deletions are, and what it has from a vector on is covered
pub record IsCompleted (other r : Received) (vector : ℕ → ℕ) : Type 0 where
  pub ids : (x : Id) → has_operation other.operations x ≡ true → has_operation r.operations x ≡ true
  pub deletes : (x : Id) → HasId other.deletes x → HasId r.deletes x
  pub no_fuller : (o : Operation) → IsIn o other.operations → vector o.id.client.0 ≤ o.id.clock → IsCovered r.operations o

-- so it is after a reply: an update with all that the other set has from a vector on, and with all its deletions, where the
-- vector is nowhere above the state vector. The updates need not agree
abbrev pub RepliesComplete : Type 0
RepliesComplete = (other r : Received) (update : UpdateValue) (vector : ℕ → ℕ) → IsReceived r →
    ((o : Operation) → IsIn o other.operations → vector o.id.client.0 ≤ o.id.clock → IsIn o (operations_of update)) →
    ((x : Id) → HasId other.deletes x → HasId (deletes_of update) x) →
    ((client : ℕ) → vector client ≤ held_clock (held_set r.operations) client) → IsCompleted other (received_after r update) vector

-- each held operation is one of a part exactly where it is not gone, and all that it stands on is in the part
abbrev pub AreStanding : List Operation → List Operation → Type 0
AreStanding held part = (o : Operation) → IsIn o held → IsIn o part ↔ ((is_gone o ≡ false) × ((x : Id) → IsIn x (sources o) → has_operation part x ≡ true))

-- a held operation is lost exactly where it is gone, or something that it stands on is lost; the others stand; and no other
-- part of what is held is so
pub record LostFollowsSources : Type 0 where
  pub recurs : (received : List Operation) → IsWritten received → (o : Operation) → IsIn o (held_set received) →
      is_lost (held_set received) o.id ≡ (is_gone o || is_one_that (is_lost (held_set received)) (sources o))
  pub stands : (received : List Operation) → IsWritten received → (o : Operation) →
      IsIn o (standing (held_set received)) ↔ (IsIn o (held_set received) × (is_lost (held_set received) o.id ≡ false))
  pub are : (received : List Operation) → IsWritten received → AreStanding (held_set received) (standing (held_set received))
  pub alone : (received : List Operation) → IsWritten received → (part : List Operation) → IsWritten part → ((o : Operation) → IsIn o part → IsIn o (held_set received)) →
      AreStanding (held_set received) part → part ≡ standing (held_set received)

-- what stands is a table of origins, so the laws of the order are of it
abbrev pub HeldIsTable : Type 0
HeldIsTable = (received : List Operation) → IsWritten received → IsTable (rows_of (standing (held_set received)))

-- the list of an operation that stands is that of its left origin, else of its right origin, else the one that it carries
abbrev pub ListsFollowOrigins : Type 0
ListsFollowOrigins = (received : List Operation) → IsWritten received → (o : Operation) → IsIn o (standing (held_set received)) →
    list_of (standing (held_set received)) o.id ≡ list_by_origins o.left_origin o.right_origin (list_or_root o.list) (list_of (standing (held_set received)))

-- a list has each operation that stands and is of it, once and no other, and the document has them all, in this order and as
-- they are, whatever is deleted; and the item of a list with operations stands
pub record HasWholeLists (held : List Operation) : Type 0 where
  pub each : (list : DocList) (x : Id) → IsIn x (order_of (standing held) list) ↔ (has_operation (standing held) x ≡ true) × (list_of (standing held) x ≡ list)
  pub once : (list : DocList) → AreDistinct (order_of (standing held) list)
  pub units : (named : Id → Bool) (list : DocList) → map (λ (o : Operation). o.id) ((document_with held named).units list) ≡ order_of (standing held) list
  pub as_held : (named : Id → Bool) (list : DocList) (o : Operation) → IsIn o ((document_with held named).units list) → IsIn o (standing held)
  pub items : (list : DocList) (x y : Id) → IsIn x (order_of (standing held) list) → item_of_list list ≡ Some y → has_operation (standing held) y ≡ true

-- so are the lists of what is held
abbrev pub ListsAreWhole : Type 0
ListsAreWhole = (received : List Operation) → IsWritten received → HasWholeLists (held_set received)

-- ---- honest sets

-- the operations that stand in one list are a table that fits, with their origins as they are
pub record IsHonestList (held : List Operation) (list : DocList) : Type 0 where
  pub is_table : IsTable (table_of_list (operation_set (standing held)) list)
  pub fits : Fits (table_of_list (operation_set (standing held)) list)
  pub lefts : (o : Operation) → IsIn o (standing held) → list_of (standing held) o.id ≡ list → left_of (table_of_list (operation_set (standing held)) list) o.id ≡ o.left_origin
  pub rights : (o : Operation) → IsIn o (standing held) → list_of (standing held) o.id ≡ list → right_of (table_of_list (operation_set (standing held)) list) o.id ≡ o.right_origin

-- so is each list of what is held, where this keeps the edit rules; and what stands is then an honest set, as the laws of the
-- order have it
pub record HonestListsFit : Type 0 where
  pub set : (received : List Operation) → IsWritten received → AreHonest (held_set received) → IsHonest (operation_set (standing (held_set received)))
  pub lists : (received : List Operation) → IsWritten received → AreHonest (held_set received) → (list : DocList) → IsHonestList (held_set received) list

-- each list stands in the order of its table, which is strict, and in which each operation stands between its origins
pub record HasStrictOrder (held : List Operation) (list : DocList) : Type 0 where
  pub strict : IsStrict (table_of_list (operation_set (standing held)) list)
  pub in_order : IsInOrder (is_before (table_of_list (operation_set (standing held)) list)) (order_of (standing held) list)

-- so does each list of what is held, where this keeps the edit rules
abbrev pub HonestOrderIsStrict : Type 0
HonestOrderIsStrict = (received : List Operation) → IsWritten received → AreHonest (held_set received) → (list : DocList) → HasStrictOrder (held_set received) list

-- the placement of what is held, where this keeps the edit rules: a closed part of a list that is in order stays so as it
-- grows by integration scans, in any arrangement, and once it has all operations that stand in the list it is the list
abbrev pub HonestListsGrowInOrder : Type 0
HonestListsGrowInOrder = (received : List Operation) → IsWritten received → AreHonest (held_set received) → (list : DocList) (old new : List Id) →
    IsClosed (table_of_list (operation_set (standing (held_set received))) list) old →
    IsInOrder (is_before (table_of_list (operation_set (standing (held_set received))) list)) old →
    GrowsByScan (table_of_list (operation_set (standing (held_set received))) list) old new →
    IsInOrder (is_before (table_of_list (operation_set (standing (held_set received))) list)) new
    × (((x : Id) → has_operation (standing (held_set received)) x ≡ true → list_of (standing (held_set received)) x ≡ list → IsIn x new) →
    new ≡ order_of (standing (held_set received)) list)

-- ---- parts

-- a closed part: some of the held operations, with all that they need
pub record IsPartOf (part held : List Operation) : Type 0 where
  pub written : IsWritten part
  pub within : (o : Operation) → IsIn o part → IsIn o held
  pub closed : (o : Operation) → IsIn o part → (x : Id) → IsIn x (needs o) → has_operation part x ≡ true

-- a part loses of its own what the whole loses, and keeps the edit rules where the whole does. What stands in it is of the
-- same lists, in the same order. And where its deletions are among those of the whole, it deletes no more
pub record StaysAsItIs (part held : List Operation) : Type 0 where
  pub lost : (x : Id) → has_operation part x ≡ true → is_lost part x ≡ is_lost held x
  pub honest : AreHonest held → AreHonest part
  pub same_list : (x : Id) → has_operation (standing part) x ≡ true → list_of (standing part) x ≡ list_of (standing held) x
  pub same_order : (a b : Id) → has_operation (standing part) a ≡ true → has_operation (standing part) b ≡ true →
      is_before (table_of_all (operation_set (standing part))) a b ≡ is_before (table_of_all (operation_set (standing held))) a b
  pub deletes : AreHonest held → (named all : Id → Bool) → ((x : Id) → named x ≡ true → all x ≡ true) → (x : Id) → has_operation part x ≡ true →
      is_deleted part named x ≡ true → is_deleted held all x ≡ true

-- so it is with each closed part of what is held
abbrev pub ClosedPartsStay : Type 0
ClosedPartsStay = (received : List Operation) → IsWritten received → (part : List Operation) → IsPartOf part (held_set received) → StaysAsItIs part (held_set received)

-- ---- one operation more

-- a new operation of a list is made with its client's next clock, a left origin that is absent or of the list, the right
-- origin that stands directly behind that in the list, the list itself where both are absent, and an item that stands
pub record IsMade (held : List Operation) (made : Operation) (name : DocList) : Type 0 where
  pub not_gone : 0 < level_of made.content
  pub is_new : has_operation held made.id ≡ false
  pub clock : (k : ℕ) → made.id.clock ≡ suc k → has_operation held (record { client = made.id.client; clock = k }) ≡ true
  pub left_of_list : IfSome made.left_origin (λ y. IsIn y (order_of (standing held) name))
  pub right_is_next : made.right_origin ≡ first_of (behind made.left_origin (order_of (standing held) name))
  pub list : made.left_origin ≡ None → made.right_origin ≡ None → list_or_root made.list ≡ name
  pub item : IfSome (item_carried made.list) (λ y. has_operation (standing held) y ≡ true)

-- with it all is held as it was, it is of the list, no other one is lost that was not, and the edit rules are kept
pub record StaysHonestWith (held : List Operation) (made : Operation) (name : DocList) : Type 0 where
  pub all_held : held_set (taken_in made held) ≡ taken_in made held
  pub of_list : list_of (standing (taken_in made held)) made.id ≡ name
  pub others : (x : Id) → has_operation held x ≡ true → is_lost held x ≡ is_lost (taken_in made held) x
  pub honest : AreHonest (taken_in made held)

-- so it is with each operation that is made between two neighbours of a list, where the edit rules were kept
abbrev pub MadeStaysHonest : Type 0
MadeStaysHonest = (received : List Operation) → IsWritten received → AreHonest (held_set received) → (made : Operation) (name : DocList) →
    IsMade (held_set received) made name → StaysHonestWith (held_set received) made name

-- ---- what is deleted

-- a held operation is deleted where it is lost, where a deletion names it, where it is overwritten, and where the item of
-- its list is deleted; and of what stands the test tells what the laws of the order call deleted
pub record DeletedFollowsItems : Type 0 where
  pub recurs : (received : List Operation) → IsWritten received → (named : Id → Bool) (x : Id) → has_operation (held_set received) x ≡ true →
      is_deleted (held_set received) named x
      ≡ (is_lost (held_set received) x || (named x || (is_overwritten (standing (held_set received)) (list_of (standing (held_set received)) x) x
      || is_some_and (is_deleted (held_set received) named) (item_of_list (list_of (standing (held_set received)) x)))))
  pub tells : (received : List Operation) → IsWritten received → (named : Id → Bool) (x : Id) → has_operation (standing (held_set received)) x ≡ true →
      is_deleted (held_set received) named x ≡ true ↔ IsDeleted (operation_set (standing (held_set received))) named x

-- ---- convergence

-- documents of two received sets are one, with one text in each list, and so are their state vectors and delete sets
pub record ShowAlike (one other : Received) : Type 0 where
  pub document : (document another : Document) → IsDocumentOf document one → IsDocumentOf another other → document ≡ another
  pub text : (document another : Document) → IsDocumentOf document one → IsDocumentOf another other → (list : DocList) → shown_text document list ≡ shown_text another list
  pub vector : (client : ℕ) → held_clock (held_set one.operations) client ≡ held_clock (held_set other.operations) client
  pub delete_set : (x : Id) → is_in_delete_set one x ≡ is_in_delete_set other x

-- where operations of one id are alike, updates with the same contents, in any order and repeated, have one document, with the
-- same state vector and the same delete set. Under agreement so do updates of which some were merged
pub record DocumentsConverge : Type 0 where
  pub any_order : (one other : List UpdateValue) → Each IsValidUpdate one → Each IsValidUpdate other → AreAlike (operations_of_all one) →
      HaveSameContents one other → ShowAlike (received_set one) (received_set other)
  pub merged : (one other : List UpdateValue) → Each IsValidUpdate one → Each IsValidUpdate other → Agree one → Agree other →
      SayTheSame one other → ShowAlike (received_set one) (received_set other)
