-- The document that received operations and deletions define, as it is read.
use Rattle.std.specs.Prelude.{◌≡◌, ◌↔◌, ℕ, Bool, true, ◌&&◌, List, [], ◌∷◌, Option, Some, None, if◌then◌else◌}
use Rattle.std.specs.Ordering.{nat_cmp, match_ordering}
use Rattle.std.specs.Cmp.Lexicographic.{slice_cmp}
use Rattle.yd_ids.specs.declared.id.Id.{Id}
use Rattle.yd_ids.specs.Ids.{is_same}
use Rattle.yd_ids.specs.declared.id.Span.{Span}
use Rattle.yd_ids.specs.Set.{HasId}
use Rattle.yd_ops.specs.declared.lists.List.{List as DocList}
use Rattle.yd_ops.specs.declared.lists.Parent.{Parent}
use Rattle.yd_ops.specs.Operation.{Operation}
use Rattle.yd_ops.specs.Received.{Received, has_operation}
use Rattle.yd_meaning.specs.Names.{same_parent}
use Rattle.yd_meaning.specs.Held.{held_set, standing, is_named}
use Rattle.yd_meaning.specs.Order.{list_of, order_of}
use Rattle.yd_meaning.specs.Deleted.{is_deleted}

-- a document as it is read: the operations of each list in order, which ids are held and deleted, and the keys under which a
-- parent has operations. What is lost is in no list and under no key, and is deleted
pub record Document : Type 0 where
  pub units : DocList → List Operation
  pub deleted : Id → Bool
  pub keys : Parent → List (List ℕ)

-- ---- units

-- the operation with the id, in front of others
abbrev pub operation_before : List Operation → Id → List Operation → List Operation
operation_before [] x rest = rest
operation_before (o ∷ os) x rest = if is_same o.id x then o ∷ rest else operation_before os x rest

-- the operations with these ids, in the order of the ids
abbrev pub operations_at : List Operation → List Id → List Operation
operations_at held [] = []
operations_at held (x ∷ xs) = operation_before held x (operations_at held xs)

-- ---- keys

-- the keys with one more, in the order of their bytes
abbrev pub with_key : List ℕ → List (List ℕ) → List (List ℕ)
with_key key [] = key ∷ []
with_key key (other ∷ keys) = match_ordering (slice_cmp nat_cmp key other) (key ∷ other ∷ keys) (other ∷ keys) (other ∷ with_key key keys)

-- the keys with the one of a list, where it has one
abbrev pub with_key_of : Option (List ℕ) → List (List ℕ) → List (List ℕ)
with_key_of None keys = keys
with_key_of (Some key) keys = with_key key keys

-- the keys of the parent's lists of which some of the operations are
abbrev pub keys_of : List Operation → List Operation → Parent → List (List ℕ)
keys_of stands [] parent = []
keys_of stands (o ∷ os) parent =
    if same_parent (list_of stands o.id).parent parent then with_key_of (list_of stands o.id).key (keys_of stands os parent) else keys_of stands os parent

-- the keys under which a parent has one of the operations that stand
abbrev pub keys_among : List Operation → Parent → List (List ℕ)
keys_among stands parent = keys_of stands stands parent

-- ---- documents

-- the document of held operations, where deletions name these ids
abbrev pub document_with : List Operation → (Id → Bool) → Document
document_with held named = record {
  units = λ list. operations_at (standing held) (order_of (standing held) list);
  deleted = λ x. has_operation held x && is_deleted held named x;
  keys = keys_among (standing held);
}

-- the document that a received set defines
abbrev pub document_of : Received → Document
document_of r = document_with (held_set r.operations) (is_named r.deletes)

-- a document is one of what is received: it is the one that this defines
abbrev pub IsDocumentOf : Document → Received → Type 0
IsDocumentOf document r = document ≡ document_of r

-- the spans have just the ids that are deleted in the document
abbrev pub AreDeletedIn : List Span → Document → Type 0
AreDeletedIn spans document = (x : Id) → HasId spans x ↔ (document.deleted x ≡ true)
