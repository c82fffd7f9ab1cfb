-- What an edit reads of a replica: the document, the state vector, which ids are type items, and what of the own client waits.
use Rattle.std.specs.Prelude.{ℕ, Bool, true, false, ◌&&◌, not, List, [], ◌∷◌, Option, Some, None, nat_eq, if◌then◌else◌}
use Rattle.yd_ids.specs.declared.id.Client.{Client}
use Rattle.yd_ids.specs.declared.id.Id.{Id}
use Rattle.yd_ids.specs.Ids.{is_same}
use Rattle.yd_ops.specs.Operation.{UnitContent, text_unit, any_unit, json_unit, bytes, embedded, mark, nested_type, deleted_unit, gone_unit, Operation}
use Rattle.yd_ops.specs.Received.{Received, has_operation}
use Rattle.yd_meaning.specs.Held.{held_set, held_clock, standing}
use Rattle.yd_meaning.specs.Document.{Document, document_of}

-- what an edit of a client reads
pub record Basis : Type 0 where
  pub client : Client
  pub document : Document
  pub vector : ℕ → ℕ
  pub has_type : Id → Bool
  pub waits : Option ℕ

-- whether a unit is a type
abbrev pub is_type : UnitContent → Bool
is_type (text_unit unit) = false
is_type (any_unit value) = false
is_type (json_unit value) = false
is_type (bytes blob) = false
is_type (embedded value) = false
is_type (mark key value) = false
is_type (nested_type kind) = true
is_type deleted_unit = false
is_type gone_unit = false

-- whether the id is that of a type item
abbrev pub has_type_item : List Operation → Id → Bool
has_type_item [] x = false
has_type_item (o ∷ os) x = if is_same o.id x then is_type o.content else has_type_item os x

-- the smallest clock of the client that is received and not held; operations come in the order of writing
abbrev pub first_waiting : List Operation → ℕ → List Operation → Option ℕ
first_waiting held client [] = None
first_waiting held client (o ∷ os) =
    if nat_eq o.id.client.0 client && not (has_operation held o.id) then Some o.id.clock else first_waiting held client os

-- what an edit of a client reads of what is received, over a document
abbrev pub basis_over : Client → Document → Received → Basis
basis_over client document r = record {
  client = client;
  document = document;
  vector = held_clock (held_set r.operations);
  has_type = has_type_item (standing (held_set r.operations));
  waits = first_waiting (held_set r.operations) client.0 r.operations;
}

-- the same over the document that this defines
abbrev pub basis_of : Client → Received → Basis
basis_of client r = basis_over client (document_of r) r
