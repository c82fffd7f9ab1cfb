-- What is deleted: what is lost, what a deletion names, what is overwritten under its key, and what lies under a deleted item (Yjs 13, the deletions that an integration makes).
use Rattle.std.specs.Prelude.{◌↔◌, ◌≡◌, ℕ, zero, suc, Bool, true, false, ◌&&◌, ◌||◌, not, List, length, Some}
use Rattle.yd_words.specs.Test.{is_some_and}
use Rattle.yd_ids.specs.declared.id.Id.{Id}
use Rattle.yd_ids.specs.declared.id.Span.{Span}
use Rattle.yd_ids.specs.Set.{HasId}
use Rattle.yd_ids.specs.Ids.{is_same_neighbour}
use Rattle.yd_ops.specs.declared.lists.List.{List as DocList}
use Rattle.yd_ops.specs.Operation.{Operation}
use Rattle.yd_origins.specs.Deleted.{last_of}
use Rattle.yd_ops.specs.Received.{Received, has_operation}
use Rattle.yd_meaning.specs.Names.{has_key, item_of_list}
use Rattle.yd_meaning.specs.Held.{held_set, standing, is_lost, is_named}
use Rattle.yd_meaning.specs.Order.{list_of, order_of}

-- whether an id of the list is overwritten: the list has a key, and the id does not stand last in it
abbrev pub is_overwritten : List Operation → DocList → Id → Bool
is_overwritten stands list x = has_key list && not (is_same_neighbour (last_of (order_of stands list)) (Some x))

-- whether an operation that stands is deleted, within at most so many items
abbrev pub is_deleted_within : List Operation → (Id → Bool) → ℕ → Id → Bool
is_deleted_within stands named zero x = false
is_deleted_within stands named (suc n) x =
    named x || (is_overwritten stands (list_of stands x) x || is_some_and (is_deleted_within stands named n) (item_of_list (list_of stands x)))

-- whether one is, of operations that stand; it lies within no more items than there are operations
abbrev pub is_deleted_among : List Operation → (Id → Bool) → Id → Bool
is_deleted_among stands named x = is_deleted_within stands named (suc (length stands)) x

-- whether a held operation is deleted, where deletions name these ids: it is lost, or stands and is deleted
abbrev pub is_deleted : List Operation → (Id → Bool) → Id → Bool
is_deleted held named x = is_lost held x || is_deleted_among (standing held) named x

-- whether the id is in the delete set: it is held, and deleted
abbrev pub is_in_delete_set : Received → Id → Bool
is_in_delete_set r x = has_operation (held_set r.operations) x && is_deleted (held_set r.operations) (is_named r.deletes) x

-- the spans are the delete set of what is received
abbrev pub AreDeleteSet : List Span → Received → Type 0
AreDeleteSet spans r = (x : Id) → HasId spans x ↔ (is_in_delete_set r x ≡ true)
