-- What is received of updates: of each id one operation, and all deletions (Yjs 13 keeps of each id what came first; that what comes later and says less lowers it is own).
use Rattle.std.specs.Prelude.{◌≡◌, ◌+◌, ℕ, Bool, true, false, ◌||◌, List, [], ◌∷◌, ◌++◌, map, if◌then◌else◌, nat_lt}
use Rattle.yd_words.specs.Member.{IsIn}
use Rattle.yd_ids.specs.declared.id.Client.{Client}
use Rattle.yd_ids.specs.declared.id.Id.{Id}
use Rattle.yd_ids.specs.declared.id.Span.{Span}
use Rattle.yd_ids.specs.Set.{union_of}
use Rattle.yd_ids.specs.Ids.{is_same, is_written_before}
use Rattle.yd_ops.specs.Operation.{Operation, level_of, as_level, operations_of_struct}
use Rattle.yd_ops.specs.Value.{clocks_of, StructValue, BlockValue, UpdateValue}
use Rattle.yd_ops.specs.Pairs.{is_alone, as_torn}
use Rattle.yd_ops.specs.Deletes.{deletes_of}

-- ---- operations

-- whether an operation has the id
abbrev pub has_operation : List Operation → Id → Bool
has_operation [] x = false
has_operation (o ∷ os) x = is_same o.id x || has_operation os x

-- the operations stand in the order of writing, and none has the id of another
abbrev pub IsWritten : List Operation → Type 0
IsWritten [] = Unit {0}
IsWritten (o ∷ os) = ((p : Operation) → IsIn p os → is_written_before o.id p.id ≡ true) × IsWritten os

-- what is left of an operation that is there, once another one of its id came: if that one says less, it says no more than that
abbrev pub lowered : Operation → Operation → Operation
lowered there o = if nat_lt (level_of o.content) (level_of there.content) then as_level (level_of o.content) there else there

-- the operations with one more, at its place; where its id is there, it is not added, and lowers what is there
abbrev pub taken_in : Operation → List Operation → List Operation
taken_in o [] = o ∷ []
taken_in o (p ∷ ps) =
    if is_same o.id p.id then lowered p o ∷ ps
    else if is_written_before o.id p.id then o ∷ p ∷ ps
    else p ∷ taken_in o ps

-- the operations with some more, one after another
abbrev pub all_taken : List Operation → List Operation → List Operation
all_taken [] taken = taken
all_taken (o ∷ os) taken = all_taken os (taken_in o taken)

-- the operations, with U+FFFD for each half whose partner is not there: so pairs are whole
abbrev pub mended : List Operation → List Operation
mended os = map (λ o. as_torn (is_alone os o) o) os

-- ---- what is received

-- the operations with those of a struct: these are taken in, and then halves are mended
abbrev pub with_group : List Operation → List Operation → List Operation
with_group group taken = mended (all_taken group taken)

-- the operations with those of some structs, one struct after another
abbrev pub with_groups : List (List Operation) → List Operation → List Operation
with_groups [] taken = taken
with_groups (group ∷ groups) taken = with_groups groups (with_group group taken)

-- the operations of each of some structs, which follow one another from a clock on
abbrev pub groups_of_structs : Client → ℕ → List StructValue → List (List Operation)
groups_of_structs client clock [] = []
groups_of_structs client clock (s ∷ structs) = operations_of_struct client clock s ∷ groups_of_structs client (clock + clocks_of s) structs

-- those of the structs of blocks
abbrev pub groups_of_blocks : List BlockValue → List (List Operation)
groups_of_blocks [] = []
groups_of_blocks (block ∷ blocks) = groups_of_structs block.client block.clock block.structs ++ groups_of_blocks blocks

-- those of the structs of an update, in written order
abbrev pub groups_of : UpdateValue → List (List Operation)
groups_of update = groups_of_blocks update.blocks

-- ---- updates in turn

-- what is received: operations, and the ids that are deleted by name, as spans
pub record Received : Type 0 where
  pub operations : List Operation
  pub deletes : List Span

-- nothing is received yet
abbrev pub nothing_received : Received
nothing_received = record { operations = []; deletes = [] }

-- what is received after one more update
abbrev pub received_after : Received → UpdateValue → Received
received_after r update = record {
  operations = with_groups (groups_of update) r.operations;
  deletes = union_of r.deletes (deletes_of update);
}

-- what is received after more updates, in the order in which they come
abbrev pub received_more : Received → List UpdateValue → Received
received_more r [] = r
received_more r (update ∷ updates) = received_more (received_after r update) updates

-- what is received of updates, in the order in which they come
abbrev pub received_set : List UpdateValue → Received
received_set updates = received_more nothing_received updates
