-- How much of what is received is held, waits and is deleted, as numbers (own).
use Rattle.std.specs.Prelude.{ℕ, Bool, List, [], ◌∷◌, length, filter, nat_lt, if◌then◌else◌}
use Rattle.yd_ids.specs.declared.id.Client.{Client}
use Rattle.yd_ops.specs.declared.lists.List.{List as DocList}
use Rattle.yd_ops.specs.Operation.{Operation}
use Rattle.yd_ops.specs.Received.{Received}
use Rattle.yd_grouping.specs.Disagreement.{some_passes}
use Rattle.yd_meaning.specs.Collected.{held_count}
use Rattle.yd_meaning.specs.Document.{Document, document_of}
use Rattle.yd_meaning.specs.Held.{held_set, standing, waiting_counts}
use Rattle.yd_meaning.specs.Names.{same_list}
use Rattle.yd_meaning.specs.Order.{list_of}
use Rattle.yd_checking.specs.declared.counts.Counts.{Counts}

-- ---- lists

-- lists with one more, if it is not one of them
abbrev pub with_list : DocList → List DocList → List DocList
with_list list lists = if some_passes (same_list list) lists then lists else list ∷ lists

-- the lists of some operations that stand, each once
abbrev pub lists_among : List Operation → List Operation → List DocList
lists_among stands [] = []
lists_among stands (o ∷ os) = with_list (list_of stands o.id) (lists_among stands os)

-- how many lists have a held operation that stands; what is lost is in no list
abbrev pub list_count : Received → ℕ
list_count r = length (lists_among (standing (held_set r.operations)) (standing (held_set r.operations)))

-- ---- all numbers

-- how many operations a document deletes
abbrev pub deleted_in : Document → List Operation → ℕ
deleted_in document operations = length (filter (λ (o : Operation). document.deleted o.id) operations)

-- the numbers of what is received, as a replica with this document has them: how many operations are held, how many wait, how
-- many deleted ids wait, how many held operations it deletes, and how many lists there are. The document decides the fourth alone
abbrev pub counts_in : Document → Received → Counts
counts_in document r = record {
  held = held_count r;
  waiting = (waiting_counts r).structs;
  waiting_deletes = (waiting_counts r).deletes;
  deleted = deleted_in document (held_set r.operations);
  lists = list_count r;
}

-- so with the document that is defined
abbrev pub counts_of : Received → Counts
counts_of r = counts_in (document_of r) r

-- ---- what the code adds up

-- the clock that an entry of a state vector has
abbrev pub clock_reached : Client × ℕ → ℕ
clock_reached entry = entry.1

-- whether a list of the document has an operation
abbrev pub is_used : Document → DocList → Bool
is_used document list = nat_lt 0 (length (document.units list))
