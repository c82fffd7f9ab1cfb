-- What is held of the received operations, round by round, and what of it stands or is lost; the state vector; and what waits (Yjs 13, the clocks of a store and its pending structs, and the items that become GC).
use Rattle.std.specs.Prelude.{ℕ, zero, suc, ◌+◌, ◌-◌, Bool, true, false, ◌&&◌, ◌||◌, not, List, [], ◌∷◌, ◌++◌, Option, Some, None, length, filter, nat_eq, nat_le, nat_lt, if◌then◌else◌}
use Rattle.yd_ids.specs.declared.id.Client.{Client}
use Rattle.yd_ids.specs.declared.id.Id.{Id}
use Rattle.yd_ids.specs.declared.id.Span.{Span}
use Rattle.yd_ops.specs.declared.lists.List.{List as DocList}
use Rattle.yd_ops.specs.Operation.{Operation, level_of}
use Rattle.yd_ops.specs.Received.{Received, has_operation}
use Rattle.yd_meaning.specs.Names.{item_of_list}

-- ---- what an operation needs

-- the client's id before a clock, where there is one
abbrev pub id_before : Client → ℕ → List Id
id_before client zero = []
id_before client (suc clock) = record { client = client; clock = clock } ∷ []

-- an id, where there is one
abbrev pub given : Option Id → List Id
given None = []
given (Some x) = x ∷ []

-- the item of the list that an operation carries, where there is one
abbrev pub item_carried : Option DocList → Option Id
item_carried None = None
item_carried (Some list) = item_of_list list

-- what an operation stands on: its origins, and the item of the list that it carries; a gone one carries none of these
abbrev pub sources : Operation → List Id
sources o = given o.left_origin ++ (given o.right_origin ++ given (item_carried o.list))

-- what has to be held before an operation: its client's unit before, and what it stands on
abbrev pub needs : Operation → List Id
needs o = id_before o.id.client o.id.clock ++ sources o

-- ---- rounds

-- whether all ids are among the operations
abbrev pub has_all : List Operation → List Id → Bool
has_all os [] = true
has_all os (x ∷ xs) = has_operation os x && has_all os xs

-- a round after another: the operations that find there all that they ask for
abbrev pub next_round : (Operation → List Id) → List Operation → List Operation → List Operation
next_round asks os before = filter (λ o. has_all before (asks o)) os

-- the rounds, by number; round 0 is empty
abbrev pub round : (Operation → List Id) → List Operation → ℕ → List Operation
round asks os zero = []
round asks os (suc n) = next_round asks os (round asks os n)

-- the last round, of as many as there are operations
abbrev pub last_round : (Operation → List Id) → List Operation → List Operation
last_round asks os = round asks os (length os)

-- what is held: in each round come the operations that find all that they need
abbrev pub held_set : List Operation → List Operation
held_set received = last_round needs received

-- ---- what stands, and what is lost

-- whether an operation is gone
abbrev pub is_gone : Operation → Bool
is_gone o = nat_eq (level_of o.content) 0

-- what stands of held operations: of those that are not gone, in each round come the ones that find all that they stand on
abbrev pub standing : List Operation → List Operation
standing held = last_round sources (filter (λ o. not (is_gone o)) held)

-- whether an operation is lost: it is held, and does not stand; such a one is in no list
abbrev pub is_lost : List Operation → Id → Bool
is_lost held x = has_operation held x && not (has_operation (standing held) x)

-- whether one of the ids passes the test
abbrev pub is_one_that : (Id → Bool) → List Id → Bool
is_one_that test [] = false
is_one_that test (x ∷ xs) = test x || is_one_that test xs

-- ---- counts

-- the clock of a client in the state vector: how many of its operations are held
abbrev pub held_clock : List Operation → ℕ → ℕ
held_clock [] client = 0
held_clock (o ∷ os) client = if nat_eq o.id.client.0 client then suc (held_clock os client) else held_clock os client

-- whether the id is in the span
abbrev pub is_in_span : Span → Id → Bool
is_in_span span x = nat_eq span.client.0 x.client.0 && (nat_le span.clock x.clock && nat_lt x.clock (span.clock + span.len))

-- whether one of the spans names the id
abbrev pub is_named : List Span → Id → Bool
is_named [] x = false
is_named (span ∷ spans) x = is_in_span span x || is_named spans x

-- how many ids spans name that do not touch
abbrev pub count_of_ids : List Span → ℕ
count_of_ids [] = 0
count_of_ids (span ∷ spans) = span.len + count_of_ids spans

-- how many of the operations the spans name
abbrev pub named_count : List Span → List Operation → ℕ
named_count spans [] = 0
named_count spans (o ∷ os) = if is_named spans o.id then suc (named_count spans os) else named_count spans os

-- what waits: operations that are received and not held, and deleted ids that are not held
pub record WaitingCounts : Type 0 where
  pub structs : ℕ
  pub deletes : ℕ

-- how much waits of what is received, where these operations are held
abbrev pub waiting_beside : Received → List Operation → WaitingCounts
waiting_beside r held = record {
  structs = length r.operations - length held;
  deletes = count_of_ids r.deletes - named_count r.deletes held;
}

-- how much waits of what is received
abbrev pub waiting_counts : Received → WaitingCounts
waiting_counts r = waiting_beside r (held_set r.operations)
