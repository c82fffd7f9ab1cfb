-- What a replica answers: its state vector, the deletions that it was told or derived, its replies, and what is news to it (own).
use Rattle.std.specs.Prelude.{◌≡◌, ℕ, zero, suc, Bool, true, false, ◌&&◌, ◌||◌, not, List, [], ◌∷◌, nat_lt}
use Rattle.yd_words.specs.Each.{Each}
use Rattle.yd_ids.specs.declared.id.Client.{Client}
use Rattle.yd_ids.specs.declared.id.Id.{Id}
use Rattle.yd_ids.specs.declared.id.Span.{Span}
use Rattle.yd_ids.specs.Ids.{is_same}
use Rattle.yd_ids.specs.Set.{AreMaximal, union_of}
use Rattle.yd_ids.specs.Vector.{clock_of}
use Rattle.yd_ops.specs.Operation.{Operation, level_of, operations_of}
use Rattle.yd_ops.specs.Valid.{IsValidUpdate}
use Rattle.yd_ops.specs.Value.{UpdateValue}
use Rattle.yd_ops.specs.Deletes.{deletes_of}
use Rattle.yd_ops.specs.ReceivedLaw.{IsReceived}
use Rattle.yd_ops.specs.Received.{Received, has_operation, received_set}
use Rattle.yd_meaning.specs.Document.{AreDeletedIn, Document}
use Rattle.yd_meaning.specs.Held.{held_clock, held_set, is_named}
use Rattle.yd_meaning.specs.Replica.{IsReplicaDocument}
use Rattle.yd_grouping.specs.Groupable.{AreGroupable}
use Rattle.yd_grouping.specs.Merged.{reply_of}
use Rattle.yd_hub.specs.Answers.{Answers, AreAnswersOf, TellsNews}
use Rattle.yd_hub.specs.ExchangeLaw.{KnowsDerived}

-- ---- what is news

-- whether an operation of its id is there that says more
abbrev pub is_more : List Operation → Operation → Bool
is_more [] o = false
is_more (p ∷ ps) o = (is_same p.id o.id && nat_lt (level_of o.content) (level_of p.content)) || is_more ps o

-- whether no operation of its id is there, or one that says more
abbrev pub is_new : List Operation → Operation → Bool
is_new there o = not (has_operation there o.id) || is_more there o

-- whether one of them is new
abbrev pub has_new : List Operation → List Operation → Bool
has_new there [] = false
has_new there (o ∷ os) = is_new there o || has_new there os

-- whether so many ids of a client, from a clock on, are named
abbrev pub are_named : List Span → Client → ℕ → ℕ → Bool
are_named known client clock zero = true
are_named known client clock (suc n) = is_named known (record { client = client; clock = clock }) && are_named known client (suc clock) n

-- whether all ids of the spans are named
abbrev pub has_spans : List Span → List Span → Bool
has_spans known [] = true
has_spans known (span ∷ spans) = are_named known span.client span.clock span.len && has_spans known spans

-- whether an update brings an operation or a deletion that is not known
abbrev pub brings_news : Received → List Span → UpdateValue → Bool
brings_news r known update = has_new r.operations (operations_of update) || not (has_spans known (deletes_of update))

-- ---- all answers

-- the answers of a replica that received this, with this state vector and this delete set of its own document
abbrev pub answers_of : Received → List (Client × ℕ) → List Span → Answers
answers_of r vector own = record {
  vector = vector;
  deletes = union_of own r.deletes;
  reply = λ asked. reply_of r own (clock_of asked);
  is_news = brings_news r (union_of own r.deletes);
}

-- it received what can be grouped, its vector counts what is held, and its delete set is one
pub record CanAnswer (r : Received) (vector : List (Client × ℕ)) (own : List Span) : Type 0 where
  pub received : IsReceived r
  pub groupable : AreGroupable r.operations
  pub counts : (client : ℕ) → clock_of vector client ≡ held_clock (held_set r.operations) client
  pub maximal : AreMaximal own

-- the spans are the delete set of a document that a replica may have which received this: where the edit rules are kept, the one
-- that this defines
pub record AreOwnDeletes (own : List Span) (r : Received) : Type 0 where
  pub document : Document
  pub is : IsReplicaDocument document r
  pub deletes : AreDeletedIn own document

-- so it answers as the laws of synchronisation ask for; and what is received of valid updates can be answered with
pub record ReplicasAnswer : Type 0 where
  pub can : (updates : List UpdateValue) (vector : List (Client × ℕ)) (own : List Span) → Each IsValidUpdate updates → AreMaximal own →
      ((client : ℕ) → clock_of vector client ≡ held_clock (held_set (received_set updates).operations) client) → CanAnswer (received_set updates) vector own
  pub answers : (r : Received) (vector : List (Client × ℕ)) (own : List Span) → CanAnswer r vector own → AreAnswersOf r (answers_of r vector own)
  pub news : (r : Received) (vector : List (Client × ℕ)) (own : List Span) → IsReceived r → TellsNews r (answers_of r vector own)
  pub derived : (r : Received) (vector : List (Client × ℕ)) (own : List Span) → AreOwnDeletes own r → KnowsDerived r (answers_of r vector own)
