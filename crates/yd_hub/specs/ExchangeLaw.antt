-- The laws of one exchange in each direction, as statements: both sides have operations of the same ids, and where these are honest and spelled alike, both show the same document.
use Rattle.std.specs.Prelude.{◌≡◌, ◌≤◌, ℕ, ◌⊎◌, ◌↔◌, true, List, Some, None}
use Rattle.yd_words.specs.Member.{IsIn}
use Rattle.yd_ids.specs.declared.id.Client.{Client}
use Rattle.yd_ids.specs.declared.id.Id.{Id}
use Rattle.yd_ids.specs.Set.{HasId}
use Rattle.yd_ops.specs.Operation.{Operation, level_of, operations_of}
use Rattle.yd_ops.specs.Value.{UpdateValue}
use Rattle.yd_ops.specs.ReceivedLaw.{IsReceived}
use Rattle.yd_ops.specs.Received.{Received, has_operation, received_after}
use Rattle.yd_meaning.specs.Deleted.{is_in_delete_set}
use Rattle.yd_meaning.specs.Held.{held_clock, held_set}
use Rattle.yd_meaning.specs.Law.{IsPartOf, ShowAlike}
use Rattle.yd_meaning.specs.Order.{AreHonest}
use Rattle.yd_hub.specs.Answers.{Answers, AreAnswersOf}

-- it has the ids of both and no others
abbrev pub HasBoth : Received → Received → Received → Type 0
HasBoth one other r = (x : Id) → has_operation r.operations x ≡ true ↔ ((has_operation one.operations x ≡ true) ⊎ (has_operation other.operations x ≡ true))

-- what one side has when it answers: its own, and perhaps what the other has
pub record IsSideOf (own other r : Received) : Type 0 where
  pub own_ids : (x : Id) → has_operation own.operations x ≡ true → has_operation r.operations x ≡ true
  pub no_others : (x : Id) → has_operation r.operations x ≡ true → (has_operation own.operations x ≡ true) ⊎ (has_operation other.operations x ≡ true)

-- after one exchange in each direction with nothing else between, both have received operations of the same ids, those of
-- both. Each side answers before it takes the other's reply or after it; and where both spell them alike, they are equal
pub record ExchangesMeet : Type 0 where
  pub before : (own other : Received) → IsSideOf own other own
  pub after : (own other r : Received) → HasBoth own other r → IsSideOf own other r
  pub both : (one other other_then : Received) (asking answers : Answers) → IsReceived one → AreAnswersOf one asking → IsSideOf other one other_then → AreAnswersOf other_then answers →
      HasBoth one other (received_after one (answers.reply asking.vector))
  pub same_ids : (one other r s : Received) → HasBoth one other r → HasBoth other one s → (x : Id) → has_operation r.operations x ≡ has_operation s.operations x
  pub alike : (one other r s : Received) → IsReceived r → IsReceived s → HasBoth one other r → HasBoth other one s →
      ((o p : Operation) → IsIn o r.operations → IsIn p s.operations → o.id ≡ p.id → o ≡ p) → r.operations ≡ s.operations

-- what was held of the other is held as it was, and a deletion that only one of them was told was derived: the id was in the
-- delete set of what the other had when it answered
abbrev pub AddsDerived : Received → Received → Received → Type 0
AddsDerived one other answering = (x : Id) → HasId one.deletes x → HasId other.deletes x ⊎ (is_in_delete_set answering x ≡ true)

-- what a replica had when it answered is a part of what it has now: it was told no less, and nothing that it held is lowered
pub record IsPartOfNow (before now : Received) : Type 0 where
  pub held : IsPartOf (held_set before.operations) (held_set now.operations)
  pub deletes : (x : Id) → HasId before.deletes x → HasId now.deletes x

-- operations with a left origin carry no list
abbrev pub ListsStandAlone : List Operation → Type 0
ListsStandAlone os = (o : Operation) (y : Id) → IsIn o os → o.left_origin ≡ Some y → o.list ≡ None

-- below what is held an update has full operations alone, as a cut has that keeps a pair whole
abbrev pub LowersNoHeld : Received → UpdateValue → Type 0
LowersNoHeld r update = (o : Operation) → IsIn o (operations_of update) → (held_clock (held_set r.operations) o.id.client.0 ≤ o.id.clock) ⊎ (level_of o.content ≡ 2)

-- so a reply lowers nothing that was held when it was asked for, and all that was held is a part of what is held now
pub record RepliesLowerNoHeld : Type 0 where
  pub lowers : (r : Received) (asking answers : Answers) (from : Received) → AreAnswersOf r asking → AreAnswersOf from answers → LowersNoHeld r (answers.reply asking.vector)
  pub stay : (r : Received) (update : UpdateValue) → IsReceived r → ListsStandAlone r.operations → LowersNoHeld r update → IsPartOfNow r (received_after r update)

-- so two that received operations alike, and of which each was told besides at most what the other had derived when it
-- answered, show the same document, with the same state vector and delete set, where these are honest
pub record DocumentsMeet : Type 0 where
  pub shown : (one other one_then other_then : Received) → IsReceived one → IsReceived other → one.operations ≡ other.operations → AreHonest (held_set one.operations) →
      IsPartOfNow one_then one → IsPartOfNow other_then other → AddsDerived one other other_then → AddsDerived other one one_then → ShowAlike one other
  pub derived : (one other other_then : Received) (vector : List (Client × ℕ)) (answers : Answers) → AreAnswersOf other_then answers →
      ((x : Id) → HasId one.deletes x → HasId other.deletes x) → ((x : Id) → HasId other_then.deletes x → HasId other.deletes x) →
      ((x : Id) → HasId answers.deletes x → HasId other_then.deletes x ⊎ (is_in_delete_set other_then x ≡ true)) →
      AddsDerived (received_after one (answers.reply vector)) other other_then

-- where what it holds is honest, the deletions that a replica knows were told to it, or are in its delete set
abbrev pub KnowsDerived : Received → Answers → Type 0
KnowsDerived r answers = AreHonest (held_set r.operations) → (x : Id) → HasId answers.deletes x → HasId r.deletes x ⊎ (is_in_delete_set r x ≡ true)

-- one exchange in each direction with nothing else between: each side asks, and takes the other's reply; one of them may answer
-- only after it took
pub record IsExchange (one other one_then other_then one_last other_last : Received) (asking_one asking_other answers_one answers_other : Answers) : Type 0 where
  pub received : IsReceived one × IsReceived other
  pub lists : ListsStandAlone one.operations × ListsStandAlone other.operations
  pub asking : AreAnswersOf one asking_one × AreAnswersOf other asking_other
  pub answering : AreAnswersOf one_then answers_one × AreAnswersOf other_then answers_other
  pub knowing : KnowsDerived one_then answers_one × KnowsDerived other_then answers_other
  pub one_takes : one_last ≡ received_after one (answers_other.reply asking_one.vector)
  pub other_takes : other_last ≡ received_after other (answers_one.reply asking_other.vector)
  pub one_answers : (one_then ≡ one) ⊎ ((one_then ≡ one_last) × (other_then ≡ other))
  pub other_answers : (other_then ≡ other) ⊎ ((other_then ≡ other_last) × (one_then ≡ one))

-- afterwards both have the same ids; and where what they hold is honest and both spell them alike, both show the same document,
-- with the same state vector and delete set
pub record ExchangesShowAlike : Type 0 where
  pub same_ids : (one other one_then other_then one_last other_last : Received) (asking_one asking_other answers_one answers_other : Answers) →
      IsExchange one other one_then other_then one_last other_last asking_one asking_other answers_one answers_other →
      (x : Id) → has_operation one_last.operations x ≡ has_operation other_last.operations x
  pub shown : (one other one_then other_then one_last other_last : Received) (asking_one asking_other answers_one answers_other : Answers) →
      IsExchange one other one_then other_then one_last other_last asking_one asking_other answers_one answers_other →
      ((o p : Operation) → IsIn o one_last.operations → IsIn p other_last.operations → o.id ≡ p.id → o ≡ p) → AreHonest (held_set one_last.operations) →
      ShowAlike one_last other_last
