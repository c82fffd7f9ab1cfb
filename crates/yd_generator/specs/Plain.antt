-- What each replica of the generator has: letters of one text, all held, by the edit rules; and what the three have of one another's.
use Rattle.std.specs.Prelude.{◌≡◌, ◌≢◌, ◌⊎◌, ℕ, zero, suc, true, false, None, Some}
use Rattle.yd_words.specs.Member.{IsIn}
use Rattle.yd_ids.specs.declared.id.Id.{Id}
use Rattle.yd_ids.specs.Set.{HasId}
use Rattle.yd_ops.specs.Operation.{Operation, UnitContent, level_of}
use Rattle.yd_ops.specs.Pairs.{is_half}
use Rattle.yd_ops.specs.Received.{Received, has_operation}
use Rattle.yd_ops.specs.ReceivedLaw.{IsReceived}
use Rattle.yd_meaning.specs.Held.{held_clock, held_set}
use Rattle.yd_meaning.specs.Order.{AreHonest}
use Rattle.yd_grouping.specs.Groupable.{AreGroupable}
use Rattle.yd_generator.specs.Generated.{text_list, Three}

-- the unit is full, and no half of a pair
pub record IsLetter (content : UnitContent) : Type 0 where
  pub full : level_of content ≡ 2
  pub whole : is_half content ≡ false

-- what is received is letters of the text, which are all held and keep the edit rules; and no deletion waits
pub record IsPlain (r : Received) : Type 0 where
  pub received : IsReceived r
  pub groupable : AreGroupable r.operations
  pub all_held : held_set r.operations ≡ r.operations
  pub honest : AreHonest r.operations
  pub letters : (o : Operation) → IsIn o r.operations → IsLetter o.content
  pub lists : (o : Operation) → IsIn o r.operations → (o.list ≡ None) ⊎ (o.list ≡ Some text_list)
  pub deletes : (x : Id) → HasId r.deletes x → has_operation r.operations x ≡ true

-- each letter is a first client's, or a second one's or a third one's that these have too
abbrev pub AreOwned : ℕ → ℕ → ℕ → Received → Received → Received → Type 0
AreOwned own next last one two three = (o : Operation) → IsIn o one.operations →
    (o.id.client.0 ≡ own) ⊎ (((o.id.client.0 ≡ next) × IsIn o two.operations) ⊎ ((o.id.client.0 ≡ last) × IsIn o three.operations))

-- three clients have such letters, and each has all of its own that another one has
pub record IsShared (own next last : ℕ) (one two three : Received) : Type 0 where
  pub apart : (own ≢ next) × (next ≢ last) × (last ≢ own)
  pub one_plain : IsPlain one
  pub two_plain : IsPlain two
  pub three_plain : IsPlain three
  pub of_one : AreOwned own next last one two three
  pub of_two : AreOwned next last own two three one
  pub of_three : AreOwned last own next three one two

-- so have the replicas of clients 1, 2 and 3
abbrev pub AreShared : Three → Type 0
AreShared g = IsShared 1 2 3 g.first g.second g.third

-- each letter is one of the clients 1, 2 and 3
abbrev pub IsOfThree : Received → Type 0
IsOfThree r = (o : Operation) → IsIn o r.operations → (o.id.client.0 ≡ 1) ⊎ ((o.id.client.0 ≡ 2) ⊎ (o.id.client.0 ≡ 3))

-- the clock of the client whose turn it is, by the number of its replica
abbrev pub own_clock : ℕ → Three → ℕ
own_clock zero g = held_clock (held_set g.first.operations) 1
own_clock (suc zero) g = held_clock (held_set g.second.operations) 2
own_clock (suc (suc number)) g = held_clock (held_set g.third.operations) 3
