-- Generations: they are shared behind each number of steps, and so they end equal.
use Rattle.std.proofs.Common.{ℕ, zero, suc, ◌+◌, ◌%◌, ◌^◌, ◌<◌, ◌≤◌, Bool, true, false, nat_eq, inl, inr, refl, ap, arith}
use Rattle.std.specs.Prelude.{if◌then◌else◌}
use Rattle.yd_words.specs.Member.{IsIn}
use Rattle.yd_words.proofs.TestLemmas.{split}
use Rattle.yd_ids.specs.declared.id.Client.{Client}
use Rattle.yd_ids.specs.declared.id.Id.{Id}
use Rattle.yd_ids.specs.Id.{IsClient}
use Rattle.yd_ops.specs.Operation.{Operation}
use Rattle.yd_ops.specs.Received.{Received, nothing_received}
use Rattle.yd_ops.proofs.OneOfLemmas.{operation_with}
use Rattle.yd_ops.proofs.ReceivedLemmas.{nothing_is_received}
use Rattle.yd_meaning.specs.Held.{held_clock, held_set}
use Rattle.yd_meaning.proofs.HeldLemmas.{held_in}
use Rattle.yd_meaning.proofs.VectorLemmas.{held_below}
use Rattle.yd_generator.specs.declared.draws.Draws.{Draws}
use Rattle.yd_generator.specs.Draws.{draws_from}
use Rattle.yd_generator.specs.Generated.{Three, edited, first_generation, generation, passed, passed_at, turned}
use Rattle.yd_generator.specs.Law.{AreAccepted, GenerationsConverge, IsAccepted, IsTurnAccepted}
use Rattle.yd_generator.specs.Plain.{AreShared, IsPlain, IsShared, own_clock}
use Rattle.yd_generator.proofs.SharedLemmas.{rounds_equal, shared_edited, shared_same, shared_turned, turned_shared}
use Rattle.yd_generator.proofs.AcceptedLemmas.{drawn_accepted}
use Rattle.yd_generator.proofs.EditLemmas.{edit_clocks}
use Rattle.yd_generator.proofs.PassLemmas.{pass_of}

nothing_plain : IsPlain nothing_received
nothing_plain = record {
  received = nothing_is_received;
  groupable = record { written = tt; valid = tt; paired = nothing_is_received.paired; rights = nothing_is_received.rights };
  all_held = refl;
  honest = λ o i. absurd i;
  letters = λ o i. absurd i;
  lists = λ o i. absurd i;
  deletes = λ x h. absurd h;
}

start_shared : AreShared first_generation.three
start_shared = record {
  apart = ((λ e. omega (arith, e)), (λ e. omega (arith, e)), (λ e. omega (arith, e)));
  one_plain = nothing_plain;
  two_plain = nothing_plain;
  three_plain = nothing_plain;
  of_one = λ o i. absurd i;
  of_two = λ o i. absurd i;
  of_three = λ o i. absurd i;
}

pub generations_shared : (n : ℕ) → AreAccepted n → AreShared (generation n).three
generations_shared zero accepted = start_shared
generations_shared (suc n) accepted =
    turned_shared (suc n % 3) (suc n) (draws_from (generation n).state) (generation n).three (generations_shared n accepted.0) accepted.1

-- ---- clocks

-- all clocks are below a number
abbrev AreBelow : ℕ → Received → Type 0
AreBelow n r = (o : Operation) → IsIn o r.operations → o.id.clock < n

vector_below : (n : ℕ) (client : Client) (r : Received) → IsPlain r → AreBelow n r → held_clock (held_set r.operations) client.0 ≤ n
vector_below n client r is below = elim (split (held_clock (held_set r.operations) client.0) n) [
  | inl le ↦ le
  | inr lt ↦ let (o, i, e) = operation_with (held_set r.operations) (record { client = client; clock = n }) ((held_below r.operations is.received.written client n).1 lt) in
      let low = below o (held_in r.operations o i) in absurd (omega (arith, low, ap (λ (x : Id). x.clock) e))
]

below_more : (n : ℕ) (r : Received) → AreBelow n r → AreBelow (suc n) r
below_more n r below o i = let low = below o i in omega (arith, low)

edit_below : (n : ℕ) (client : Client) (c : IsClient client) (d : Draws) (r : Received) → IsPlain r → IsAccepted client d r → AreBelow n r → AreBelow (suc n) (edited client d r)
edit_below n client c d r is done below o i = elim (edit_clocks client c r is d done o i) [
  | inl e ↦ let low = vector_below n client r is below in omega (arith, e, low)
  | inr j ↦ below_more n r below o j
]

pass_below : (n step own next last : ℕ) (a b c : Received) → IsShared own next last a b c → AreBelow n a → AreBelow n b → AreBelow n (passed_at step a b)
pass_below n step own next last a b c is one other = go (nat_eq (step % 10) 0)
  where
    go : (t : Bool) → AreBelow n (if t then passed a b else b)
    go true = λ o i. elim (pass_of a b is.one_plain is.two_plain (shared_same own next last a b c is) o i) [ inl j ↦ one o j | inr j ↦ other o j ]
    go false = other

-- those of all three
record AllBelow (n : ℕ) (g : Three) : Type 0 where
  first : AreBelow n g.first
  second : AreBelow n g.second
  third : AreBelow n g.third

turned_below : (number step n : ℕ) (d : Draws) (g : Three) → AreShared g → IsTurnAccepted number d g → AllBelow n g → AllBelow (suc n) (turned number step d g)
turned_below zero step n d g is done below =
    let low = edit_below n (record { 0 = 1 }) (omega arith) d g.first is.one_plain done below.first in
    let after = shared_edited (record { 0 = 1 }) 2 3 g.first g.second g.third is (omega arith) d done in record {
      first = low;
      second = pass_below (suc n) step 1 2 3 (edited (record { 0 = 1 }) d g.first) g.second g.third after low (below_more n g.second below.second);
      third = below_more n g.third below.third;
    }
turned_below (suc zero) step n d g is done below =
    let low = edit_below n (record { 0 = 2 }) (omega arith) d g.second is.two_plain done below.second in
    let after = shared_edited (record { 0 = 2 }) 3 1 g.second g.third g.first (shared_turned 1 2 3 g.first g.second g.third is) (omega arith) d done in record {
      first = below_more n g.first below.first;
      second = low;
      third = pass_below (suc n) step 2 3 1 (edited (record { 0 = 2 }) d g.second) g.third g.first after low (below_more n g.third below.third);
    }
turned_below (suc (suc number)) step n d g is done below =
    let low = edit_below n (record { 0 = 3 }) (omega arith) d g.third is.three_plain done below.third in
    let after = shared_edited (record { 0 = 3 }) 1 2 g.third g.first g.second (shared_turned 2 3 1 g.second g.third g.first (shared_turned 1 2 3 g.first g.second g.third is)) (omega arith) d done in record {
      first = pass_below (suc n) step 3 1 2 (edited (record { 0 = 3 }) d g.third) g.first g.second after low (below_more n g.first below.first);
      second = below_more n g.second below.second;
      third = low;
    }

generations_below : (n : ℕ) → AreAccepted n → AllBelow n (generation n).three
generations_below zero accepted = record { first = λ o i. absurd i; second = λ o i. absurd i; third = λ o i. absurd i }
generations_below (suc n) accepted =
    turned_below (suc n % 3) (suc n) n (draws_from (generation n).state) (generation n).three (generations_shared n accepted.0) accepted.1 (generations_below n accepted.0)

-- the clock of each client is at most the number of steps
pub own_clocks : (n : ℕ) → AreAccepted n → (number : ℕ) → own_clock number (generation n).three ≤ n
own_clocks n accepted number = go number (generations_shared n accepted) (generations_below n accepted)
  where
    go : (number : ℕ) → AreShared (generation n).three → AllBelow n (generation n).three → own_clock number (generation n).three ≤ n
    go zero is below = vector_below n (record { 0 = 1 }) (generation n).three.first is.one_plain below.first
    go (suc zero) is below = vector_below n (record { 0 = 2 }) (generation n).three.second is.two_plain below.second
    go (suc (suc number)) is below = vector_below n (record { 0 = 3 }) (generation n).three.third is.three_plain below.third

room : (n : ℕ) (client : Client) (r : Received) → IsPlain r → AreBelow n r → suc n < 2 ^ 53 → held_clock (held_set r.operations) client.0 + 1 < 2 ^ 53
room n client r is below lt = let low = vector_below n client r is below in omega (arith, low, lt)

turn_accepted : (number n : ℕ) (d : Draws) (g : Three) → AreShared g → AllBelow n g → suc n < 2 ^ 53 → IsTurnAccepted number d g
turn_accepted zero n d g is below lt = drawn_accepted (record { 0 = 1 }) g.first (omega arith) is.one_plain (room n (record { 0 = 1 }) g.first is.one_plain below.first lt) d
turn_accepted (suc zero) n d g is below lt = drawn_accepted (record { 0 = 2 }) g.second (omega arith) is.two_plain (room n (record { 0 = 2 }) g.second is.two_plain below.second lt) d
turn_accepted (suc (suc number)) n d g is below lt = drawn_accepted (record { 0 = 3 }) g.third (omega arith) is.three_plain (room n (record { 0 = 3 }) g.third is.three_plain below.third lt) d

pub generations_accepted : (n : ℕ) → n < 2 ^ 53 → AreAccepted n
generations_accepted zero lt = tt
generations_accepted (suc n) lt = let before = generations_accepted n (omega (arith, lt)) in
    (before, turn_accepted (suc n % 3) n (draws_from (generation n).state) (generation n).three (generations_shared n before) (generations_below n before) lt)

pub generations_converge : GenerationsConverge
generations_converge = record {
  accepted = generations_accepted;
  shared = generations_shared;
  equal = λ n accepted. rounds_equal (generation n).three (generations_shared n accepted);
}
