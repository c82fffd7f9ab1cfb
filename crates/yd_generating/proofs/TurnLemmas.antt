-- Turns of three replicas, and rounds.
use Rattle.std.proofs.Common.{◌≡◌, ◌≢◌, ℕ, zero, suc, ◌%◌, ◌<◌, ◌≤◌, Bool, true, false, nat_eq, refl, sym, ap, ◌∙◌, subst, arith, tests}
use Rattle.std.specs.Prelude.{if◌then◌else◌}
use Rattle.yd_ids.specs.declared.id.Client.{Client}
use Rattle.yd_ids.specs.Id.{IsClient}
use Rattle.yd_ops.specs.Received.{Received}
use Rattle.yd_meaning.specs.Held.{held_clock, held_set}
use Rattle.yd_generator.specs.Draws.{draws_from}
use Rattle.yd_generator.specs.declared.draws.Draws.{Draws}
use Rattle.yd_generator.specs.Generated.{Three, edited, generation, passed, passed_at, rounded, turned}
use Rattle.yd_generator.specs.Law.{AreAccepted, IsAccepted, IsTurnAccepted}
use Rattle.yd_generator.specs.Plain.{AreShared, IsPlain, IsShared, own_clock}
use Rattle.yd_generator.proofs.EditLemmas.{edit_plain}
use Rattle.yd_generator.proofs.GenerationLemmas.{own_clocks}
use Rattle.yd_generator.proofs.SharedLemmas.{rounded_shared, shared_passed, shared_turned}
use Rattle.yd_generating.specs.Line.{IsStop}
use Rattle.yd_doc.specs.Kept.{Kept}
use Rattle.yd_generating.specs.Replicas.{AreClients}
use Rattle.yd_generating.specs.Stopped.{IsFull}
use Rattle.yd_generating.specs.declared.fault.GenerateFault.{GenerateFault}
use Rattle.yd_generating.specs.declared.fault.GenerateFault.TheVariants.{NoMemory, Refused}

-- ---- one turn

pub three_same : (one two three a b c : Received) → one ≡ a → two ≡ b → three ≡ c →
    ◌≡◌ {A = Three} (record { first = one; second = two; third = three }) (record { first = a; second = b; third = c })
three_same one two three a b c e f g = ap (λ (x : Received). record { first = x; second = two; third = three }) e ∙ ap (λ (x : Received). record { first = a; second = x; third = three }) f ∙ ap (λ (x : Received). record { first = a; second = b; third = x }) g

pub last_turn : (step : ℕ) → step % 3 ≢ 0 → step % 3 ≢ 1 → step % 3 ≡ 2
last_turn step a b = elim_rest (step % 3) (omega arith) a b
  where
    elim_rest : (n : ℕ) → n < 3 → n ≢ 0 → n ≢ 1 → n ≡ 2
    elim_rest zero lt c d = absurd (c refl)
    elim_rest (suc zero) lt c d = absurd (d refl)
    elim_rest (suc (suc n)) lt c d = omega (arith, lt)

-- the three behind a turn, by whose it was
pub first_turned : (number step : ℕ) (d : Draws) (g : Three) (client : Client) (own next : Received) → number ≡ 0 → client ≡ record { 0 = 1 } →
    own ≡ edited client d g.first → next ≡ passed_at step (edited client d g.first) g.second →
    ◌≡◌ {A = Three} (record { first = own; second = next; third = g.third }) (turned number step d g)
first_turned number step d g client own next is c e f =
    three_same own next g.third _ _ _ (e ∙ ap (λ (k : Client). edited k d g.first) c) (f ∙ ap (λ (k : Client). passed_at step (edited k d g.first) g.second) c) refl
    ∙ ap (λ n. turned n step d g) (sym is)

pub second_turned : (number step : ℕ) (d : Draws) (g : Three) (client : Client) (own next : Received) → number ≡ 1 → client ≡ record { 0 = 2 } →
    own ≡ edited client d g.second → next ≡ passed_at step (edited client d g.second) g.third →
    ◌≡◌ {A = Three} (record { first = g.first; second = own; third = next }) (turned number step d g)
second_turned number step d g client own next is c e f =
    three_same g.first own next _ _ _ refl (e ∙ ap (λ (k : Client). edited k d g.second) c) (f ∙ ap (λ (k : Client). passed_at step (edited k d g.second) g.third) c)
    ∙ ap (λ n. turned n step d g) (sym is)

pub third_turned : (number step : ℕ) (d : Draws) (g : Three) (client : Client) (own next : Received) → number ≡ 2 → client ≡ record { 0 = 3 } →
    own ≡ edited client d g.third → next ≡ passed_at step (edited client d g.third) g.first →
    ◌≡◌ {A = Three} (record { first = next; second = g.second; third = own }) (turned number step d g)
third_turned number step d g client own next is c e f =
    three_same next g.second own _ _ _ (f ∙ ap (λ (k : Client). passed_at step (edited k d g.third) g.first) c) refl (e ∙ ap (λ (k : Client). edited k d g.third) c)
    ∙ ap (λ n. turned n step d g) (sym is)

-- whose edit was accepted
pub first_accepted : (number : ℕ) (d : Draws) (g : Three) (client : Client) → number ≡ 0 → client ≡ record { 0 = 1 } → IsAccepted client d g.first → IsTurnAccepted number d g
first_accepted number d g client is c done = subst (λ n. IsTurnAccepted n d g) (sym is) (subst (λ (k : Client). IsAccepted k d g.first) c done)

pub second_accepted : (number : ℕ) (d : Draws) (g : Three) (client : Client) → number ≡ 1 → client ≡ record { 0 = 2 } → IsAccepted client d g.second → IsTurnAccepted number d g
second_accepted number d g client is c done = subst (λ n. IsTurnAccepted n d g) (sym is) (subst (λ (k : Client). IsAccepted k d g.second) c done)

pub third_accepted : (number : ℕ) (d : Draws) (g : Three) (client : Client) → number ≡ 2 → client ≡ record { 0 = 3 } → IsAccepted client d g.third → IsTurnAccepted number d g
third_accepted number d g client is c done = subst (λ n. IsTurnAccepted n d g) (sym is) (subst (λ (k : Client). IsAccepted k d g.third) c done)

-- and whose clock may be full
pub first_full : (number : ℕ) (g : Three) (client : Client) (fault : GenerateFault) → number ≡ 0 → client ≡ record { 0 = 1 } →
    IsFull (held_clock (held_set g.first.operations) client.0) fault → IsFull (own_clock number g) fault
first_full number g client fault is c full = subst (λ n. IsFull (own_clock n g) fault) (sym is) (subst (λ (k : Client). IsFull (held_clock (held_set g.first.operations) k.0) fault) c full)

pub second_full : (number : ℕ) (g : Three) (client : Client) (fault : GenerateFault) → number ≡ 1 → client ≡ record { 0 = 2 } →
    IsFull (held_clock (held_set g.second.operations) client.0) fault → IsFull (own_clock number g) fault
second_full number g client fault is c full = subst (λ n. IsFull (own_clock n g) fault) (sym is) (subst (λ (k : Client). IsFull (held_clock (held_set g.second.operations) k.0) fault) c full)

pub third_full : (number : ℕ) (g : Three) (client : Client) (fault : GenerateFault) → number ≡ 2 → client ≡ record { 0 = 3 } →
    IsFull (held_clock (held_set g.third.operations) client.0) fault → IsFull (own_clock number g) fault
third_full number g client fault is c full = subst (λ n. IsFull (own_clock n g) fault) (sym is) (subst (λ (k : Client). IsFull (held_clock (held_set g.third.operations) k.0) fault) c full)

pub client_in_range : (client : Client) (n : ℕ) → client ≡ record { 0 = n } → n < 4 → IsClient client
client_in_range client n e lt = subst (λ (k : Client). IsClient k) (sym e) (omega (arith, lt))

-- a turn changes no client
pub clients_kept : (a b c x y z : Kept) → AreClients a b c → x.client ≡ a.client → y.client ≡ b.client → z.client ≡ c.client → AreClients x y z
clients_kept a b c x y z are e f g = record { of_first = e ∙ are.of_first; of_second = f ∙ are.of_second; of_third = g ∙ are.of_third }

-- ---- handing on

other_at : (n : ℕ) (from to : Received) → n ≢ 0 → to ≡ (if nat_eq n 0 then passed from to else to)
other_at n from to other = go (nat_eq n 0) refl
  where
    go : (t : Bool) → nat_eq n 0 ≡ t → to ≡ (if t then passed from to else to)
    go true e = absurd (other (grind (arith, tests)))
    go false e = refl

pub passed_other : (step : ℕ) (from to : Received) → step % 10 ≢ 0 → to ≡ passed_at step from to
passed_other step from to other = other_at (step % 10) from to other

pub passed_tenth : (step : ℕ) (from to : Received) → step % 10 ≡ 0 → passed from to ≡ passed_at step from to
passed_tenth step from to tenth = ap (λ n. if nat_eq n 0 then passed from to else to) (sym tenth)

pub edited_plain : (client : Client) → IsClient client → (r : Received) → IsPlain r → (d : Draws) → IsAccepted client d r → (own : Received) → own ≡ edited client d r → IsPlain own
edited_plain client c r is d done own e = subst (λ (x : Received). IsPlain x) (sym e) (edit_plain client c r is d done)

pub no_memory : (clock : ℕ) (fault : GenerateFault) → fault ≡ NoMemory → IsFull clock fault
no_memory clock fault e = subst (λ (f : GenerateFault). IsFull clock f) (sym e) tt

-- ---- a round

module _ (a b c b1 : Received) (is : IsShared 1 2 3 a b c) (first : b1 ≡ passed a b) where
  one_done : IsShared 1 2 3 a b1 c
  one_done = subst (λ (x : Received). IsShared 1 2 3 a x c) (sym first) (shared_passed 1 2 3 a b c is)

  pub second_plain : IsPlain b1
  second_plain = one_done.two_plain

  pub third_plain : (c1 : Received) → c1 ≡ passed b1 c → IsPlain c1
  third_plain c1 second = subst (λ (x : Received). IsPlain x) (sym second) (shared_passed 2 3 1 b1 c a (shared_turned 1 2 3 a b1 c one_done)).two_plain

  pub round_taken : (c1 a1 : Received) → c1 ≡ passed b1 c → a1 ≡ passed c1 a →
      ◌≡◌ {A = Three} (record { first = a1; second = b1; third = c1 }) (rounded (record { first = a; second = b; third = c }))
  round_taken c1 a1 second third =
      let of_third : c1 ≡ passed (passed a b) c = second ∙ ap (λ (x : Received). passed x c) first in
      three_same a1 b1 c1 (passed (passed (passed a b) c) a) (passed a b) (passed (passed a b) c) (third ∙ ap (λ (x : Received). passed x a) of_third) first of_third

  pub round_shared : (c1 a1 : Received) → c1 ≡ passed b1 c → a1 ≡ passed c1 a → IsShared 1 2 3 a1 b1 c1
  round_shared c1 a1 second third = subst (λ (g : Three). AreShared g) (sym (round_taken c1 a1 second third)) (rounded_shared (record { first = a; second = b; third = c }) is)

-- ---- steps

module _ (s m : ℕ) (state : ℕ) (d : Draws) (one other : Three) (next : m ≡ suc s) (state_is : state ≡ (generation s).state) (one_is : one ≡ (generation s).three) (d_is : d ≡ draws_from state) where
  drawn_is : d ≡ draws_from (generation s).state
  drawn_is = d_is ∙ ap draws_from state_is

  pub state_then : d.state ≡ (generation m).state
  state_then = ap (λ (x : Draws). x.state) drawn_is ∙ sym (ap (λ k. (generation k).state) next)

  pub three_then : other ≡ turned (m % 3) m d one → other ≡ (generation m).three
  three_then e = e ∙ ap (λ (g : Three). turned (m % 3) m d g) one_is
      ∙ ap (λ (x : Draws). turned (m % 3) m x (generation s).three) drawn_is
      ∙ ap (λ k. turned (k % 3) k (draws_from (generation s).state) (generation s).three) next
      ∙ sym (ap (λ k. (generation k).three) next)

  pub accepted_then : AreAccepted s → IsTurnAccepted (m % 3) d one → AreAccepted m
  accepted_then before done = subst (λ k. AreAccepted k) (sym next) (
    before,
    subst (λ (g : Three). IsTurnAccepted (suc s % 3) (draws_from (generation s).state) g) one_is
        (subst (λ (x : Draws). IsTurnAccepted (suc s % 3) x one) drawn_is
        (subst (λ k. IsTurnAccepted (k % 3) d one) next done)),
  )

stops_at : (s n clock : ℕ) (fault : GenerateFault) → clock ≤ s → s < n → IsFull clock fault → IsStop n fault
stops_at s n clock NoMemory low lt full = tt
stops_at s n clock (Refused fault) low lt full = omega (arith, low, lt, full)

-- an edit is refused only behind very many steps
pub step_stops : (s n number : ℕ) (one : Three) (fault : GenerateFault) → one ≡ (generation s).three → AreAccepted s → s < n → IsFull (own_clock number one) fault → IsStop n fault
step_stops s n number one fault one_is accepted lt full =
    stops_at s n (own_clock number one) fault (subst (λ (g : Three). own_clock number g ≤ s) (sym one_is) (own_clocks s accepted number)) lt full

pub memory_stops : (n : ℕ) (fault : GenerateFault) → fault ≡ NoMemory → IsStop n fault
memory_stops n fault e = subst (λ (f : GenerateFault). IsStop n f) (sym e) tt
