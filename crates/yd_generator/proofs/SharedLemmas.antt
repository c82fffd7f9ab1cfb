-- Three replicas that have letters of one another: edits and replies keep them so, and two rounds make them one.
use Rattle.std.proofs.Common.{◌≡◌, ℕ, zero, suc, ◌%◌, Bool, true, false, nat_eq, inl, inr, refl, sym, ap, ◌∙◌, subst, arith}
use Rattle.std.specs.Prelude.{if◌then◌else◌}
use Rattle.yd_words.specs.Member.{IsIn}
use Rattle.yd_ids.specs.declared.id.Client.{Client}
use Rattle.yd_ids.specs.declared.id.Id.{Id}
use Rattle.yd_ids.specs.Id.{IsClient}
use Rattle.yd_ids.specs.Set.{HasId}
use Rattle.yd_ids.proofs.UnionLemmas.{sets_same}
use Rattle.yd_ops.specs.Operation.{Operation}
use Rattle.yd_ops.specs.Received.{Received}
use Rattle.yd_ops.proofs.ReceivedLemmas.{one_received}
use Rattle.yd_ops.proofs.WritingLemmas.{written_agrees, written_alone}
use Rattle.yd_generator.specs.declared.draws.Draws.{Draws}
use Rattle.yd_generator.specs.Generated.{Three, edited, passed, passed_at, rounded, turned}
use Rattle.yd_generator.specs.Law.{AreAlike, AreEqual, IsAccepted, IsTurnAccepted}
use Rattle.yd_generator.specs.Plain.{AreShared, IsPlain, IsShared}
use Rattle.yd_generator.proofs.EditLemmas.{edit_own, edit_plain, edit_stays}
use Rattle.yd_generator.proofs.PassLemmas.{pass_answerer, pass_asker, pass_deletes, pass_of, pass_plain}

module _ (own next last : ℕ) (a b c : Received) (is : IsShared own next last a b c) where
  -- each is the first in its turn
  pub shared_turned : IsShared next last own b c a
  shared_turned = record {
    apart = (is.apart.1, is.apart.2, is.apart.0);
    one_plain = is.two_plain;
    two_plain = is.three_plain;
    three_plain = is.one_plain;
    of_one = is.of_two;
    of_two = is.of_three;
    of_three = is.of_one;
  }

  -- two of one id are one
  pub shared_same : (o p : Operation) → IsIn o a.operations → IsIn p b.operations → o.id ≡ p.id → o ≡ p
  shared_same o p i j e = elim (is.of_one o i) [
    | inl mine ↦ elim (is.of_two p j) [
      | inl his ↦ absurd (is.apart.0 (sym mine ∙ client ∙ his))
      | inr others ↦ elim others [
        | inl third ↦ absurd (is.apart.2 (sym third.0 ∙ sym client ∙ mine))
        | inr first ↦ written_agrees a.operations is.one_plain.received.written o p i first.1 e
      ]
    ]
    | inr others ↦ elim others [
      | inl second ↦ written_agrees b.operations is.two_plain.received.written o p second.1 j e
      | inr third ↦ elim (is.of_two p j) [
        | inl his ↦ absurd (is.apart.1 (sym his ∙ sym client ∙ third.0))
        | inr back ↦ elim back [
          | inl third_too ↦ written_agrees c.operations is.three_plain.received.written o p third.1 third_too.1 e
          | inr first ↦ absurd (is.apart.2 (sym third.0 ∙ client ∙ first.0))
        ]
      ]
    ]
  ]
    where
      client : o.id.client.0 ≡ p.id.client.0
      client = ap (λ (x : Id). x.client.0) e

  -- the answerer is the first, and the asker the second
  pub shared_passed : IsShared own next last a (passed a b) c
  shared_passed = record {
    apart = is.apart;
    one_plain = is.one_plain;
    two_plain = pass_plain a b is.one_plain is.two_plain shared_same;
    three_plain = is.three_plain;
    of_one = λ o i. elim (is.of_one o i) [
      | inl mine ↦ inl mine
      | inr others ↦ inr (elim others [
        | inl second ↦ inl (second.0, pass_asker a b is.one_plain is.two_plain shared_same o second.1)
        | inr third ↦ inr third
      ])
    ];
    of_two = λ o i. elim (pass_of a b is.one_plain is.two_plain shared_same o i) [
      | inr j ↦ is.of_two o j
      | inl j ↦ elim (is.of_one o j) [
        | inl mine ↦ inr (inr (mine, j))
        | inr others ↦ elim others [ inl second ↦ inl second.0 | inr third ↦ inr (inl third) ]
      ]
    ];
    of_three = λ o i. elim (is.of_three o i) [
      | inl mine ↦ inl mine
      | inr others ↦ inr (elim others [
        | inl first ↦ inl first
        | inr second ↦ inr (second.0, pass_asker a b is.one_plain is.two_plain shared_same o second.1)
      ])
    ];
  }

  pub shared_passed_at : (step : ℕ) → IsShared own next last a (passed_at step a b) c
  shared_passed_at step = go (nat_eq (step % 10) 0)
    where
      go : (t : Bool) → IsShared own next last a (if t then passed a b else b) c
      go true = shared_passed
      go false = is

-- the first edits
pub shared_edited : (client : Client) (next last : ℕ) (a b c : Received) → IsShared client.0 next last a b c → IsClient client → (d : Draws) → IsAccepted client d a →
    IsShared client.0 next last (edited client d a) b c
shared_edited client next last a b c is in_range d done = record {
  apart = is.apart;
  one_plain = edit_plain client in_range a is.one_plain d done;
  two_plain = is.two_plain;
  three_plain = is.three_plain;
  of_one = λ o i. elim (edit_own client in_range a is.one_plain d done o i) [ inl mine ↦ inl mine | inr j ↦ is.of_one o j ];
  of_two = λ o i. elim (is.of_two o i) [
    | inl mine ↦ inl mine
    | inr others ↦ inr (elim others [
      | inl third ↦ inl third
      | inr first ↦ inr (first.0, edit_stays client in_range a is.one_plain d done o first.1)
    ])
  ];
  of_three = λ o i. elim (is.of_three o i) [
    | inl mine ↦ inl mine
    | inr others ↦ inr (elim others [
      | inl first ↦ inl (first.0, edit_stays client in_range a is.one_plain d done o first.1)
      | inr second ↦ inr second
    ])
  ];
}

-- ---- steps

-- a step keeps the three so
pub turned_shared : (number step : ℕ) (d : Draws) (g : Three) → AreShared g → IsTurnAccepted number d g → AreShared (turned number step d g)
turned_shared zero step d g is done =
    shared_passed_at 1 2 3 (edited (record { 0 = 1 }) d g.first) g.second g.third
    (shared_edited (record { 0 = 1 }) 2 3 g.first g.second g.third is (omega arith) d done) step
turned_shared (suc zero) step d g is done =
    shared_turned 3 1 2 _ _ _ (shared_turned 2 3 1 _ _ _
    (shared_passed_at 2 3 1 (edited (record { 0 = 2 }) d g.second) g.third g.first
    (shared_edited (record { 0 = 2 }) 3 1 g.second g.third g.first (shared_turned 1 2 3 g.first g.second g.third is) (omega arith) d done) step))
turned_shared (suc (suc number)) step d g is done =
    shared_turned 3 1 2 _ _ _
    (shared_passed_at 3 1 2 (edited (record { 0 = 3 }) d g.third) g.first g.second
    (shared_edited (record { 0 = 3 }) 1 2 g.third g.first g.second
    (shared_turned 2 3 1 g.second g.third g.first (shared_turned 1 2 3 g.first g.second g.third is)) (omega arith) d done) step)

-- ---- the end

-- one has what another has
record IsWithin (r s : Received) : Type 0 where
  operations : (o : Operation) → IsIn o r.operations → IsIn o s.operations
  deletes : (x : Id) → HasId r.deletes x → HasId s.deletes x

within_itself : (r : Received) → IsWithin r r
within_itself r = record { operations = λ o i. i; deletes = λ x h. h }

within_through : (r s t : Received) → IsWithin r s → IsWithin s t → IsWithin r t
within_through r s t one other = record { operations = λ o i. other.operations o (one.operations o i); deletes = λ x h. other.deletes x (one.deletes x h) }

within_both : (r s : Received) → IsPlain r → IsPlain s → IsWithin r s → IsWithin s r → r ≡ s
within_both r s r_is s_is one other = one_received r s
    (written_alone r.operations s.operations r_is.received.written s_is.received.written one.operations other.operations)
    (sets_same r.deletes s.deletes r_is.received.maximal s_is.received.maximal (λ x. (one.deletes x, other.deletes x)))

module _ (own next last : ℕ) (a b c : Received) (is : IsShared own next last a b c) where
  same : (o p : Operation) → IsIn o a.operations → IsIn p b.operations → o.id ≡ p.id → o ≡ p
  same = shared_same own next last a b c is

  answerer_within : IsWithin a (passed a b)
  answerer_within = record {
    operations = pass_answerer a b is.one_plain is.two_plain same;
    deletes = λ x h. (pass_deletes a b is.one_plain is.two_plain same x).1 (inr h);
  }

  asker_within : IsWithin b (passed a b)
  asker_within = record {
    operations = pass_asker a b is.one_plain is.two_plain same;
    deletes = λ x h. (pass_deletes a b is.one_plain is.two_plain same x).1 (inl h);
  }

  passed_within : (r : Received) → IsWithin a r → IsWithin b r → IsWithin (passed a b) r
  passed_within r one other = record {
    operations = λ o i. elim (pass_of a b is.one_plain is.two_plain same o i) [ inl j ↦ one.operations o j | inr j ↦ other.operations o j ];
    deletes = λ x h. elim ((pass_deletes a b is.one_plain is.two_plain same x).0 h) [ inl j ↦ other.deletes x j | inr j ↦ one.deletes x j ];
  }

-- a round keeps the three so; behind it the first has what each had, and each has what it had
module _ (a b c : Received) (is : IsShared 1 2 3 a b c) where
  abbrev b1 : Received
  b1 = passed a b

  abbrev c1 : Received
  c1 = passed b1 c

  abbrev a1 : Received
  a1 = passed c1 a

  shared_b : IsShared 1 2 3 a b1 c
  shared_b = shared_passed 1 2 3 a b c is

  turned_b : IsShared 2 3 1 b1 c a
  turned_b = shared_turned 1 2 3 a b1 c shared_b

  turned_c : IsShared 3 1 2 c1 a b1
  turned_c = shared_turned 2 3 1 b1 c1 a (shared_passed 2 3 1 b1 c a turned_b)

  pub round_shared : IsShared 1 2 3 a1 b1 c1
  round_shared = shared_turned 3 1 2 c1 a1 b1 (shared_passed 3 1 2 c1 a b1 turned_c)

  first_up : IsWithin a b1
  first_up = answerer_within 1 2 3 a b c is

  second_up : IsWithin b1 c1
  second_up = answerer_within 2 3 1 b1 c a turned_b

  third_up : IsWithin c1 a1
  third_up = answerer_within 3 1 2 c1 a b1 turned_c

  -- if the second and the third have no more than the first, neither has more behind a round
  all_within : IsWithin b a → IsWithin c a → (IsWithin a1 b1 × IsWithin b1 a1) × (IsWithin a1 c1 × IsWithin c1 a1)
  all_within low also =
      let b_low : IsWithin b1 a = passed_within 1 2 3 a b c is a (within_itself a) low in
      let c_low : IsWithin c1 a = passed_within 2 3 1 b1 c a turned_b a b_low also in
      let a_low : IsWithin a1 a = passed_within 3 1 2 c1 a b1 turned_c a c_low (within_itself a) in
      let a_b : IsWithin a1 b1 = within_through a1 a b1 a_low first_up in
      let b_a : IsWithin b1 a1 = within_through b1 c1 a1 second_up third_up in
      ((a_b, b_a), (within_through a1 b1 c1 a_b second_up, third_up))

  below_first : IsWithin b1 a1 × IsWithin c1 a1
  below_first = (within_through b1 c1 a1 second_up third_up, third_up)

-- behind two rounds the three have received one and the same
pub rounds_same : (g : Three) → AreShared g → ((rounded (rounded g)).first ≡ (rounded (rounded g)).second) × ((rounded (rounded g)).first ≡ (rounded (rounded g)).third)
rounds_same g is =
    let once = round_shared g.first g.second g.third is in
    let low = below_first g.first g.second g.third is in
    let twice = round_shared (rounded g).first (rounded g).second (rounded g).third once in
    let all = all_within (rounded g).first (rounded g).second (rounded g).third once low.0 low.1 in (
      within_both (rounded (rounded g)).first (rounded (rounded g)).second twice.one_plain twice.two_plain all.0.0 all.0.1,
      within_both (rounded (rounded g)).first (rounded (rounded g)).third twice.one_plain twice.three_plain all.1.0 all.1.1,
    )

-- and they are shared
pub rounded_shared : (g : Three) → AreShared g → AreShared (rounded g)
rounded_shared g is = round_shared g.first g.second g.third is

alike : (r s : Received) → r ≡ s → AreAlike r s
alike r s e = subst (λ t. AreAlike r t) e (record { text = refl; vector = λ client. refl; delete_set = λ x. refl })

pub rounds_equal : (g : Three) → AreShared g → AreEqual (rounded (rounded g))
rounds_equal g is = let both = rounds_same g is in record {
  second = alike (rounded (rounded g)).first (rounded (rounded g)).second both.0;
  third = alike (rounded (rounded g)).first (rounded (rounded g)).third both.1;
}
