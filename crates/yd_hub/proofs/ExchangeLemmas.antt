-- After the reply of another a replica has each id and deletion that the other had; after one each way both have the same ids.
use Rattle.std.proofs.Common.{◌≡◌, ◌⊎◌, ℕ, ◌≤◌, Bool, true, false, List, [], ◌∷◌, inl, inr, refl, sym, ◌∙◌, subst, arith}
use Rattle.yd_words.specs.Each.{Each}
use Rattle.yd_words.specs.Member.{IsIn}
use Rattle.yd_words.proofs.TestLemmas.{split, test_fails}
use Rattle.yd_ids.specs.declared.id.Client.{Client}
use Rattle.yd_ids.specs.declared.id.Id.{Id}
use Rattle.yd_ids.specs.Vector.{clock_of}
use Rattle.yd_ids.proofs.UnionLemmas.{union_ids}
use Rattle.yd_ops.specs.Operation.{Operation, operations_of}
use Rattle.yd_ops.specs.Valid.{IsValidUpdate}
use Rattle.yd_ops.specs.Value.{UpdateValue}
use Rattle.yd_ops.specs.Received.{has_operation, groups_of, Received, received_after, received_more}
use Rattle.yd_ops.specs.Deletes.{deletes_of}
use Rattle.yd_ops.specs.ReceivedLaw.{IsReceived}
use Rattle.yd_ops.proofs.GroupLemmas.{update_groups}
use Rattle.yd_ops.proofs.ReceivedLemmas.{after_is_received}
use Rattle.yd_ops.proofs.CoveringLemmas.{groups_cover}
use Rattle.yd_ops.proofs.OneOfLemmas.{operation_with, id_there, id_is_there}
use Rattle.yd_ops.proofs.WritingLemmas.{written_alone}
use Rattle.yd_meaning.specs.Held.{held_set, held_clock}
use Rattle.yd_meaning.specs.Law.{IsCompleted}
use Rattle.yd_meaning.proofs.VectorLemmas.{held_below}
use Rattle.yd_meaning.proofs.GrowingLemmas.{held_grows_after}
use Rattle.yd_meaning.proofs.ReplyLemmas.{completed}
use Rattle.yd_hub.specs.Answers.{Answers, AreAnswersOf, TellsNews, BringsNews}
use Rattle.yd_hub.specs.ExchangeLaw.{HasBoth, IsSideOf}
use Rattle.yd_hub.proofs.IdsLemmas.{after_ids}

-- ---- the state vector never falls

pub clock_grows : (r s : Received) → IsReceived r → IsReceived s → ((x : Id) → has_operation (held_set r.operations) x ≡ true → has_operation (held_set s.operations) x ≡ true) →
    (client : ℕ) → held_clock (held_set r.operations) client ≤ held_clock (held_set s.operations) client
clock_grows r s one two stays client = elim (split (held_clock (held_set r.operations) client) (held_clock (held_set s.operations) client)) [
  | inl le ↦ le
  | inr lt ↦ absurd (let c : Client = record { 0 = client } in let k = held_clock (held_set s.operations) client in
      let below = (held_below s.operations two.written c k).0 (stays (record { client = c; clock = k }) ((held_below r.operations one.written c k).1 lt)) in omega (arith, below))
]

pub more_is_received : (r : Received) (updates : List UpdateValue) → IsReceived r → Each IsValidUpdate updates → IsReceived (received_more r updates)
more_is_received r [] is valid = is
more_is_received r (u ∷ us) is valid = more_is_received (received_after r u) us (after_is_received r u is valid.0) valid.1

pub held_stays : (r : Received) (updates : List UpdateValue) → IsReceived r → Each IsValidUpdate updates → (x : Id) → has_operation (held_set r.operations) x ≡ true →
    has_operation (held_set (received_more r updates).operations) x ≡ true
held_stays r [] is valid x e = e
held_stays r (u ∷ us) is valid x e = held_stays (received_after r u) us (after_is_received r u is valid.0) valid.1 x (held_grows_after r u is x e)

-- ---- a reply to a vector of before

pub reply_completes : (r other : Received) (asked answered : Answers) (between : List UpdateValue) → IsReceived r → Each IsValidUpdate between → AreAnswersOf r asked → AreAnswersOf other answered →
    IsCompleted other (received_after (received_more r between) (answered.reply asked.vector)) (clock_of asked.vector)
reply_completes r other asked answered between is valid ask answer =
    let later = received_more r between in
    let is_later = more_is_received r between is valid in
    completed other later (answered.reply asked.vector) (clock_of asked.vector) is_later (answer.sent asked.vector) (λ x h. (answer.deleted asked.vector x).1 (answer.named x h))
    (λ client. let grows = clock_grows r later is is_later (held_stays r between is valid) client in omega (arith, ask.counts client, grows))

-- ---- one exchange in each direction

pub takes_both : (one other other_then : Received) (asking answers : Answers) → IsReceived one → AreAnswersOf one asking → IsSideOf other one other_then → AreAnswersOf other_then answers →
    HasBoth one other (received_after one (answers.reply asking.vector))
takes_both one other other_then asking answers is ask side answer x = (there, back)
  where
    there : has_operation (received_after one (answers.reply asking.vector)).operations x ≡ true → (has_operation one.operations x ≡ true) ⊎ (has_operation other.operations x ≡ true)
    there e = elim ((after_ids one (answers.reply asking.vector) is x).0 e) [
      | inl f ↦ inl f
      | inr f ↦ let (o, i, same) = operation_with (operations_of (answers.reply asking.vector)) x f in
          elim (side.no_others x (id_there other_then.operations o x (answer.only asking.vector o i) same)) [ inl g ↦ inr g | inr g ↦ inl g ]
    ]

    back : (has_operation one.operations x ≡ true) ⊎ (has_operation other.operations x ≡ true) → has_operation (received_after one (answers.reply asking.vector)).operations x ≡ true
    back (inl f) = (after_ids one (answers.reply asking.vector) is x).1 (inl f)
    back (inr f) = (reply_completes one other_then asking answers [] is tt ask answer).ids x (side.own_ids x f)

pub both_same : (one other r s : Received) → HasBoth one other r → HasBoth other one s → (x : Id) → has_operation r.operations x ≡ has_operation s.operations x
both_same one other r s f g x = alike (has_operation r.operations x) (has_operation s.operations x)
    (λ e. (g x).1 (turned ((f x).0 e))) (λ e. (f x).1 (turned ((g x).0 e)))
  where
    turned : {A B : Type 0} → A ⊎ B → B ⊎ A
    turned (inl a) = inr a
    turned (inr b) = inl b

    alike : (t u : Bool) → (t ≡ true → u ≡ true) → (u ≡ true → t ≡ true) → t ≡ u
    alike true u a b = sym (a refl)
    alike false true a b = b refl
    alike false false a b = refl

pub both_alike : (one other r s : Received) → IsReceived r → IsReceived s → HasBoth one other r → HasBoth other one s →
    ((o p : Operation) → IsIn o r.operations → IsIn p s.operations → o.id ≡ p.id → o ≡ p) → r.operations ≡ s.operations
both_alike one other r s is_r is_s f g alike = written_alone r.operations s.operations is_r.written is_s.written
    (λ o i. let (p, j, same) = operation_with s.operations o.id (sym (both_same one other r s f g o.id) ∙ id_is_there r.operations o i) in
    subst (λ q. IsIn q s.operations) (sym (alike o p i j (sym same))) j)
    (λ p j. let (o, i, same) = operation_with r.operations p.id (both_same one other r s f g p.id ∙ id_is_there s.operations p j) in
    subst (λ q. IsIn q r.operations) (alike o p i j same) i)

-- ---- what comes again

pub again_no_news : (r : Received) (update : UpdateValue) (answers : Answers) → IsReceived r → AreAnswersOf (received_after r update) answers → TellsNews (received_after r update) answers → answers.is_news update ≡ false
again_no_news r update answers is answer news = test_fails (answers.is_news update) (λ e. none ((news update).0 e))
  where
    none : BringsNews (received_after r update) answers.deletes update → ⊥
    none (inl (o, i, new)) = new (groups_cover (groups_of update) r.operations is.written o (subst (λ os. IsIn o os) (sym (update_groups update)) i))
    none (inr (x, h, new)) = new (answer.named x ((union_ids r.deletes (deletes_of update) x).1 (inr h)))
