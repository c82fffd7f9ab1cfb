-- One exchange in each direction, whole: the same ids, and where they are spelled alike, the same document.
use Rattle.std.proofs.Common.{◌≡◌, ◌⊎◌, inl, inr, ◌≤◌, sym, ◌∙◌, subst}
use Rattle.yd_words.specs.Member.{IsIn}
use Rattle.yd_ids.specs.declared.id.Id.{Id}
use Rattle.yd_ids.specs.Set.{HasId}
use Rattle.yd_ids.proofs.UnionLemmas.{union_ids}
use Rattle.yd_ops.specs.Operation.{Operation}
use Rattle.yd_ops.specs.Received.{has_operation, Received, received_after}
use Rattle.yd_ops.specs.Deletes.{deletes_of}
use Rattle.yd_ops.specs.ReceivedLaw.{IsReceived}
use Rattle.yd_ops.proofs.ReceivedLemmas.{after_is_received}
use Rattle.yd_meaning.specs.Held.{held_set}
use Rattle.yd_meaning.specs.Order.{AreHonest}
use Rattle.yd_meaning.specs.Law.{ShowAlike}
use Rattle.yd_meaning.proofs.HeldLemmas.{held_needs}
use Rattle.yd_meaning.proofs.PartLemmas.{part_stays}
use Rattle.yd_meaning.proofs.VectorLemmas.{held_written}
use Rattle.yd_hub.specs.Answers.{Answers, AreAnswersOf}
use Rattle.yd_hub.specs.ExchangeLaw.{HasBoth, IsSideOf, AddsDerived, IsPartOfNow, LowersNoHeld, IsExchange}
use Rattle.yd_hub.proofs.ExchangeLemmas.{takes_both, both_same, both_alike}
use Rattle.yd_hub.proofs.KeepingLemmas.{held_stay}
use Rattle.yd_hub.proofs.SameLemmas.{documents_meet, reply_derives}

part_of_itself : (r : Received) → IsReceived r → IsPartOfNow r r
part_of_itself r is = record {
  held = record { written = held_written r.operations is.written; within = λ q i. i; closed = λ q i x j. held_needs r.operations q i x j };
  deletes = λ x h. h;
}

side_before : (own other : Received) → IsSideOf own other own
side_before own other = record { own_ids = λ x e. e; no_others = λ x e. inl e }

side_after : (own other r : Received) → HasBoth own other r → IsSideOf own other r
side_after own other r both = record { own_ids = λ x e. (both x).1 (inl e); no_others = λ x e. (both x).0 e }

lowers_none : (r from : Received) (asking answers : Answers) → AreAnswersOf r asking → AreAnswersOf from answers → LowersNoHeld r (answers.reply asking.vector)
lowers_none r from asking answers ask answer o i = elim (answer.behind asking.vector o i) [
  | inl le ↦ inl (subst (λ k. k ≤ o.id.clock) (ask.counts o.id.client.0) le)
  | inr full ↦ inr full
]

module _ (one other one_then other_then one_last other_last : Received) (asking_one asking_other answers_one answers_other : Answers)
    (ex : IsExchange one other one_then other_then one_last other_last asking_one asking_other answers_one answers_other) where
  -- the one takes from one that answers, which is a side of the exchange
  one_both : IsSideOf other one other_then → HasBoth one other one_last
  one_both side = subst (λ r. HasBoth one other r) (sym ex.one_takes) (takes_both one other other_then asking_one answers_other ex.received.0 ex.asking.0 side ex.answering.1)

  other_both : IsSideOf one other one_then → HasBoth other one other_last
  other_both side = subst (λ r. HasBoth other one r) (sym ex.other_takes) (takes_both other one one_then asking_other answers_one ex.received.1 ex.asking.1 side ex.answering.0)

  one_side : IsSideOf one other one_then
  one_side = elim ex.one_answers [
    | inl e ↦ subst (λ r. IsSideOf one other r) (sym e) (side_before one other)
    | inr both ↦ subst (λ r. IsSideOf one other r) (sym both.0) (side_after one other one_last (one_both (subst (λ r. IsSideOf other one r) (sym both.1) (side_before other one))))
  ]

  other_side : IsSideOf other one other_then
  other_side = elim ex.other_answers [
    | inl e ↦ subst (λ r. IsSideOf other one r) (sym e) (side_before other one)
    | inr both ↦ subst (λ r. IsSideOf other one r) (sym both.0) (side_after other one other_last (other_both (subst (λ r. IsSideOf one other r) (sym both.1) (side_before one other))))
  ]

  one_is : IsReceived one_last
  one_is = subst (λ r. IsReceived r) (sym ex.one_takes) (after_is_received one (answers_other.reply asking_one.vector) ex.received.0 (ex.answering.1.valid asking_one.vector))

  other_is : IsReceived other_last
  other_is = subst (λ r. IsReceived r) (sym ex.other_takes) (after_is_received other (answers_one.reply asking_other.vector) ex.received.1 (ex.answering.0.valid asking_other.vector))

  -- what each had when it answered is a part of what it has at the end
  one_part : IsPartOfNow one_then one_last
  one_part = elim ex.one_answers [
    | inl e ↦ subst (λ r. IsPartOfNow r one_last) (sym e) (subst (λ r. IsPartOfNow one r) (sym ex.one_takes)
        (held_stay one ex.received.0 ex.lists.0 (answers_other.reply asking_one.vector) (lowers_none one other_then asking_one answers_other ex.asking.0 ex.answering.1)))
    | inr both ↦ subst (λ r. IsPartOfNow r one_last) (sym both.0) (part_of_itself one_last one_is)
  ]

  other_part : IsPartOfNow other_then other_last
  other_part = elim ex.other_answers [
    | inl e ↦ subst (λ r. IsPartOfNow r other_last) (sym e) (subst (λ r. IsPartOfNow other r) (sym ex.other_takes)
        (held_stay other ex.received.1 ex.lists.1 (answers_one.reply asking_other.vector) (lowers_none other one_then asking_other answers_one ex.asking.1 ex.answering.0)))
    | inr both ↦ subst (λ r. IsPartOfNow r other_last) (sym both.0) (part_of_itself other_last other_is)
  ]

  -- what one was told at first, it still was when it answered, and so the other is told
  told_then : (own now last : Received) (asking answers : Answers) → (now ≡ own) ⊎ (now ≡ last) → last ≡ received_after own (answers.reply asking.vector) → (x : Id) → HasId own.deletes x → HasId now.deletes x
  told_then own now last asking answers (inl e) takes x h = subst (λ (r : Received). HasId r.deletes x) (sym e) h
  told_then own now last asking answers (inr e) takes x h = subst (λ (r : Received). HasId r.deletes x) (sym (e ∙ takes)) ((union_ids own.deletes (deletes_of (answers.reply asking.vector)) x).1 (inl h))

  told : (own now last : Received) (asking answers : Answers) → AreAnswersOf now answers → last ≡ received_after own (answers.reply asking.vector) → (x : Id) → HasId now.deletes x → HasId last.deletes x
  told own now last asking answers answer takes x h = subst (λ (r : Received). HasId r.deletes x) (sym takes)
      ((union_ids own.deletes (deletes_of (answers.reply asking.vector)) x).1 (inr ((answer.deleted asking.vector x).1 (answer.named x h))))

  some_of : {A B C : Type 0} → A ⊎ (B × C) → A ⊎ B
  some_of (inl a) = inl a
  some_of (inr b) = inr b.0

  one_derived : AreHonest (held_set other_then.operations) → AddsDerived one_last other_last other_then
  one_derived honest = subst (λ r. AddsDerived r other_last other_then) (sym ex.one_takes) (reply_derives one other_last other_then asking_one.vector answers_other ex.answering.1
      (λ x h. told other one_then other_last asking_other answers_one ex.answering.0 ex.other_takes x (told_then one one_then one_last asking_one answers_other (some_of ex.one_answers) ex.one_takes x h))
      other_part.deletes (ex.knowing.1 honest))

  other_derived : AreHonest (held_set one_then.operations) → AddsDerived other_last one_last one_then
  other_derived honest = subst (λ r. AddsDerived r one_last one_then) (sym ex.other_takes) (reply_derives other one_last one_then asking_other.vector answers_one ex.answering.0
      (λ x h. told one other_then one_last asking_one answers_other ex.answering.1 ex.one_takes x (told_then other other_then other_last asking_other answers_one (some_of ex.other_answers) ex.other_takes x h))
      one_part.deletes (ex.knowing.0 honest))

  -- ---- for callers

  pub whole_ids : (x : Id) → has_operation one_last.operations x ≡ has_operation other_last.operations x
  whole_ids x = both_same one other one_last other_last (one_both other_side) (other_both one_side) x

  pub whole_shown : ((o p : Operation) → IsIn o one_last.operations → IsIn p other_last.operations → o.id ≡ p.id → o ≡ p) → AreHonest (held_set one_last.operations) → ShowAlike one_last other_last
  whole_shown alike honest = documents_meet one_last other_last one_then other_then one_is other_is same honest one_part other_part
      (one_derived ((part_stays other_last.operations other_is.written (held_set other_then.operations) other_part.held).honest honest_too))
      (other_derived ((part_stays one_last.operations one_is.written (held_set one_then.operations) one_part.held).honest honest))
    where
      same : one_last.operations ≡ other_last.operations
      same = both_alike one other one_last other_last one_is other_is (one_both other_side) (other_both one_side) alike

      honest_too : AreHonest (held_set other_last.operations)
      honest_too = subst (λ os. AreHonest (held_set os)) same honest
