-- A replica's answers are as the laws of synchronisation ask for.
use Rattle.std.proofs.Common.{◌≡◌, ◌⊎◌, ◌≤◌, ℕ, true, List, inl, inr, sym, subst}
use Rattle.yd_words.specs.Each.{Each}
use Rattle.yd_words.specs.Member.{IsIn}
use Rattle.yd_ids.specs.declared.id.Client.{Client}
use Rattle.yd_ids.specs.declared.id.Id.{Id}
use Rattle.yd_ids.specs.declared.id.Span.{Span}
use Rattle.yd_ids.specs.Set.{AreMaximal, HasId, union_of}
use Rattle.yd_ids.specs.Vector.{clock_of}
use Rattle.yd_ids.proofs.UnionLemmas.{union_ids}
use Rattle.yd_ops.specs.Operation.{Operation, level_of, operations_of}
use Rattle.yd_ops.specs.Valid.{IsValidUpdate}
use Rattle.yd_ops.specs.Value.{UpdateValue}
use Rattle.yd_ops.specs.ReceivedLaw.{IsReceived}
use Rattle.yd_ops.specs.Received.{Received, received_set}
use Rattle.yd_ops.proofs.GroupLemmas.{deletes_of-ids}
use Rattle.yd_ops.proofs.LevelLemmas.{half_full}
use Rattle.yd_ops.proofs.PartnerLemmas.{pair_half, partners_decide}
use Rattle.yd_ops.proofs.ReceivedLemmas.{set_is_received}
use Rattle.yd_meaning.specs.Document.{Document}
use Rattle.yd_meaning.specs.Held.{held_clock, held_set}
use Rattle.yd_grouping.specs.Law.{IsFrom}
use Rattle.yd_grouping.specs.Merged.{cut_of, reply_of}
use Rattle.yd_grouping.proofs.GroupableLemmas.{received_groupable}
use Rattle.yd_grouping.proofs.CutLemmas.{cut_has}
use Rattle.yd_grouping.proofs.ReplyLemmas.{reply-operations, reply_valid}
use Rattle.yd_hub.specs.Answers.{AreAnswersOf, TellsNews}
use Rattle.yd_hub.specs.ExchangeLaw.{KnowsDerived}
use Rattle.yd_hub.specs.OwnAnswers.{AreOwnDeletes, CanAnswer, answers_of}
use Rattle.yd_hub.proofs.NewsLemmas.{news_says}

pub are_answers : (r : Received) (vector : List (Client × ℕ)) (own : List Span) → CanAnswer r vector own → AreAnswersOf r (answers_of r vector own)
are_answers r vector own can = record {
  counts = can.counts;
  named = λ x h. (union_ids own r.deletes x).1 (inr h);
  valid = λ asked. reply_valid r own (clock_of asked) can.groupable can.maximal can.received.maximal;
  sent = λ asked o i le. subst (λ os. IsIn o os) (sym (operations asked)) ((cut_has r.operations (clock_of asked) o).1 (i, inl le));
  only = λ asked o i. (has asked o i).0;
  behind = λ asked o i. from asked o (has asked o i).1;
  deleted = λ asked x. (
    (λ h. elim ((deletes_of-ids (reply_of r own (clock_of asked)) x).0 h) [
      | inl (o, i, id, less) ↦ (union_ids own r.deletes x).1 (inr (can.received.named x
          (o, (has asked o i).0, id, less)))
      | inr named ↦ named
    ]),
    (λ h. (deletes_of-ids (reply_of r own (clock_of asked)) x).1 (inr h)),
  );
}
  where
    operations : (asked : List (Client × ℕ)) → operations_of (reply_of r own (clock_of asked)) ≡ cut_of r.operations (clock_of asked)
    operations asked = reply-operations r own (clock_of asked) can.groupable

    has : (asked : List (Client × ℕ)) (o : Operation) → IsIn o (operations_of (reply_of r own (clock_of asked))) → IsIn o r.operations × IsFrom r.operations (clock_of asked) o
    has asked o i = (cut_has r.operations (clock_of asked) o).0 (subst (λ os. IsIn o os) (operations asked) i)

    from : (asked : List (Client × ℕ)) (o : Operation) → IsFrom r.operations (clock_of asked) o → (clock_of asked o.id.client.0 ≤ o.id.clock) ⊎ (level_of o.content ≡ 2)
    from asked o (inl le) = inl le
    from asked o (inr (p, j, pair, at)) = inr (half_full o.content (pair_half p o (inr ((partners_decide o p).0 pair))))

pub tells_news : (r : Received) (vector : List (Client × ℕ)) (own : List Span) → IsReceived r → TellsNews r (answers_of r vector own)
tells_news r vector own is update = news_says r (union_of own r.deletes) update is

-- what is received of valid updates can be answered with
pub can_answer : (updates : List UpdateValue) (vector : List (Client × ℕ)) (own : List Span) → Each IsValidUpdate updates → AreMaximal own →
    ((client : ℕ) → clock_of vector client ≡ held_clock (held_set (received_set updates).operations) client) → CanAnswer (received_set updates) vector own
can_answer updates vector own valid maximal counts = record {
  received = set_is_received updates valid;
  groupable = received_groupable updates valid;
  counts = counts;
  maximal = maximal;
}

pub knows_derived : (r : Received) (vector : List (Client × ℕ)) (own : List Span) → AreOwnDeletes own r → KnowsDerived r (answers_of r vector own)
knows_derived r vector own are honest x h = elim ((union_ids own r.deletes x).0 h) [
  | inl i ↦ inr (subst (λ (d : Document). d.deleted x ≡ true) (are.is.defined honest) ((are.deletes x).0 i))
  | inr told ↦ inl told
]
