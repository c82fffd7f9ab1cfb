-- Replies: what they have, and what the asker has behind them.
use Rattle.std.proofs.Common.{◌≡◌, ℕ, ◌≤◌, List, inl, inr, sym, subst}
use Rattle.yd_words.specs.Member.{IsIn}
use Rattle.yd_ids.specs.Set.{AreMaximal, HasId, union_of}
use Rattle.yd_ids.specs.declared.id.Id.{Id}
use Rattle.yd_ids.specs.declared.id.Span.{Span}
use Rattle.yd_ids.proofs.UnionLemmas.{union_ids, union_maximal}
use Rattle.yd_ops.specs.Operation.{operations_of}
use Rattle.yd_ops.specs.Valid.{IsValidUpdate}
use Rattle.yd_ops.specs.Deletes.{SpellLess, deletes_of}
use Rattle.yd_ops.specs.ReceivedLaw.{IsReceived}
use Rattle.yd_ops.specs.Received.{Received, received_after}
use Rattle.yd_ops.proofs.GroupLemmas.{deletes_of-ids}
use Rattle.yd_meaning.specs.Held.{held_clock, held_set}
use Rattle.yd_meaning.specs.Law.{IsCompleted}
use Rattle.yd_meaning.proofs.ReplyLemmas.{completed}
use Rattle.yd_grouping.specs.Groupable.{AreGroupable}
use Rattle.yd_grouping.specs.Grouped.{IsGrouped}
use Rattle.yd_grouping.specs.Merged.{cut_of, reply_of}
use Rattle.yd_grouping.proofs.CutLemmas.{cut_groupable, cut_is}
use Rattle.yd_grouping.proofs.GroupedLemmas.{groupable-operations, grouping_grouped, grouping_valid}

pub reply-operations : (r : Received) (own : List Span) (vector : ℕ → ℕ) → AreGroupable r.operations → operations_of (reply_of r own vector) ≡ cut_of r.operations vector
reply-operations r own vector are = groupable-operations (cut_of r.operations vector) (union_of own r.deletes) (cut_groupable r.operations vector are)

pub reply_valid : (r : Received) (own : List Span) (vector : ℕ → ℕ) → AreGroupable r.operations → AreMaximal own → AreMaximal r.deletes → IsValidUpdate (reply_of r own vector)
reply_valid r own vector are maximal also = grouping_valid (cut_of r.operations vector) (union_of own r.deletes) (cut_groupable r.operations vector are)
    (union_maximal own r.deletes maximal also)

pub reply_grouped : (r : Received) (own : List Span) (vector : ℕ → ℕ) → AreGroupable r.operations → IsGrouped (reply_of r own vector)
reply_grouped r own vector are = grouping_grouped (cut_of r.operations vector) (union_of own r.deletes) (cut_groupable r.operations vector are)

-- what the asker has after a reply
pub reply_completes : (other r : Received) (own : List Span) (vector : ℕ → ℕ) → AreGroupable other.operations → IsReceived r →
    ((client : ℕ) → vector client ≤ held_clock (held_set r.operations) client) →
    IsCompleted other (received_after r (reply_of other own vector)) vector
reply_completes other r own vector are is low = completed other r (reply_of other own vector) vector is
    (λ o i le. subst (λ os. IsIn o os) (sym (reply-operations other own vector are)) ((cut_is other.operations vector o).1 (i, inl le)))
    (λ x h. (deletes_of-ids (reply_of other own vector) x).1 (inr ((union_ids own other.deletes x).1 (inr h))))
    low

-- and the answerer's own delete set is there
pub reply_own : (other r : Received) (own : List Span) (vector : ℕ → ℕ) (x : Id) → HasId own x → HasId (received_after r (reply_of other own vector)).deletes x
reply_own other r own vector x h = (union_ids r.deletes (deletes_of (reply_of other own vector)) x).1
    (inr ((deletes_of-ids (reply_of other own vector) x).1 (inr ((union_ids own other.deletes x).1 (inl h)))))

-- what the answerer has spelled less is among the reply's deletions
pub reply_named : (answerer : Received) (own : List Span) (vector : ℕ → ℕ) → IsReceived answerer → (x : Id) → SpellLess answerer.operations x →
    HasId (reply_of answerer own vector).deletes x
reply_named answerer own vector is x less = (union_ids own answerer.deletes x).1 (inr (is.named x less))
