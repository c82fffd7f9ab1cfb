-- What is received stays as it has to be.
use Rattle.std.proofs.Common.{◌≡◌, ◌<◌, ℕ, zero, suc, List, [], ◌∷◌, inl, inr, refl, sym, ap, ◌∙◌, subst, arith}
use Rattle.yd_words.specs.Each.{Each}
use Rattle.yd_words.specs.Member.{IsIn}
use Rattle.yd_ids.specs.declared.id.Span.{Span}
use Rattle.yd_ids.specs.Set.{HasId, union_of}
use Rattle.yd_ids.proofs.UnionLemmas.{union_maximal, union_ids}
use Rattle.yd_ops.specs.Operation.{Operation, gone_operation, level_of, as_level}
use Rattle.yd_ops.specs.Value.{UpdateValue}
use Rattle.yd_ops.specs.Valid.{IsValidUpdate}
use Rattle.yd_ops.specs.Received.{lowered, with_groups, groups_of, Received, nothing_received, received_after, received_more, received_set}
use Rattle.yd_ops.specs.Deletes.{deletes_of}
use Rattle.yd_ops.specs.ReceivedLaw.{IsReceived}
use Rattle.yd_ops.proofs.LevelLemmas.{as_level-id, as_level-level, lowered_either}
use Rattle.yd_ops.proofs.MendingLemmas.{paired_has, has_paired}
use Rattle.yd_ops.proofs.GroupLemmas.{update_groups, update_written, update_rights, update_partners, update_bare, deletes_of-ids, deletes_of-maximal}
use Rattle.yd_ops.proofs.TurnLemmas.{groups_written, groups_paired, groups_hold, groups_rights}

pub nothing_is_received : IsReceived nothing_received
nothing_is_received = record {
  written = tt;
  paired = record { high = λ o i e. absurd i; low = λ o i e. absurd i };
  rights = λ high low i j e. absurd i;
  bare = λ o i e. absurd i;
  maximal = tt;
  named = λ x less. absurd less.1;
}

-- the spans name the operation, where it is spelled less than full
abbrev IsNamed : List Span → Operation → Type 0
IsNamed spans o = level_of o.content < 2 → HasId spans o.id

-- a gone one stays bare
bare_lowers : (p o : Operation) → (level_of p.content ≡ 0 → p ≡ gone_operation p.id) → level_of (lowered p o).content ≡ 0 → lowered p o ≡ gone_operation (lowered p o).id
bare_lowers p o bare none = elim (lowered_either p o) [
  | inr stays ↦ subst (λ (q : Operation). q ≡ gone_operation q.id) (sym stays.1) (bare (sym (ap (λ (q : Operation). level_of q.content) stays.1) ∙ none))
  | inl falls ↦ subst (λ (q : Operation). q ≡ gone_operation q.id) (sym falls.1)
      (go (level_of o.content) (sym (as_level-level (level_of o.content) p falls.0) ∙ sym (ap (λ (q : Operation). level_of q.content) falls.1) ∙ none))
]
  where
    go : (level : ℕ) → level ≡ 0 → as_level level p ≡ gone_operation (as_level level p).id
    go zero e = refl
    go (suc level) e = absurd (omega (arith, e))

pub after_is_received : (r : Received) (update : UpdateValue) → IsReceived r → IsValidUpdate update → IsReceived (received_after r update)
after_is_received r update is valid = record {
  written = groups_written (groups_of update) r.operations is.written;
  paired = has_paired (with_groups (groups_of update) r.operations) (groups_paired (groups_of update) r.operations (paired_has r.operations is.paired));
  rights = groups_rights (groups_of update) r.operations (update_written update) (update_partners update valid) (update_rights update) is.written (paired_has r.operations is.paired) is.rights;
  bare = groups_hold (λ o. level_of o.content ≡ 0 → o ≡ gone_operation o.id) (λ p o bare also id. bare_lowers p o bare) (λ o half bare none. absurd (omega (arith, none)))
      (groups_of update) r.operations is.written (λ o i. update_bare update o (subst (λ os. IsIn o os) (update_groups update) i)) is.bare;
  maximal = union_maximal r.deletes (deletes_of update) is.maximal (deletes_of-maximal update valid);
  named = λ x less. let (o, i, e, low) = less in subst (λ y. HasId (union_of r.deletes (deletes_of update)) y) e (names o i low);
}
  where
    lowers : (p o : Operation) → IsNamed (union_of r.deletes (deletes_of update)) p → IsNamed (union_of r.deletes (deletes_of update)) o → p.id ≡ o.id →
        IsNamed (union_of r.deletes (deletes_of update)) (lowered p o)
    lowers p o named also id low = elim (lowered_either p o) [
      | inr stays ↦ subst (λ (q : Operation). HasId (union_of r.deletes (deletes_of update)) q.id) (sym stays.1) (named (omega (arith, low, ap (λ (q : Operation). level_of q.content) stays.1)))
      | inl falls ↦ subst (λ y. HasId (union_of r.deletes (deletes_of update)) y) (sym (ap (λ (q : Operation). q.id) falls.1 ∙ as_level-id (level_of o.content) p ∙ id))
          (also (omega (arith, low, ap (λ (q : Operation). level_of q.content) falls.1, as_level-level (level_of o.content) p falls.0)))
    ]

    names : (o : Operation) → IsIn o (with_groups (groups_of update) r.operations) → IsNamed (union_of r.deletes (deletes_of update)) o
    names = groups_hold (IsNamed (union_of r.deletes (deletes_of update))) lowers (λ o half named low. absurd (omega (arith, low))) (groups_of update) r.operations is.written
        (λ o i low. (union_ids r.deletes (deletes_of update) o.id).1 (inr ((deletes_of-ids update o.id).1 (inl (o, subst (λ os. IsIn o os) (update_groups update) i, refl, low)))))
        (λ o i low. (union_ids r.deletes (deletes_of update) o.id).1 (inl (is.named o.id (o, i, refl, low))))

pub one_received : (r s : Received) → r.operations ≡ s.operations → r.deletes ≡ s.deletes → r ≡ s
one_received r s operations deletes = λ i. record { operations = operations i; deletes = deletes i }

more_is_received : (r : Received) (updates : List UpdateValue) → IsReceived r → Each IsValidUpdate updates → IsReceived (received_more r updates)
more_is_received r [] is valid = is
more_is_received r (update ∷ updates) is valid = more_is_received (received_after r update) updates (after_is_received r update is valid.0) valid.1

-- what is received of valid updates is as it has to be
pub set_is_received : (updates : List UpdateValue) → Each IsValidUpdate updates → IsReceived (received_set updates)
set_is_received updates valid = more_is_received nothing_received updates nothing_is_received valid
