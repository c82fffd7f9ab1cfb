-- Replies between plain replicas: behind one, the asker has what both had, and is plain.
use Rattle.std.proofs.Common.{◌≡◌, ℕ, ◌⊎◌, true, false, List, [], ◌∷◌, map, inl, inr, refl, sym, ap, ◌∙◌, subst, arith, true≢false}
use Rattle.std.specs.Prelude.{◌↔◌}
use Rattle.std.proofs.lemmas.Bool.{cases_Bool}
use Rattle.yd_words.specs.Member.{IsIn}
use Rattle.yd_words.proofs.TestLemmas.{split}
use Rattle.yd_ids.specs.declared.id.Id.{Id}
use Rattle.yd_ids.specs.Set.{AreMaximal, HasId}
use Rattle.yd_ids.proofs.UnionLemmas.{union_ids}
use Rattle.yd_ops.specs.Deletes.{SpellLess, deletes_of}
use Rattle.yd_ops.specs.Operation.{Operation, operations_of}
use Rattle.yd_ops.specs.Pairs.{as_torn, is_alone, is_half}
use Rattle.yd_ops.specs.Received.{IsWritten, Received, all_taken, has_operation, mended}
use Rattle.yd_ops.specs.Valid.{IsValidUpdate}
use Rattle.yd_ops.specs.ReceivedLaw.{IsReceived}
use Rattle.yd_ops.specs.Value.{UpdateValue}
use Rattle.yd_ops.proofs.GroupLemmas.{deletes_of-ids}
use Rattle.yd_ops.proofs.LevelLemmas.{lowered_not}
use Rattle.yd_ops.proofs.OnceLemmas.{update_once}
use Rattle.yd_ops.proofs.OneOfLemmas.{ids_stay, operation_with}
use Rattle.yd_ops.proofs.ReceivedLemmas.{after_is_received}
use Rattle.yd_ops.proofs.TakingLemmas.{all_taken_is}
use Rattle.yd_ops.proofs.WritingLemmas.{written_alone}
use Rattle.yd_meaning.specs.Held.{held_clock, held_set, needs}
use Rattle.yd_meaning.specs.Law.{IsPartOf}
use Rattle.yd_meaning.specs.Order.{AreHonest}
use Rattle.yd_meaning.proofs.HeldLemmas.{held_grows, held_in, held_needs}
use Rattle.yd_meaning.proofs.VectorLemmas.{held_below, held_written}
use Rattle.yd_grouping.specs.Merged.{cut_of, reply_of}
use Rattle.yd_grouping.proofs.CutLemmas.{cut_is, filter_written}
use Rattle.yd_grouping.proofs.GroupableLemmas.{after_groupable}
use Rattle.yd_grouping.proofs.ReplyLemmas.{reply-operations, reply_valid}
use Rattle.yd_generator.specs.Generated.{delete_set_of, passed}
use Rattle.yd_generator.specs.Plain.{IsLetter, IsPlain}
use Rattle.yd_generator.proofs.CoverLemmas.{both_honest}
use Rattle.yd_generator.proofs.PlainLemmas.{delete_set_is}

-- where none is half of a pair, nothing is mended
mended_alike : (os ps : List Operation) → ((o : Operation) → IsIn o ps → is_half o.content ≡ false) → map (λ o. as_torn (is_alone os o) o) ps ≡ ps
mended_alike os [] whole = refl
mended_alike os (p ∷ ps) whole = rw (whole p (inl refl), mended_alike os ps (λ o i. whole o (inr i))) refl

module _ (a b : Received) (a_is : IsPlain a) (b_is : IsPlain b)
    (same : (o p : Operation) → IsIn o a.operations → IsIn p b.operations → o.id ≡ p.id → o ≡ p) where
  abbrev vector : ℕ → ℕ
  vector = held_clock (held_set b.operations)

  abbrev reply : UpdateValue
  reply = reply_of a (delete_set_of a) vector

  abbrev sent : List Operation
  sent = cut_of a.operations vector

  abbrev after : Received
  after = passed a b

  own_maximal : AreMaximal (delete_set_of a)
  own_maximal = subst AreMaximal (sym (delete_set_is a a_is)) a_is.received.maximal

  valid : IsValidUpdate reply
  valid = reply_valid a (delete_set_of a) vector a_is.groupable own_maximal a_is.received.maximal

  sent_is : operations_of reply ≡ sent
  sent_is = reply-operations a (delete_set_of a) vector a_is.groupable

  of_sent : (o : Operation) → IsIn o sent → IsIn o a.operations
  of_sent o i = ((cut_is a.operations vector o).0 i).0

  sent_written : IsWritten sent
  sent_written = filter_written _ a.operations a_is.received.written

  -- ---- operations

  taken_of : (o : Operation) → IsIn o (all_taken sent b.operations) → IsIn o a.operations ⊎ IsIn o b.operations
  taken_of o i = elim ((all_taken_is sent b.operations sent_written b_is.received.written o).0 i) [
    | inl there ↦ inr there.0
    | inr more ↦ elim more [
      | inl new ↦ inl (of_sent o new.0)
      | inr (p, q, j, k, e, f) ↦ inr (subst (λ z. IsIn z b.operations) (sym (f ∙ lowered_not p q
          (let low = (b_is.letters p j).full in let high = (a_is.letters q (of_sent q k)).full in omega (arith, low, high)))) j)
    ]
  ]

  taken_letters : (o : Operation) → IsIn o (all_taken sent b.operations) → IsLetter o.content
  taken_letters o i = elim (taken_of o i) [ inl j ↦ a_is.letters o j | inr j ↦ b_is.letters o j ]

  after_taken : after.operations ≡ all_taken sent b.operations
  after_taken = update_once reply b.operations valid b_is.received.written b_is.received.paired
      ∙ ap (λ os. mended (all_taken os b.operations)) sent_is
      ∙ mended_alike (all_taken sent b.operations) (all_taken sent b.operations) (λ o i. (taken_letters o i).whole)

  after_of : (o : Operation) → IsIn o after.operations → IsIn o a.operations ⊎ IsIn o b.operations
  after_of o i = taken_of o (subst (λ os. IsIn o os) after_taken i)

  after_asker : (o : Operation) → IsIn o b.operations → IsIn o after.operations
  after_asker o i = subst (λ os. IsIn o os) (sym after_taken) (elim (cases_Bool (has_operation sent o.id)) [
    | inr none ↦ (all_taken_is sent b.operations sent_written b_is.received.written o).1 (inl (i, none))
    | inl there ↦ let (q, k, e) = operation_with sent o.id there in
        (all_taken_is sent b.operations sent_written b_is.received.written o).1 (inr (inr (
          o,
          q,
          i,
          k,
          sym e,
          sym (lowered_not o q
              (let low = (b_is.letters o i).full in let high = (a_is.letters q (of_sent q k)).full in omega (arith, low, high))),
        )))
  ])

  after_answerer : (o : Operation) → IsIn o a.operations → IsIn o after.operations
  after_answerer o i = elim (cases_Bool (has_operation b.operations o.id)) [
    | inl there ↦ let (p, j, e) = operation_with b.operations o.id there in
        after_asker o (subst (λ z. IsIn z b.operations) (sym (same o p i j (sym e))) j)
    | inr none ↦ elim (split (vector o.id.client.0) o.id.clock) [
      | inl le ↦ subst (λ os. IsIn o os) (sym after_taken) ((all_taken_is sent b.operations sent_written b_is.received.written o).1
          (inr (inl ((cut_is a.operations vector o).1 (i, inl le), none))))
      | inr less ↦ absurd (true≢false (sym (ids_stay (held_set b.operations) b.operations o.id (held_in b.operations)
          ((held_below b.operations b_is.received.written o.id.client o.id.clock).1 less)) ∙ none))
    ]
  ]

  -- ---- deletions

  reply_deletes : (x : Id) → HasId (deletes_of reply) x ↔ HasId a.deletes x
  reply_deletes x = (
    (λ h. elim ((deletes_of-ids reply x).0 h) [
      | inl less ↦ absurd (none_less (subst (λ os. SpellLess os x) sent_is less))
      | inr named ↦ elim ((union_ids (delete_set_of a) a.deletes x).0 named) [
        | inl own ↦ subst (λ spans. HasId spans x) (delete_set_is a a_is) own
        | inr named ↦ named
      ]
    ]),
    (λ h. (deletes_of-ids reply x).1 (inr ((union_ids (delete_set_of a) a.deletes x).1 (inr h)))),
  )
    where
      none_less : SpellLess sent x → ⊥
      none_less (o, i, e, low) = let full = (a_is.letters o (of_sent o i)).full in absurd (omega (arith, full, low))

  after_deletes : (x : Id) → HasId after.deletes x ↔ (HasId b.deletes x ⊎ HasId a.deletes x)
  after_deletes x = (
    (λ h. elim ((union_ids b.deletes (deletes_of reply) x).0 h) [ inl j ↦ inl j | inr j ↦ inr ((reply_deletes x).0 j) ]),
    (λ h. (union_ids b.deletes (deletes_of reply) x).1 (elim h [ inl j ↦ inl j | inr j ↦ inr ((reply_deletes x).1 j) ])),
  )

  -- ---- what is held

  after_received : IsReceived after
  after_received = after_is_received b reply b_is.received valid

  of_answerer : (o : Operation) → IsIn o a.operations → IsIn o (held_set after.operations)
  of_answerer o i = held_grows a.operations after.operations after_answerer o (subst (λ h. IsIn o h) (sym a_is.all_held) i)

  of_asker : (o : Operation) → IsIn o b.operations → IsIn o (held_set after.operations)
  of_asker o i = held_grows b.operations after.operations after_asker o (subst (λ h. IsIn o h) (sym b_is.all_held) i)

  all_after : held_set after.operations ≡ after.operations
  all_after = written_alone (held_set after.operations) after.operations (held_written after.operations after_received.written) after_received.written
      (held_in after.operations)
      (λ o i. elim (after_of o i) [ inl j ↦ of_answerer o j | inr j ↦ of_asker o j ])

  needs_in : (r : Received) → IsPlain r → (o : Operation) → IsIn o r.operations → (x : Id) → IsIn x (needs o) → has_operation r.operations x ≡ true
  needs_in r r_is o i x j = subst (λ h. has_operation h x ≡ true) r_is.all_held (held_needs r.operations o (subst (λ h. IsIn o h) (sym r_is.all_held) i) x j)

  answerer_part : IsPartOf a.operations (held_set after.operations)
  answerer_part = record { written = a_is.received.written; within = of_answerer; closed = needs_in a a_is }

  asker_part : IsPartOf b.operations (held_set after.operations)
  asker_part = record { written = b_is.received.written; within = of_asker; closed = needs_in b b_is }

  honest_after : AreHonest after.operations
  honest_after = subst (λ h. AreHonest h) all_after (both_honest after.operations after_received.written a.operations b.operations answerer_part asker_part
      a_is.honest b_is.honest (λ o i. after_of o (held_in after.operations o i)))

  -- ---- lemmas for callers

  pub pass_plain : IsPlain (passed a b)
  pass_plain = record {
    received = after_received;
    groupable = after_groupable b reply b_is.received b_is.groupable valid;
    all_held = all_after;
    honest = honest_after;
    letters = λ o i. elim (after_of o i) [ inl j ↦ a_is.letters o j | inr j ↦ b_is.letters o j ];
    lists = λ o i. elim (after_of o i) [ inl j ↦ a_is.lists o j | inr j ↦ b_is.lists o j ];
    deletes = λ x h. elim ((after_deletes x).0 h) [
      | inl j ↦ ids_stay b.operations after.operations x after_asker (b_is.deletes x j)
      | inr j ↦ ids_stay a.operations after.operations x after_answerer (a_is.deletes x j)
    ];
  }

  pub pass_of : (o : Operation) → IsIn o (passed a b).operations → IsIn o a.operations ⊎ IsIn o b.operations
  pass_of = after_of

  pub pass_answerer : (o : Operation) → IsIn o a.operations → IsIn o (passed a b).operations
  pass_answerer = after_answerer

  pub pass_asker : (o : Operation) → IsIn o b.operations → IsIn o (passed a b).operations
  pass_asker = after_asker

  pub pass_deletes : (x : Id) → HasId (passed a b).deletes x ↔ (HasId b.deletes x ⊎ HasId a.deletes x)
  pass_deletes = after_deletes
