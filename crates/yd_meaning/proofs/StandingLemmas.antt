-- What stands: the held operations that are not gone and of which all sources stand, and no others.
use Rattle.std.proofs.Common.{◌≡◌, ◌↔◌, ℕ, zero, suc, Bool, true, false, not, List, inl, inr, length, refl, sym, ap, ◌∙◌, subst, true≢false}
use Rattle.std.proofs.lemmas.Bool.{cases_Bool, false_from_ne_true}
use Rattle.std.specs.Prelude.{filter}
use Rattle.yd_words.specs.Member.{IsIn}
use Rattle.yd_words.proofs.FilterLemmas.{kept_one, one_kept}
use Rattle.yd_ids.specs.declared.id.Id.{Id}
use Rattle.yd_ops.specs.Operation.{Operation}
use Rattle.yd_ops.specs.Received.{has_operation, IsWritten}
use Rattle.yd_ops.proofs.OneOfLemmas.{operation_with, id_is_there}
use Rattle.yd_ops.proofs.WritingLemmas.{written_alone}
use Rattle.yd_meaning.specs.Held.{sources, has_all, round, held_set, is_gone, standing}
use Rattle.yd_meaning.specs.Law.{AreStanding}
use Rattle.yd_meaning.proofs.RowLemmas.{written_distinct, one_operation}
use Rattle.yd_meaning.proofs.NeedLemmas.{source_needed}
use Rattle.yd_meaning.proofs.RoundLemmas.{last_in, last_asks, asks_last}
use Rattle.yd_meaning.proofs.HeldLemmas.{held_needs, needs_held, held_least}
use Rattle.yd_meaning.proofs.VectorLemmas.{written_kept, held_written}

not_not : (t : Bool) → not t ≡ true → t ≡ false
not_not true e = sym e
not_not false e = refl

-- those that are not gone
abbrev pub remaining : List Operation → List Operation
remaining held = filter (λ o. not (is_gone o)) held

module _ (held : List Operation) (w : IsWritten held) where
  pub remaining_written : IsWritten (remaining held)
  remaining_written = written_kept (λ o. not (is_gone o)) held w

  pub standing_written : IsWritten (standing held)
  standing_written = go (length (remaining held))
    where
      go : (n : ℕ) → IsWritten (round sources (remaining held) n)
      go zero = tt
      go (suc n) = written_kept (λ o. has_all (round sources (remaining held) n) (sources o)) (remaining held) remaining_written

  -- what stands is held, and not gone
  pub standing_in : (o : Operation) → IsIn o (standing held) → IsIn o held × (is_gone o ≡ false)
  standing_in o i = let (e, j) = kept_one (λ p. not (is_gone p)) held o (last_in sources (remaining held) o i) in (j, not_not (is_gone o) e)

  -- its sources stand
  pub standing_sources : (o : Operation) → IsIn o (standing held) → (x : Id) → IsIn x (sources o) → has_operation (standing held) x ≡ true
  standing_sources o i x j = last_asks sources (remaining held) o i x j

  -- a held operation that is not gone stands, where all its sources stand
  pub sources_stand : (o : Operation) → IsIn o held → is_gone o ≡ false → ((x : Id) → IsIn x (sources o) → has_operation (standing held) x ≡ true) → IsIn o (standing held)
  sources_stand o i there f = asks_last sources (remaining held) o (one_kept (λ p. not (is_gone p)) held o (ap not there) i) f

  -- so it stands exactly where this is so
  pub standing_is : (o : Operation) → IsIn o (standing held)
      ↔ (IsIn o held × (is_gone o ≡ false) × ((x : Id) → IsIn x (sources o) → has_operation (standing held) x ≡ true))
  standing_is o = (
    (λ i. ((standing_in o i).0, (standing_in o i).1, standing_sources o i)),
    (λ b. sources_stand o b.0 b.1 b.2),
  )

  -- a held operation stands, where one of its id does
  pub standing_one : (o : Operation) → IsIn o held → has_operation (standing held) o.id ≡ true → IsIn o (standing held)
  standing_one o i e = let (p, j, f) = operation_with (standing held) o.id e in
      subst (λ q. IsIn q (standing held)) (one_operation held (written_distinct held w) p o (standing_in p j).0 i f) j

-- ---- nothing else is so

module _ (os : List Operation) (w : IsWritten os) where
  abbrev held : List Operation
  held = held_set os

  own : IsWritten held
  own = held_written os w

  pub are_standing : AreStanding held (standing held)
  are_standing o i = ((λ j. ((standing_in held own o j).1, standing_sources held own o j)), (λ b. sources_stand held own o i b.0 b.1))

  module _ (part : List Operation) (v : IsWritten part) (within : (o : Operation) → IsIn o part → IsIn o held) (are : AreStanding held part) where
    one_in : (o : Operation) → IsIn o held → has_operation part o.id ≡ true → IsIn o part
    one_in o i e = let (p, j, f) = operation_with part o.id e in
        subst (λ q. IsIn q part) (one_operation held (written_distinct held own) p o (within p j) i f) j

    -- the ids among them are those that stand
    abbrev IsAlike : Id → Type 0
    IsAlike x = (has_operation held x ≡ true) × (has_operation part x ≡ has_operation (standing held) x)

    alike : (o : Operation) → IsIn o held → IsAlike o.id
    alike = held_least os IsAlike (λ o i f. one o (needs_held os o i (λ x j. (f x j).0)) (λ x j. (f x (source_needed o x j)).1))
      where
        one : (o : Operation) → IsIn o held → ((x : Id) → IsIn x (sources o) → has_operation part x ≡ has_operation (standing held) x) → IsAlike o.id
        one o i f = (
          id_is_there held o i,
          elim (cases_Bool (has_operation (standing held) o.id)) [
            | inl e ↦ let j = standing_one held own o i e in
                id_is_there part o ((are o i).1 ((standing_in held own o j).1, (λ x k. f x k ∙ standing_sources held own o j x k))) ∙ sym e
            | inr none ↦ false_from_ne_true (has_operation part o.id) (λ e.
                let b = (are o i).0 (one_in o i e) in
                true≢false (sym (id_is_there (standing held) o (sources_stand held own o i b.0 (λ x k. sym (f x k) ∙ b.1 x k))) ∙ none)) ∙ sym none
          ],
        )

    pub standing_alone : part ≡ standing held
    standing_alone = written_alone part (standing held) v (standing_written held own)
        (λ o i. standing_one held own o (within o i) (sym (alike o (within o i)).1 ∙ id_is_there part o i))
        (λ o i. let j = (standing_in held own o i).0 in one_in o j ((alike o j).1 ∙ id_is_there (standing held) o i))

  -- where none is gone, all that is held stands
  pub standing-all : ((o : Operation) → IsIn o held → is_gone o ≡ false) → standing held ≡ held
  standing-all none = sym (standing_alone held own (λ o i. i) (λ o i. ((λ j. (none o i, λ x k. held_needs os o i x (source_needed o x k))), (λ b. i))))
