-- What is held stays held: what is there after more came needs no more than before.
use Rattle.std.proofs.Common.{◌≡◌, ℕ, zero, suc, Bool, true, false, List, [], ◌∷◌, inl, inr, refl, sym, ◌∙◌, subst}
use Rattle.yd_words.specs.Member.{IsIn}
use Rattle.yd_words.proofs.MemberLemmas.{in_left_part, in_parts}
use Rattle.yd_ids.specs.declared.id.Id.{Id}
use Rattle.yd_ids.proofs.IdLemmas.{same_says}
use Rattle.yd_ops.specs.Operation.{Operation, level_of, as_level}
use Rattle.yd_ops.specs.Value.{UpdateValue}
use Rattle.yd_ops.specs.Pairs.{is_alone, as_torn}
use Rattle.yd_ops.specs.Received.{has_operation, IsWritten, lowered, taken_in, all_taken, mended, with_group, with_groups, groups_of, Received, received_after}
use Rattle.yd_ops.specs.ReceivedLaw.{IsReceived}
use Rattle.yd_ops.proofs.OneOfLemmas.{operation_with, id_there}
use Rattle.yd_ops.proofs.LevelLemmas.{lowered_either}
use Rattle.yd_ops.proofs.WritingLemmas.{taken_stays, taken_lowered, taken_written}
use Rattle.yd_ops.proofs.MendingLemmas.{map_has, mended_written}
use Rattle.yd_meaning.specs.Held.{id_before, sources, needs, held_set}
use Rattle.yd_meaning.proofs.HeldLemmas.{held_least, needs_held}

-- the first has the second's id, and needs no more
pub record NeedsNoMore (q p : Operation) : Type 0 where
  pub id : q.id ≡ p.id
  pub needs : (x : Id) → IsIn x (needs q) → IsIn x (needs p)

needs_itself : (p : Operation) → NeedsNoMore p p
needs_itself p = record { id = refl; needs = λ x i. i }

needs_through : (r q p : Operation) → NeedsNoMore r q → NeedsNoMore q p → NeedsNoMore r p
needs_through r q p a b = record { id = a.id ∙ b.id; needs = λ x i. b.needs x (a.needs x i) }

level_needs : (level : ℕ) (p : Operation) → NeedsNoMore (as_level level p) p
level_needs zero p = record {
  id = refl;
  needs = λ x i. elim (in_parts x (id_before p.id.client p.id.clock) [] i) [
    | inl j ↦ in_left_part x (id_before p.id.client p.id.clock) (sources p) j
    | inr j ↦ absurd j
  ];
}
level_needs (suc zero) p = record { id = refl; needs = λ x i. i }
level_needs (suc (suc level)) p = record { id = refl; needs = λ x i. i }

lowered_needs : (p o : Operation) → NeedsNoMore (lowered p o) p
lowered_needs p o = elim (lowered_either p o) [
  | inl falls ↦ subst (λ q. NeedsNoMore q p) (sym falls.1) (level_needs (level_of o.content) p)
  | inr stays ↦ subst (λ q. NeedsNoMore q p) (sym stays.1) (needs_itself p)
]

-- one is there that needs no more
abbrev HasLesser : List Operation → Operation → Type 0
HasLesser taken p = (q : Operation) × IsIn q taken × NeedsNoMore q p

lesser_taken : (o : Operation) (taken : List Operation) (p : Operation) → IsWritten taken → HasLesser taken p → HasLesser (taken_in o taken) p
lesser_taken o taken p w (q, i, less) = elim (same_says q.id o.id) [
  | inl same ↦ (lowered q o, taken_lowered o taken w q i same.1, needs_through (lowered q o) q p (lowered_needs q o) less)
  | inr other ↦ (q, taken_stays o taken q i other.1, less)
]

lesser_all : (news taken : List Operation) (p : Operation) → IsWritten taken → HasLesser taken p → IsWritten (all_taken news taken) × HasLesser (all_taken news taken) p
lesser_all [] taken p w less = (w, less)
lesser_all (o ∷ news) taken p w less = lesser_all news (taken_in o taken) p (taken_written o taken w) (lesser_taken o taken p w less)

lesser_mended : (os : List Operation) (p : Operation) → HasLesser os p → HasLesser (mended os) p
lesser_mended os p (q, i, less) = (as_torn (is_alone os q) q, map_has (λ o. as_torn (is_alone os o) o) os q i, needs_through (as_torn (is_alone os q) q) q p (torn (is_alone os q)) less)
  where
    torn : (t : Bool) → NeedsNoMore (as_torn t q) q
    torn true = record { id = refl; needs = λ x j. j }
    torn false = needs_itself q

lesser_groups : (groups : List (List Operation)) (taken : List Operation) (p : Operation) → IsWritten taken → HasLesser taken p → HasLesser (with_groups groups taken) p
lesser_groups [] taken p w less = less
lesser_groups (group ∷ groups) taken p w less = let (v, lesser) = lesser_all group taken p w less in
    lesser_groups groups (with_group group taken) p (mended_written (all_taken group taken) v) (lesser_mended (all_taken group taken) p lesser)

-- ---- lemmas for callers

pub held_grows_after : (r : Received) (update : UpdateValue) → IsReceived r → (x : Id) → has_operation (held_set r.operations) x ≡ true →
    has_operation (held_set (received_after r update).operations) x ≡ true
held_grows_after r update is x e = let (p, i, f) = operation_with (held_set r.operations) x e in subst (λ y. has_operation (held_set new) y ≡ true) f
    (held_least r.operations (λ y. has_operation (held_set new) y ≡ true) (λ o j ready.
    let (q, k, less) = lesser_groups (groups_of update) r.operations o is.written (o, j, needs_itself o) in
    id_there (held_set new) q o.id (needs_held new q k (λ y l. ready y (less.needs y l))) less.id) p i)
  where
    new : List Operation
    new = (received_after r update).operations
