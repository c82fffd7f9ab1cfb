-- A reply lowers nothing that is held: what a replica held when it asked is held as it was.
use Rattle.std.proofs.Common.{◌≡◌, ◌⊎◌, ℕ, zero, suc, ◌+◌, ◌≤◌, true, false, List, [], ◌∷◌, ◌++◌, Option, Some, None, inl, inr, refl, sym, ap, ◌∙◌, subst, arith}
use Rattle.yd_words.specs.Member.{IsIn}
use Rattle.yd_words.proofs.MemberLemmas.{in_parts}
use Rattle.yd_ids.specs.declared.id.Id.{Id}
use Rattle.yd_ids.proofs.UnionLemmas.{union_ids}
use Rattle.yd_ids.proofs.IdLemmas.{same_says}
use Rattle.yd_ops.specs.Operation.{Operation, level_of, ArePartners}
use Rattle.yd_ops.specs.Value.{UpdateValue}
use Rattle.yd_ops.specs.Pairs.{is_alone, as_torn}
use Rattle.yd_ops.specs.Received.{has_operation, IsWritten, taken_in, all_taken, mended, with_group, with_groups, groups_of, Received, received_after}
use Rattle.yd_ops.specs.Deletes.{deletes_of}
use Rattle.yd_ops.specs.ReceivedLaw.{IsReceived}
use Rattle.yd_ops.proofs.OneOfLemmas.{operation_with, id_is_there}
use Rattle.yd_ops.proofs.PartnerLemmas.{AreOnePair, IsHalf, partners_decide}
use Rattle.yd_ops.proofs.LevelLemmas.{level_at_most}
use Rattle.yd_ops.proofs.WritingLemmas.{written_agrees, taken_there, taken_stays, taken_written}
use Rattle.yd_ops.proofs.TakingLemmas.{all_taken_written}
use Rattle.yd_ops.proofs.MendingLemmas.{HasPartner, HasPartners, paired_has, alone_decides, map_has, mended_written}
use Rattle.yd_ops.proofs.GroupLemmas.{all_of, update_groups}
use Rattle.yd_meaning.specs.Held.{needs, sources, id_before, given, item_carried, held_set, held_clock}
use Rattle.yd_words.proofs.MemberLemmas.{in_left_part, in_right_part}
use Rattle.yd_meaning.proofs.HeldLemmas.{held_in, held_needs, needs_held, held_left, held_right}
use Rattle.yd_meaning.proofs.VectorLemmas.{held_written, held_below}
use Rattle.yd_meaning.proofs.GrowingLemmas.{held_grows_after}
use Rattle.yd_sync.proofs.PresenceLemmas.{tested}
use Rattle.yd_hub.specs.ExchangeLaw.{IsPartOfNow, ListsStandAlone, LowersNoHeld}

-- the operation says no more than another of its id
abbrev NotLowered : List Operation → Operation → Type 0
NotLowered news q = (o : Operation) → IsIn o news → q.id ≡ o.id → level_of q.content ≤ level_of o.content

kept_taken : (o : Operation) (os : List Operation) (q : Operation) → IsWritten os → IsIn q os → (q.id ≡ o.id → level_of q.content ≤ level_of o.content) → IsIn q (taken_in o os)
kept_taken o os q w i le = elim (same_says q.id o.id) [
  | inl same ↦ subst (λ ps. IsIn q ps) (sym (taken_there o os w q i same.1 (le same.1))) i
  | inr other ↦ taken_stays o os q i other.1
]

kept_all : (news taken : List Operation) (q : Operation) → IsWritten taken → IsIn q taken → NotLowered news q → IsIn q (all_taken news taken)
kept_all [] taken q w i none = i
kept_all (o ∷ news) taken q w i none = kept_all news (taken_in o taken) q (taken_written o taken w) (kept_taken o taken q w i (none o (inl refl))) (λ p j. none p (inr j))

kept_mended : (os : List Operation) (q : Operation) → IsIn q os → (IsHalf q.content → HasPartner os q) → IsIn q (mended os)
kept_mended os q i whole = go (tested (is_alone os q))
  where
    go : (is_alone os q ≡ true) ⊎ (is_alone os q ≡ false) → IsIn q (mended os)
    go (inl alone) = let facts = (alone_decides os q).0 alone in absurd (facts.1 (whole facts.0))
    go (inr other) = subst (λ t. IsIn (as_torn t q) (mended os)) other (map_has (λ o. as_torn (is_alone os o) o) os q i)

-- those of some operations with whole pairs stay, where none of them is lowered
kept_groups : (kept : List Operation) → HasPartners kept → (groups : List (List Operation)) (taken : List Operation) → IsWritten taken → ((q : Operation) → IsIn q kept → IsIn q taken) →
    ((q : Operation) → IsIn q kept → NotLowered (all_of groups) q) → (q : Operation) → IsIn q kept → IsIn q (with_groups groups taken)
kept_groups kept whole [] taken w there none q i = there q i
kept_groups kept whole (group ∷ groups) taken w there none q i =
    kept_groups kept whole groups (with_group group taken) (mended_written (all_taken group taken) (all_taken_written group taken w))
    (λ p j. kept_mended (all_taken group taken) p (first p j) (λ half. let (r, k, pair) = whole p j half in (r, first r k, pair)))
    (λ p j o k same. none p j o (in_right_part o group (all_of groups) k) same) q i
  where
    first : (p : Operation) → IsIn p kept → IsIn p (all_taken group taken)
    first p j = kept_all group taken p w (there p j) (λ o k same. none p j o (in_left_part o group (all_of groups) k) same)

-- ---- the partner of what is held is held

module _ (r : Received) (is : IsReceived r) (alone : ListsStandAlone r.operations) where
  abbrev held : List Operation
  held = held_set r.operations

  -- one that was received, and whose id is held
  by_id : (p : Operation) → IsIn p r.operations → has_operation held p.id ≡ true → IsIn p held
  by_id p i e = let (q, j, same) = operation_with held p.id e in
      subst (λ s. IsIn s held) (written_agrees r.operations is.written q p (held_in r.operations q j) i same) j

  low_needs : (q p : Operation) → IsIn q held → IsIn p r.operations → ArePartners q p → (x : Id) → IsIn x (needs p) → has_operation held x ≡ true
  low_needs q p i j pair x k = elim (in_parts x (id_before p.id.client p.id.clock) (sources p) k) [
    | inl before ↦ is_before p.id.clock (ap (λ (y : Id). y.clock) pair.next_clock) before
    | inr source ↦ elim (in_parts x (given p.left_origin) (given p.right_origin ++ given (item_carried p.list)) source) [
      | inl left ↦ is_left p.left_origin pair.behind left
      | inr rest ↦ elim (in_parts x (given p.right_origin) (given (item_carried p.list)) rest) [
        | inl right ↦ is_right p.right_origin refl right
        | inr item ↦ absurd (subst (λ l. IsIn x (given (item_carried l))) (alone p q.id j pair.behind) item)
      ]
    ]
  ]
    where
      there : has_operation held q.id ≡ true
      there = id_is_there held q i

      is_before : (clock : ℕ) → clock ≡ q.id.clock + 1 → IsIn x (id_before p.id.client clock) → has_operation held x ≡ true
      is_before zero e m = absurd m
      is_before (suc clock) e (inl f) = subst (λ y. has_operation held y ≡ true)
          ((λ n. record { client = ap (λ (y : Id). y.client) (sym pair.next_clock) n; clock = last n }) ∙ sym f) there
        where
          last : q.id.clock ≡ clock
          last = omega (arith, e)
      is_before (suc clock) e (inr m) = absurd m

      is_left : (z : Option Id) → z ≡ Some q.id → IsIn x (given z) → has_operation held x ≡ true
      is_left None e m = absurd m
      is_left (Some y) e (inl f) = subst (λ v. has_operation held v ≡ true) (some_one e ∙ sym f) there
        where
          some_one : Some y ≡ Some q.id → q.id ≡ y
          some_one g = sym cc
      is_left (Some y) e (inr m) = absurd m

      is_right : (z : Option Id) → p.right_origin ≡ z → IsIn x (given z) → has_operation held x ≡ true
      is_right None e m = absurd m
      is_right (Some y) e (inl f) = subst (λ v. has_operation held v ≡ true) (sym f)
          (held_right r.operations q i y (is.rights q p (held_in r.operations q i) j ((partners_decide q p).1 pair) ∙ e))
      is_right (Some y) e (inr m) = absurd m

  held_partners : HasPartners held
  held_partners q i half = let (p, j, pair) = paired_has r.operations is.paired q (held_in r.operations q i) half in (p, go p j pair, pair)
    where
      go : (p : Operation) → IsIn p r.operations → AreOnePair q p → IsIn p held
      go p j (inl pair) = needs_held r.operations p j (low_needs q p i j pair)
      go p j (inr pair) = by_id p j (held_left r.operations q i p.id pair.behind)

  -- ---- for callers

  pub held_stay : (update : UpdateValue) → LowersNoHeld r update → IsPartOfNow r (received_after r update)
  held_stay update lowers = record {
    held = record {
      written = held_written r.operations is.written;
      within = λ q i. needs_held (received_after r update).operations q (stays q i) (λ x j. held_grows_after r update is x (held_needs r.operations q i x j));
      closed = λ q i x j. held_needs r.operations q i x j;
    };
    deletes = λ x h. (union_ids r.deletes (deletes_of update) x).1 (inl h);
  }
    where
      not_lowered : (q : Operation) → IsIn q held → NotLowered (all_of (groups_of update)) q
      not_lowered q i o k same = elim (lowers o (subst (λ os. IsIn o os) (update_groups update) k)) [
        | inr full ↦ omega (arith, full, level_at_most q.content)
        | inl above ↦ absurd (let below = (held_below r.operations is.written q.id.client q.id.clock).0 (id_is_there held q i) in
            let at : o.id.clock ≡ q.id.clock = ap (λ (y : Id). y.clock) (sym same) in
            let bound = subst (λ (y : Id). held_clock held y.client.0 ≤ y.clock) (sym same) above in omega (arith, below, bound))
      ]

      stays : (q : Operation) → IsIn q held → IsIn q (received_after r update).operations
      stays q i = kept_groups held held_partners (groups_of update) r.operations is.written (λ p j. held_in r.operations p j) not_lowered q i
