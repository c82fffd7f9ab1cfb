-- Cuts: what is in them, and that pairs stay whole.
use Rattle.std.specs.Prelude.{Decides, filter, nat_eq, nat_le, if◌then◌else◌}
use Rattle.std.proofs.Common.{◌≡◌, ◌↔◌, ℕ, ◌+◌, ◌≤◌, Bool, true, false, ◌&&◌, List, [], ◌∷◌, ◌⊎◌, inl, inr, refl, sym, ap, ◌∙◌, subst, arith, tests, true≢false}
use Rattle.std.proofs.lemmas.Bool.Decides.{Decides-and, Decides-or, Decides-like}
use Rattle.yd_words.specs.Member.{IsIn}
use Rattle.yd_words.proofs.FilterLemmas.{filter-all, kept_one, one_kept}
use Rattle.yd_words.proofs.MemberLemmas.{each_in, in_each}
use Rattle.yd_words.proofs.TestLemmas.{split}
use Rattle.yd_ids.specs.Set.{HasId}
use Rattle.yd_ids.specs.declared.id.Id.{Id}
use Rattle.yd_ops.specs.Operation.{ArePartners, Operation, operations_of}
use Rattle.yd_ops.specs.Valid.{IsValidUpdate}
use Rattle.yd_ops.specs.Value.{UpdateValue}
use Rattle.yd_ops.specs.Deletes.{deletes_of}
use Rattle.yd_ops.specs.Pairs.{are_partners}
use Rattle.yd_ops.specs.Received.{IsWritten, received_set}
use Rattle.yd_ops.proofs.AgreementLemmas.{received_deletes}
use Rattle.yd_ops.proofs.GroupLemmas.{deletes_of-ids}
use Rattle.yd_ops.proofs.MendingLemmas.{HasPartners, has_paired, paired_has}
use Rattle.yd_ops.proofs.PartnerLemmas.{high_partner, low_partner, one_half, one_partner, partners_decide}
use Rattle.yd_ops.proofs.ReceivedLemmas.{set_is_received}
use Rattle.yd_grouping.specs.Groupable.{AreGroupable, IsValidOperation}
use Rattle.yd_grouping.specs.Grouped.{IsGrouped}
use Rattle.yd_grouping.specs.Law.{IsFrom}
use Rattle.yd_grouping.specs.Merged.{cut_of, cut_update, has_partner_at, is_cut_in}
use Rattle.yd_grouping.proofs.GroupableLemmas.{received_groupable}
use Rattle.yd_grouping.proofs.GroupedLemmas.{groupable-operations, grouping_grouped, grouping_valid}

-- ---- what the tests say

-- the operation's partner is there, at this clock
abbrev pub HasPartnerAt : List Operation → ℕ → Operation → Type 0
HasPartnerAt os clock o = (p : Operation) × IsIn p os × ArePartners o p × (p.id.clock ≡ clock)

equal_decides : (m n : ℕ) → Decides (nat_eq m n) (m ≡ n)
equal_decides m n = ((λ e. grind (arith, tests)), (λ e. grind (arith, tests)))

most_decides : (m n : ℕ) → Decides (nat_le m n) (m ≤ n)
most_decides m n = ((λ e. grind (arith, tests)), (λ e. grind (arith, tests)))

partner_at_decides : (os : List Operation) (clock : ℕ) (o : Operation) → Decides (has_partner_at os clock o) (HasPartnerAt os clock o)
partner_at_decides [] clock o = ((λ e. absurd (true≢false (sym e))), (λ there. absurd there.1))
partner_at_decides (p ∷ ps) clock o = Decides-like (has_partner_at (p ∷ ps) clock o) there back
    (Decides-or (are_partners o p && nat_eq p.id.clock clock) (has_partner_at ps clock o)
    (Decides-and (are_partners o p) (nat_eq p.id.clock clock) (partners_decide o p) (equal_decides p.id.clock clock)) (partner_at_decides ps clock o))
  where
    there : (ArePartners o p × (p.id.clock ≡ clock)) ⊎ HasPartnerAt ps clock o → HasPartnerAt (p ∷ ps) clock o
    there (inl facts) = (p, inl refl, facts.0, facts.1)
    there (inr (q, i, pair, e)) = (q, inr i, pair, e)

    back : HasPartnerAt (p ∷ ps) clock o → (ArePartners o p × (p.id.clock ≡ clock)) ⊎ HasPartnerAt ps clock o
    back (q, inl f, pair, e) = inl (subst (λ r. ArePartners o r) f pair, ap (λ (r : Operation). r.id.clock) (sym f) ∙ e)
    back (q, inr i, pair, e) = inr (q, i, pair, e)

-- the operation is not below the vector, or is the first half of a pair that the vector would part
abbrev pub IsKept : List Operation → (ℕ → ℕ) → Operation → Type 0
IsKept os vector o = (vector o.id.client.0 ≤ o.id.clock) ⊎ HasPartnerAt os (vector o.id.client.0) o

cut_decides : (os : List Operation) (vector : ℕ → ℕ) (o : Operation) → Decides (is_cut_in os vector o) (IsKept os vector o)
cut_decides os vector o = Decides-or (nat_le (vector o.id.client.0) o.id.clock) (has_partner_at os (vector o.id.client.0) o)
    (most_decides (vector o.id.client.0) o.id.clock) (partner_at_decides os (vector o.id.client.0) o)

pub cut_is : (os : List Operation) (vector : ℕ → ℕ) (o : Operation) → IsIn o (cut_of os vector) ↔ (IsIn o os × IsKept os vector o)
cut_is os vector o = (
  (λ i. let (e, j) = kept_one (is_cut_in os vector) os o i in (j, (cut_decides os vector o).0 e)),
  (λ f. one_kept (is_cut_in os vector) os o ((cut_decides os vector o).1 f.1) f.0),
)

pub cut_passes : (os : List Operation) (vector : ℕ → ℕ) (o : Operation) → IsKept os vector o → is_cut_in os vector o ≡ true
cut_passes os vector o from = (cut_decides os vector o).1 from

-- ---- what a cut keeps

pub filter_written : (test : Operation → Bool) (os : List Operation) → IsWritten os → IsWritten (filter test os)
filter_written test [] w = tt
filter_written test (o ∷ os) w = go (test o) (filter_written test os w.1)
  where
    go : (t : Bool) → IsWritten (filter test os) → IsWritten (if t then o ∷ filter test os else filter test os)
    go true rest = ((λ p i. w.0 p (kept_one test os p i).1), rest)
    go false rest = rest

module _ (os : List Operation) (vector : ℕ → ℕ) (are : AreGroupable os) where
  partners : HasPartners os
  partners = paired_has os are.paired

  -- a partner behind one that is kept is kept
  pub behind_kept : (o p : Operation) → IsIn p os → ArePartners o p → IsKept os vector o → IsIn p (cut_of os vector)
  behind_kept o p i pair (inl le) = (cut_is os vector p).1 (i, inl (subst (λ (x : Id). vector x.client.0 ≤ x.clock) (sym pair.next_clock) (omega (arith, le))))
  behind_kept o p i pair (inr (q, j, other, e)) = (cut_is os vector p).1 (i, inl at_clock)
    where
      same : p.id ≡ q.id
      same = one_partner o p q (inl pair) (inl other)

      client : vector p.id.client.0 ≡ vector o.id.client.0
      client = ap (λ (x : Id). vector x.client.0) pair.next_clock

      at_clock : vector p.id.client.0 ≤ p.id.clock
      at_clock = omega (arith, client, e, ap (λ (x : Id). x.clock) same)

  -- and one before
  before_kept : (o p : Operation) → IsIn o os → IsIn p os → ArePartners p o → IsKept os vector o → IsIn p (cut_of os vector)
  before_kept o p k i pair (inr (q, j, other, e)) = absurd (one_half o.content other.high_half pair.low_half)
  before_kept o p k i pair (inl le) = (cut_is os vector p).1 (
    i,
    elim (split (vector p.id.client.0) p.id.clock) [
      | inl at_most ↦ inl at_most
      | inr lt ↦ inr (o, k, pair, omega (arith, lt, le, client, clock))
    ],
  )
    where
      client : vector o.id.client.0 ≡ vector p.id.client.0
      client = ap (λ (x : Id). vector x.client.0) pair.next_clock

      clock : o.id.clock ≡ p.id.clock + 1
      clock = ap (λ (x : Id). x.clock) pair.next_clock

  cut_partners : HasPartners (cut_of os vector)
  cut_partners o i (inl high) = let (j, from) = (cut_is os vector o).0 i in let (p, k, pair) = partners o j (inl high) in
      (p, behind_kept o p k (high_partner o p high pair) from, pair)
  cut_partners o i (inr low) = let (j, from) = (cut_is os vector o).0 i in let (p, k, pair) = partners o j (inr low) in
      (p, before_kept o p j k (low_partner o p low pair) from, pair)

  pub cut_groupable : AreGroupable (cut_of os vector)
  cut_groupable = record {
    written = filter_written (is_cut_in os vector) os are.written;
    valid = in_each IsValidOperation (cut_of os vector) (λ o i. each_in IsValidOperation os are.valid o ((cut_is os vector o).0 i).0);
    paired = has_paired (cut_of os vector) cut_partners;
    rights = λ high low i j e. are.rights high low ((cut_is os vector high).0 i).0 ((cut_is os vector low).0 j).0 e;
  }

-- ---- lemmas for callers

pub cut-operations : (update : UpdateValue) (vector : ℕ → ℕ) → IsValidUpdate update → operations_of (cut_update update vector) ≡ cut_of (received_set (update ∷ [])).operations vector
cut-operations update vector valid = groupable-operations (cut_of (received_set (update ∷ [])).operations vector) (received_set (update ∷ [])).deletes
    (cut_groupable (received_set (update ∷ [])).operations vector (received_groupable (update ∷ []) (valid, tt)))

pub cut_valid : (update : UpdateValue) (vector : ℕ → ℕ) → IsValidUpdate update → IsValidUpdate (cut_update update vector)
cut_valid update vector valid = grouping_valid (cut_of (received_set (update ∷ [])).operations vector) (received_set (update ∷ [])).deletes
    (cut_groupable (received_set (update ∷ [])).operations vector (received_groupable (update ∷ []) (valid, tt))) (set_is_received (update ∷ []) (valid, tt)).maximal

pub cut_grouped : (update : UpdateValue) (vector : ℕ → ℕ) → IsValidUpdate update → IsGrouped (cut_update update vector)
cut_grouped update vector valid = grouping_grouped (cut_of (received_set (update ∷ [])).operations vector) (received_set (update ∷ [])).deletes
    (cut_groupable (received_set (update ∷ [])).operations vector (received_groupable (update ∷ []) (valid, tt)))

-- from the empty vector on all is there
pub cut-all : (os : List Operation) → cut_of os (λ client. 0) ≡ os
cut-all os = filter-all (is_cut_in os (λ client. 0)) os (λ o i. (cut_decides os (λ client. 0) o).1 (inl (omega arith)))

pub cut_has : (os : List Operation) (vector : ℕ → ℕ) (o : Operation) → IsIn o (cut_of os vector) ↔ (IsIn o os × IsFrom os vector o)
cut_has os vector o = let both = cut_is os vector o in (
  (λ i. let (j, from) = both.0 i in (j, elim from [ inl le ↦ inl le | inr there ↦ inr (there.0, there.1, (partners_decide o there.0).1 there.2, there.3) ])),
  (λ f. both.1 (f.0, elim f.1 [ inl le ↦ inl le | inr there ↦ inr (there.0, there.1, (partners_decide o there.0).0 there.2, there.3) ])),
)

pub cut_deletes : (update : UpdateValue) (vector : ℕ → ℕ) → IsValidUpdate update → (x : Id) → HasId (deletes_of (cut_update update vector)) x ↔ HasId (deletes_of update) x
cut_deletes update vector valid x = (there, back)
  where
    received : HasId (received_set (update ∷ [])).deletes x → HasId (deletes_of update) x
    received h = elim ((received_deletes (update ∷ []) x).0 h) [ inl k ↦ k | inr k ↦ absurd k ]

    there : HasId (deletes_of (cut_update update vector)) x → HasId (deletes_of update) x
    there h = elim ((deletes_of-ids (cut_update update vector) x).0 h) [
      | inr k ↦ received k
      | inl less ↦ let (o, i, e, low) = less in received ((set_is_received (update ∷ []) (valid, tt)).named x
          (o, ((cut_is (received_set (update ∷ [])).operations vector o).0 (subst (λ os. IsIn o os) (cut-operations update vector valid) i)).0, e, low))
    ]

    back : HasId (deletes_of update) x → HasId (deletes_of (cut_update update vector)) x
    back h = (deletes_of-ids (cut_update update vector) x).1 (inr ((received_deletes (update ∷ []) x).1 (inl h)))
