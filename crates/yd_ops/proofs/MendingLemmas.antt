-- Mending: a half whose partner is not there becomes U+FFFD, so all pairs are whole, and where they are nothing changes.
use Rattle.std.proofs.Common.{◌≡◌, Bool, true, false, ◌||◌, not, List, [], ◌∷◌, ◌⊎◌, inl, inr, map, refl, sym, ap, ap₂, ◌∙◌, subst, arith, true≢false}
use Rattle.std.specs.Prelude.{Decides}
use Rattle.std.proofs.lemmas.Bool.{cases_Bool}
use Rattle.std.proofs.lemmas.Bool.Decides.{Decides-or, Decides-like, Decides-and, Decides-not}
use Rattle.yd_words.specs.Member.{IsIn}
use Rattle.yd_ids.specs.Ids.{is_written_before}
use Rattle.yd_ops.specs.Operation.{Operation, level_of, IsHighUnit, IsLowUnit}
use Rattle.yd_ops.specs.Pairs.{is_half, are_partners, has_partner, is_alone, as_torn}
use Rattle.yd_ops.specs.Received.{IsWritten, mended}
use Rattle.yd_ops.specs.ReceivedLaw.{ArePaired}
use Rattle.yd_ops.proofs.LevelLemmas.{half_full}
use Rattle.yd_ops.proofs.PartnerLemmas.{AreOnePair, IsHalf, half_decides, high_unit, low_unit, partners_decide, pair_decides, pair_flip, high_partner, low_partner}

-- ---- what the tests say

-- a partner of the operation is there
abbrev pub HasPartner : List Operation → Operation → Type 0
HasPartner os o = (p : Operation) × IsIn p os × AreOnePair o p

pub partner_decides : (os : List Operation) (o : Operation) → Decides (has_partner os o) (HasPartner os o)
partner_decides [] o = ((λ e. absurd (true≢false (sym e))), (λ there. absurd there.1))
partner_decides (p ∷ ps) o = Decides-like (has_partner (p ∷ ps) o) there back
    (Decides-or (are_partners o p || are_partners p o) (has_partner ps o) (pair_decides o p) (partner_decides ps o))
  where
    there : AreOnePair o p ⊎ HasPartner ps o → HasPartner (p ∷ ps) o
    there (inl pair) = (p, inl refl, pair)
    there (inr (q, i, pair)) = (q, inr i, pair)

    back : HasPartner (p ∷ ps) o → AreOnePair o p ⊎ HasPartner ps o
    back (q, inl e, pair) = inl (subst (λ r. AreOnePair o r) e pair)
    back (q, inr i, pair) = inr (q, i, pair)

pub alone_decides : (os : List Operation) (o : Operation) → Decides (is_alone os o) (IsHalf o.content × (HasPartner os o → ⊥))
alone_decides os o = Decides-and (is_half o.content) (not (has_partner os o)) (half_decides o.content) (Decides-not (has_partner os o) (partner_decides os o))

-- ---- whole pairs

-- each half has a partner in the list
abbrev pub HasPartners : List Operation → Type 0
HasPartners os = (o : Operation) → IsIn o os → IsHalf o.content → HasPartner os o

pub paired_has : (os : List Operation) → ArePaired os → HasPartners os
paired_has os paired o i (inl high) = let (p, j, e) = paired.high o i ((high_unit o.content).1 high) in (p, j, inl ((partners_decide o p).0 e))
paired_has os paired o i (inr low) = let (p, j, e) = paired.low o i ((low_unit o.content).1 low) in (p, j, inr ((partners_decide p o).0 e))

pub has_paired : (os : List Operation) → HasPartners os → ArePaired os
has_paired os partners = record {
  high = λ o i e. let high : IsHighUnit o.content = (high_unit o.content).0 e in let (p, j, pair) = partners o i (inl high) in (p, j, (partners_decide o p).1 (high_partner o p high pair));
  low = λ o i e. let low : IsLowUnit o.content = (low_unit o.content).0 e in let (p, j, pair) = partners o i (inr low) in (p, j, (partners_decide p o).1 (low_partner o p low pair));
}

-- ---- what is mended

pub as_torn-id : (torn : Bool) (o : Operation) → (as_torn torn o).id ≡ o.id
as_torn-id true o = refl
as_torn-id false o = refl

-- what is torn is no half
pub torn_no_half : (o : Operation) → IsHalf (as_torn true o).content → ⊥
torn_no_half o (inl high) = absurd (omega arith)
torn_no_half o (inr low) = absurd (omega arith)

pub in_map : (f : Operation → Operation) (os : List Operation) (q : Operation) → IsIn q (map f os) → (p : Operation) × IsIn p os × (q ≡ f p)
in_map f [] q i = absurd i
in_map f (p ∷ ps) q (inl e) = (p, inl refl, e)
in_map f (p ∷ ps) q (inr i) = let (r, j, e) = in_map f ps q i in (r, inr j, e)

pub map_has : (f : Operation → Operation) (os : List Operation) (p : Operation) → IsIn p os → IsIn (f p) (map f os)
map_has f [] p i = absurd i
map_has f (q ∷ qs) p (inl e) = inl (ap f e)
map_has f (q ∷ qs) p (inr i) = inr (map_has f qs p i)

map_same : (f : Operation → Operation) (os : List Operation) → ((o : Operation) → IsIn o os → f o ≡ o) → map f os ≡ os
map_same f [] same = refl
map_same f (o ∷ os) same = ap₂ (λ p ps. p ∷ ps) (same o (inl refl)) (map_same f os (λ p i. same p (inr i)))

map_written : (f : Operation → Operation) → ((o : Operation) → (f o).id ≡ o.id) → (os : List Operation) → IsWritten os → IsWritten (map f os)
map_written f ids [] w = tt
map_written f ids (o ∷ os) w = (
  (λ p i. let (q, j, e) = in_map f os p i in
      subst (λ x. is_written_before x p.id ≡ true) (sym (ids o)) (subst (λ x. is_written_before o.id x ≡ true) (sym (ap (λ (r : Operation). r.id) e ∙ ids q)) (w.0 q j))),
  map_written f ids os w.1,
)

module _ (os : List Operation) where
  abbrev as_mended : Operation → Operation
  as_mended o = as_torn (is_alone os o) o

  as_mended-id : (o : Operation) → (as_mended o).id ≡ o.id
  as_mended-id o = as_torn-id (is_alone os o) o

  -- what is mended is what was there, or a half that was alone and is torn
  pub mended_is : (q : Operation) → IsIn q (mended os) →
      IsIn q os ⊎ ((o : Operation) × IsIn o os × IsHalf o.content × (HasPartner os o → ⊥) × (q ≡ as_torn true o))
  mended_is q i = let (p, j, e) = in_map as_mended os q i in go p j e (cases_Bool (is_alone os p))
    where
      go : (p : Operation) → IsIn p os → q ≡ as_mended p → (is_alone os p ≡ true) ⊎ (is_alone os p ≡ false) →
          IsIn q os ⊎ ((o : Operation) × IsIn o os × IsHalf o.content × (HasPartner os o → ⊥) × (q ≡ as_torn true o))
      go p j e (inl alone) = let facts = (alone_decides os p).0 alone in inr (p, j, facts.0, facts.1, e ∙ ap (λ t. as_torn t p) alone)
      go p j e (inr whole) = inl (subst (λ r. IsIn r os) (sym (e ∙ ap (λ t. as_torn t p) whole)) j)

  -- of each id that was there one is there, which says as much
  pub mended_keeps : (p : Operation) → IsIn p os → (q : Operation) × IsIn q (mended os) × (q.id ≡ p.id) × (level_of q.content ≡ level_of p.content)
  mended_keeps p i = (
    as_mended p,
    map_has as_mended os p i,
    as_mended-id p,
    elim (cases_Bool (is_alone os p)) [
      | inl alone ↦ rw alone (sym (half_full p.content ((alone_decides os p).0 alone).0))
      | inr whole ↦ rw whole refl
    ],
  )

  pub mended_written : IsWritten os → IsWritten (mended os)
  mended_written w = map_written as_mended as_mended-id os w

  stays : (o : Operation) → HasPartner os o → as_mended o ≡ o
  stays o there = elim (cases_Bool (is_alone os o)) [
    | inl alone ↦ absurd (((alone_decides os o).0 alone).1 there)
    | inr whole ↦ ap (λ t. as_torn t o) whole
  ]

  -- pairs are whole then
  pub mended_partners : HasPartners (mended os)
  mended_partners q i half = let (p, j, e) = in_map as_mended os q i in go p j e (cases_Bool (is_alone os p))
    where
      with_partner : (p : Operation) → IsIn p os → q ≡ p → HasPartner os p → HasPartner (mended os) q
      with_partner p j same (r, k, pair) =
          (r, subst (λ t. IsIn t (mended os)) (stays r (p, j, pair_flip p r pair)) (map_has as_mended os r k), subst (λ t. AreOnePair t r) (sym same) pair)

      go : (p : Operation) → IsIn p os → q ≡ as_mended p → (is_alone os p ≡ true) ⊎ (is_alone os p ≡ false) → HasPartner (mended os) q
      go p j e (inl alone) = absurd (torn_no_half p (subst (λ (r : Operation). IsHalf r.content) (e ∙ ap (λ t. as_torn t p) alone) half))
      go p j e (inr whole) =
          let same : q ≡ p = e ∙ ap (λ t. as_torn t p) whole in
          elim (cases_Bool (has_partner os p)) [
            | inl there ↦ with_partner p j same ((partner_decides os p).0 there)
            | inr none ↦ absurd (true≢false (sym ((alone_decides os p).1 (
              subst (λ (r : Operation). IsHalf r.content) same half,
              (λ there. true≢false (sym ((partner_decides os p).1 there) ∙ none)),
            )) ∙ whole))
          ]

  -- and where they were whole, nothing changes
  pub mended_whole : HasPartners os → mended os ≡ os
  mended_whole partners = map_same as_mended os (λ o i. elim (cases_Bool (is_half o.content)) [
    | inl half ↦ stays o (partners o i ((half_decides o.content).0 half))
    | inr other ↦ rw other refl
  ])
