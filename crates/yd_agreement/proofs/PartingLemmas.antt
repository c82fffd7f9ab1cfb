-- Pairs of which just one half is spelled less than full: the cover at the high half has the pair, or there the contents differ.
use Rattle.std.proofs.Common.{◌≡◌, ℕ, ◌-◌, ◌<◌, false, List, ◌⊎◌, inl, inr, Some, None, refl, sym, ap, ◌∙◌, subst, arith, tests}
use Rattle.yd_words.specs.Member.{IsIn}
use Rattle.yd_words.proofs.MemberLemmas.{each_in}
use Rattle.yd_ids.specs.Ids.{is_smaller}
use Rattle.yd_ids.specs.declared.id.Id.{Id}
use Rattle.yd_ids.proofs.IdLemmas.{same_numbers}
use Rattle.yd_ops.specs.Operation.{IsHighUnit, Operation, later_id, operations_of_run}
use Rattle.yd_ops.specs.Valid.{IsValidContent}
use Rattle.yd_ops.specs.Value.{RunValue}
use Rattle.yd_ops.proofs.PartnerLemmas.{high_partner, partners_decide}
use Rattle.yd_ops.proofs.RunLemmas.{run_partners}
use Rattle.yd_agreement.specs.Differing.{DifferAmong, content_of}
use Rattle.yd_agreement.specs.First.{IsFirstBut}
use Rattle.yd_agreement.specs.Parting.{AreWhole, HasPair, HavePair, IsPartedAt}
use Rattle.yd_agreement.specs.Runs.{ComesBy, EndsBy}
use Rattle.yd_agreement.specs.Sweep.{IsCoverAt}
use Rattle.yd_agreement.proofs.ApartLemmas.{contents_apart}
use Rattle.yd_agreement.proofs.PairingLemmas.{pair_id}
use Rattle.yd_agreement.proofs.SweepLemmas.{HasId as HasIdOf, with_id}

-- ---- at the cover

-- a run that has the id begins by it
begun : (r : RunValue) (x : Id) → HasIdOf r x → ComesBy r.id x
begun r x has = inr (has.client, has.begins)

-- the one that ends last has the id too
cover_has : (runs : List RunValue) (x : Id) (cover r : RunValue) → IsCoverAt runs x cover → IsIn r runs → HasIdOf r x → HasIdOf cover x
cover_has runs x cover r is i has = go is.begins (is.last r i (begun r x has))
  where
    go : ComesBy cover.id x → EndsBy r cover → HasIdOf cover x
    go (inl less) (inl more) = absurd (omega (arith, less, more, ap (λ c. c.0) has.client))
    go (inl less) (inr (same, le)) = absurd (omega (arith, less, ap (λ c. c.0) same, ap (λ c. c.0) has.client))
    go (inr (one, le)) (inl more) = absurd (omega (arith, more, ap (λ c. c.0) one, ap (λ c. c.0) has.client))
    go (inr (one, le)) (inr (same, ends)) = record { client = one; begins = le; ends = omega (arith, ends, has.ends) }

-- an operation whose content is a high half has its low half in a run with a valid content
with_low : (run : RunValue) → IsValidContent run.content → (o : Operation) → IsIn o (operations_of_run run) → IsHighUnit o.content → HasPair run o.id
with_low run valid o i high = let (p, j, one) = run_partners run valid o i (inl high) in record {
  high = o;
  low = p;
  high_there = i;
  low_there = j;
  id = refl;
  partners = (partners_decide o p).1 (high_partner o p high one);
}

pub pair_of_high : (run : RunValue) → IsValidContent run.content → (o : Operation) → IsIn o (operations_of_run run) → IsHighUnit o.content → HasPair run o.id
pair_of_high run valid o i high = with_low run valid o i high

pair_at_cover : (runs : List RunValue) (x : Id) (cover : RunValue) → AreWhole runs → IsCoverAt runs x cover → HavePair runs x → HasPair cover x ⊎ DifferAmong content_of runs x
pair_at_cover runs x cover whole is have = go (with_id cover x (cover_has runs x cover have.run is have.there (pair_id have.run x have.pair)))
  where
    high : Operation
    high = have.pair.high

    is_high : IsHighUnit high.content
    is_high = ((partners_decide high have.pair.low).0 have.pair.partners).high_half

    go : (q : Operation) × IsIn q (operations_of_run cover) × (q.id ≡ x) → HasPair cover x ⊎ DifferAmong content_of runs x
    go (q, j, e) = elim (contents_apart q high) [
      | inl same ↦ inl (subst (HasPair cover) e
          (with_low cover (each_in (λ (run : RunValue). IsValidContent run.content) runs whole cover is.there) q j (subst IsHighUnit (sym same) is_high)))
      | inr differ ↦ inr (record {
        one = cover;
        other = have.run;
        one_there = is.there;
        other_there = have.there;
        differ = record { one = q; other = high; one_there = j; other_there = have.pair.high_there; id = e; other_id = have.pair.id; differ = differ };
      })
    ]

-- ---- the pair with a low half

not_smaller_itself : (x : Id) → is_smaller x x ≡ false
not_smaller_itself x = grind (arith, tests)

module _ (runs : List RunValue) (low : Id) where
  -- the first clock has none before it
  pub first_clock : low.clock ≡ 0 → IsFirstBut (IsPartedAt runs low) (DifferAmong content_of runs) None
  first_clock zero x p = absurd (omega (arith, zero, ap (λ (y : Id). y.clock) p.1))

  module _ (high : Id) (is : high ≡ record { client = low.client; clock = low.clock - 1 }) (some : low.clock ≡ 0 → ⊥) where
    high_of : (x : Id) → later_id x 1 ≡ low → x ≡ high
    high_of x e = same_numbers x high (ap (λ (y : Id). y.client.0) e ∙ sym (ap (λ (y : Id). y.client.0) is))
        (omega (arith, ap (λ (y : Id). y.clock) e, ap (λ (y : Id). y.clock) is))

    low_of : later_id high 1 ≡ low
    low_of = same_numbers (later_id high 1) low (ap (λ (y : Id). y.client.0) is) (elim (zero_or low.clock) [
      | inl zero ↦ absurd (some zero)
      | inr more ↦ omega (arith, more, ap (λ (y : Id). y.clock) is)
    ])
      where
        zero_or : (n : ℕ) → (n ≡ 0) ⊎ (0 < n)
        zero_or n = grind arith

    pub no_run : ((r : RunValue) → IsIn r runs → ComesBy r.id high → ⊥) → IsFirstBut (IsPartedAt runs low) (DifferAmong content_of runs) None
    no_run none x (have, e) = absurd (none have.run have.there (subst (ComesBy have.run.id) (high_of x e) (begun have.run x (pair_id have.run x have.pair))))

    pub cover_pair : (cover : RunValue) → IsCoverAt runs high cover → HasPair cover high → IsFirstBut (IsPartedAt runs low) (DifferAmong content_of runs) (Some high)
    cover_pair cover is_cover pair = (
      (record { run = cover; there = is_cover.there; pair = pair }, low_of),
      λ y p. inr (subst (λ z. is_smaller z high ≡ false) (sym (high_of y p.1)) (not_smaller_itself high)),
    )

    pub no_pair : (cover : RunValue) → AreWhole runs → IsCoverAt runs high cover → (HasPair cover high → ⊥) → IsFirstBut (IsPartedAt runs low) (DifferAmong content_of runs) None
    no_pair cover whole is_cover none x (have, e) = elim (pair_at_cover runs high cover whole is_cover (subst (HavePair runs) (high_of x e) have)) [
      | inl pair ↦ absurd (none pair)
      | inr differ ↦ subst (DifferAmong content_of runs) (sym (high_of x e)) differ
    ]
