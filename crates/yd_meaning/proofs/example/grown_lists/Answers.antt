use Rattle.std.proofs.Common.{[], ◌∷◌, inl, inr, refl, ap, arith}
use Rattle.yd_words.specs.Member.{IsIn}
use Rattle.yd_ids.specs.declared.id.Id.{Id}
use Rattle.yd_ids.specs.Ids.{HasSmallerClock}
use Rattle.yd_meaning.specs.Example.{first_id, in_root}
use Rattle.yd_meaning.specs.Grown.{IsGrown}
use Rattle.yd_meaning.specs.GrownExample.{followed, both_at_front, second_id}
use Rattle.yd_meaning.proofs.example.grown_lists.Goals as goal

kept : IsGrown followed in_root (first_id 1 ∷ first_id 2 ∷ [])
kept = record {
  news = first_id 1 ∷ first_id 2 ∷ [];
  arranged = (
    (λ i. i),
    inr (inl refl),
    tt,
    tt,
    (λ y i c. absurd (omega (arith, c.1))),
    (not_first, inl refl, inl refl, tt, (λ y i c. absurd (omega (arith, c.1))), tt),
  );
  grown = refl;
}
  where
    not_first : IsIn (first_id 2) (first_id 1 ∷ []) → ⊥
    not_first (inl e) = absurd (omega (arith, ap (λ (x : Id). x.client.0) e))
    not_first (inr i) = i

broken : IsGrown both_at_front in_root (second_id ∷ first_id 1 ∷ [])
broken = record {
  news = first_id 1 ∷ second_id ∷ [];
  arranged = (
    (λ i. i),
    inl refl,
    tt,
    tt,
    (λ y i c. absurd (omega (arith, c.1))),
    (not_first, inr (inl refl), tt, tt, smaller, tt),
  );
  grown = refl;
}
  where
    not_first : IsIn second_id (first_id 1 ∷ []) → ⊥
    not_first (inl e) = absurd (omega (arith, ap (λ (x : Id). x.clock) e))
    not_first (inr i) = i

    smaller : (y : Id) → IsIn y (first_id 1 ∷ second_id ∷ []) → HasSmallerClock y second_id → IsIn y (first_id 1 ∷ [])
    smaller y (inl e) c = inl e
    smaller y (inr (inl e)) c = absurd (omega (arith, ap (λ (x : Id). x.clock) e, c.1))
    smaller y (inr (inr i)) c = absurd i

pub returns : goal.returns
returns c = record { kept = kept; kept_order = refl; broken = broken; broken_order = refl }
