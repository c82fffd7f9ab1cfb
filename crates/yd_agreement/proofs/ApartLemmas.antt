-- That operations have the same content or the same place is decided.
use Rattle.std.specs.Prelude.{Decides, ◌&&◌}
use Rattle.std.proofs.Common.{◌≡◌, Bool, true, false, ◌⊎◌, inl, inr, refl, sym, ap, true≢false}
use Rattle.yd_ids.specs.Ids.{is_same_neighbour}
use Rattle.yd_meaning.specs.Names.{same_carried}
use Rattle.yd_ops.specs.Operation.{Operation}
use Rattle.yd_grouping.specs.Sameness.{same_content}
use Rattle.yd_grouping.proofs.BreakingLemmas.{same_all}
use Rattle.yd_grouping.proofs.SamenessLemmas.{content_decides}
use Rattle.yd_agreement.specs.Differing.{Place, content_of, place_of}

decided : {P : Type 0} (b : Bool) → Decides b P → P ⊎ (P → ⊥)
decided true d = inl (d.0 refl)
decided false d = inr (λ p. true≢false (sym (d.1 p)))

-- ---- lemmas for callers

pub contents_apart : (o p : Operation) → (content_of o ≡ content_of p) ⊎ (content_of o ≡ content_of p → ⊥)
contents_apart o p = decided (same_content o.content p.content) (content_decides o.content p.content)

pub places_apart : (o p : Operation) → (place_of o ≡ place_of p) ⊎ (place_of o ≡ place_of p → ⊥)
places_apart o p = elim (decided (is_same_neighbour o.left_origin p.left_origin && is_same_neighbour o.right_origin p.right_origin && same_carried o.list p.list) (same_all o p)) [
  | inl e ↦ inl (λ i. record { left = e.0 i; right = e.1 i; list = e.2 i })
  | inr differ ↦ inr (λ e. differ (ap (λ (q : Place). q.left) e, ap (λ (q : Place). q.right) e, ap (λ (q : Place). q.list) e))
]
