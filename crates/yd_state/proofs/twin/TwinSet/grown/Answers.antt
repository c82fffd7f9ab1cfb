use Rattle.std.proofs.Common.{◌≡◌, inl, inr, subst}
use Rattle.yd_ids.specs.Set.{union_of}
use Rattle.yd_ids.proofs.UnionLemmas.{union_alone}
use Rattle.yd_state.proofs.twin.TwinSet.grown.Goals as goal

pub returns-then-has_all-clause-grown : goal.returns-then-has_all-clause-grown
returns-then-has_all-clause-grown c = subst (λ set. set ≡ union_of set c.args.more.now) c.self.view_is
    (union_alone c.self.inside.ids c.self.inside.ids c.args.more.now c.spans.ensures.maximal c.spans.ensures.maximal c.spans-2.ensures.maximal (λ x. (
      (λ h. inl h),
      (λ e. elim e [ inl a ↦ a | inr b ↦ c.has_all.ensures.0 c.if-has_all.true x b ]),
    )))
