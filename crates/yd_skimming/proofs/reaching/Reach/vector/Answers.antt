use Rattle.std.proofs.Common.{refl, sym, subst}
use Rattle.yd_merge.specs.Lending.{updates_groups}
use Rattle.yd_merge.proofs.ReachingLemmas.{reach_all}
use Rattle.yd_skimming.specs.Reaching.{AreIdsOf}
use Rattle.yd_skimming.proofs.reaching.Reach.vector.Goals as goal

pub returns-in-Ok : goal.returns-in-Ok
returns-in-Ok c = λ updates valid has. reach_all updates (updates_groups updates) c.in-Ok.vector valid refl c.in-Ok.ensures.vector
    (c.in-Ok.ensures.reaches (updates_groups updates) (subst (λ spans. AreIdsOf spans (updates_groups updates)) (sym c.self.view_is) has))
