use Rattle.std.proofs.Common.{subst}
use Rattle.yd_listing.specs.Lending.{units_of_run}
use Rattle.yd_listing.specs.Listing.{EndIn, units_to_come}
use Rattle.yd_state.specs.Lent.{units_left, units_of_view}
use Rattle.yd_state.proofs.ViewLemmas.{end_both}
use Rattle.yd_state.proofs.listing.ListView.last.Goals as goal

pub returns-clause-last : goal.returns-clause-last
returns-clause-last c = subst (λ walk. EndIn (units_left walk) (units_of_view c.end_of.result)) c.self.view_is
    (end_both (units_to_come c.self.inside.units) (units_of_run c.in_ok-run.run') (units_of_view c.end_of.result) c.in_ok-run.ensures.last c.end_of.ensures.last)
