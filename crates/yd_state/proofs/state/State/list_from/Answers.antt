use Rattle.std.proofs.Common.{subst}
use Rattle.yd_listing.specs.Listing.{units_to_come, IsFrom}
use Rattle.yd_state.specs.State.{document_in}
use Rattle.yd_state.specs.Lent.{lent_units}
use Rattle.yd_state.proofs.DocumentLemmas.{tells_seen, told_seen}
use Rattle.yd_state.proofs.state.State.list_from.Goals as goal

pub list_from-requires : goal.list_from-requires
list_from-requires c = told_seen _ c.self.invariant

pub returns : goal.returns
returns c = subst (λ s. IsFrom c.args.id (lent_units (document_in s) c.args.list.now) (units_to_come c.list_from.result)) c.self.view_is
    (c.list_from.ensures _ (tells_seen _ c.self.invariant))
