use Rattle.std.proofs.Common.{subst}
use Rattle.yd_listing.specs.Listing.{units_to_come, IsAround}
use Rattle.yd_state.specs.State.{document_in, IsSound}
use Rattle.yd_state.specs.Lent.{lent_units}
use Rattle.yd_state.proofs.DocumentLemmas.{seen_sound, tells_seen, told_seen}
use Rattle.yd_state.proofs.LentLemmas.{units_received}
use Rattle.yd_state.proofs.state.State.list_around.Goals as goal

pub list_around-requires : goal.list_around-requires
list_around-requires c = told_seen _ c.self.invariant

pub returns-clause-around : goal.returns-clause-around
returns-clause-around c = subst (λ s. IsAround c.args.id (lent_units (document_in s) c.args.list.now) (units_to_come c.list_around.result)) c.self.view_is
    (c.list_around.ensures _ (tells_seen _ c.self.invariant))

pub returns-clause-received : goal.returns-clause-received
returns-clause-received c = units_received c.args.self.now (subst IsSound c.self.view_is (seen_sound _ c.self.invariant)) c.args.list.now
