use Rattle.std.proofs.Common.{◌≡◌, subst}
use Rattle.yd_listing.specs.Listing.{units_to_come}
use Rattle.yd_state.specs.State.{document_in, IsSound}
use Rattle.yd_state.specs.Lent.{lent_units}
use Rattle.yd_state.proofs.DocumentLemmas.{seen_sound, tells_seen, told_seen}
use Rattle.yd_state.proofs.LentLemmas.{units_received}
use Rattle.yd_state.proofs.state.State.list.Goals as goal

pub list-requires : goal.list-requires
list-requires c = told_seen _ c.self.invariant

pub returns-clause-units : goal.returns-clause-units
returns-clause-units c = subst (λ s. units_to_come c.list.result ≡ lent_units (document_in s) c.args.list.now) c.self.view_is
    (c.list.ensures _ (tells_seen _ c.self.invariant))

pub returns-clause-received : goal.returns-clause-received
returns-clause-received c = units_received c.args.self.now (subst IsSound c.self.view_is (seen_sound _ c.self.invariant)) c.args.list.now

pub returns-clause-whole : goal.returns-clause-whole
returns-clause-whole c = (subst IsSound c.self.view_is (seen_sound _ c.self.invariant)).received.paired
