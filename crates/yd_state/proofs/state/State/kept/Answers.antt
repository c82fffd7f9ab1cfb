use Rattle.std.proofs.Common.{subst}
use Rattle.yd_listing.specs.Listing.{Tells}
use Rattle.yd_state.specs.State.{document_in}
use Rattle.yd_state.proofs.DocumentLemmas.{tells_seen, told_seen}
use Rattle.yd_state.proofs.state.State.kept.Goals as goal

pub returns-clause-tells : goal.returns-clause-tells
returns-clause-tells c = subst (λ s. Tells c.self.inside.kept (document_in s)) c.self.view_is (tells_seen _ c.self.invariant)

pub returns-clause-told : goal.returns-clause-told
returns-clause-told c = told_seen _ c.self.invariant
