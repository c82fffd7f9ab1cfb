use Rattle.std.proofs.Common.{◌≡◌, subst}
use Rattle.yd_state.specs.State.{document_in}
use Rattle.yd_state.specs.Lent.{last_unit}
use Rattle.yd_state.proofs.DocumentLemmas.{tells_seen, told_seen}
use Rattle.yd_state.proofs.state.State.last_of.Goals as goal

pub last_of-requires : goal.last_of-requires
last_of-requires c = told_seen _ c.self.invariant

pub returns : goal.returns
returns c = subst (λ s. c.last_of.result ≡ last_unit (document_in s) c.args.list.now) c.self.view_is
    (c.last_of.ensures _ (tells_seen _ c.self.invariant))
