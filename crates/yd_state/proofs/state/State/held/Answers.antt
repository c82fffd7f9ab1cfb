use Rattle.std.proofs.Common.{subst}
use Rattle.yd_state.specs.State.{IsSound}
use Rattle.yd_state.proofs.DocumentLemmas.{seen_sound}
use Rattle.yd_state.proofs.state.State.held.Goals as goal

pub returns-clause-sound : goal.returns-clause-sound
returns-clause-sound c = subst IsSound c.self.view_is (seen_sound _ c.self.invariant)
