use Rattle.yd_state.proofs.PlacingLawLemmas.{entries_can_be_placed}
use Rattle.yd_state.proofs.law.entries_can_be_placed.Goals as goal

pub returns : goal.returns
returns c = entries_can_be_placed
