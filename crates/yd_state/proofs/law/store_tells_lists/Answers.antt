use Rattle.yd_state.proofs.PlacingLawLemmas.{store_tells_lists}
use Rattle.yd_state.proofs.law.store_tells_lists.Goals as goal

pub returns : goal.returns
returns c = store_tells_lists
