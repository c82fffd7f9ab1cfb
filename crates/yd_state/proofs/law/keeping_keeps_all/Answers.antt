use Rattle.yd_state.proofs.PlacingLawLemmas.{keeping_keeps_all}
use Rattle.yd_state.proofs.law.keeping_keeps_all.Goals as goal

pub returns : goal.returns
returns c = keeping_keeps_all
