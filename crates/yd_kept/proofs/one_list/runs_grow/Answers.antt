use Rattle.yd_kept.proofs.PlacingLemmas.{grows_into}
use Rattle.yd_kept.proofs.one_list.runs_grow.Goals as goal

pub returns : goal.returns
returns c = grows_into
