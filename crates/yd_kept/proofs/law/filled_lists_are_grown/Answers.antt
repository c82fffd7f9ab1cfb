use Rattle.yd_kept.proofs.TellingLemmas.{filled_lists_are_grown}
use Rattle.yd_kept.proofs.law.filled_lists_are_grown.Goals as goal

pub returns : goal.returns
returns c = filled_lists_are_grown
