use Rattle.yd_ids.proofs.MaximumLemmas.{maximum_vector, maximum_clocks, maximum_alone}
use Rattle.yd_ids.proofs.law.maximum_has_greater.Goals as goal

pub returns : goal.returns
returns c = record { vector = maximum_vector; clocks = maximum_clocks; alone = maximum_alone }
