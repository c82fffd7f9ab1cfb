use Rattle.yd_ids.proofs.MaximumLemmas.{maximum_groups, maximum_commutes, maximum_again}
use Rattle.yd_ids.proofs.law.maxima_join.Goals as goal

pub returns : goal.returns
returns c = record { associative = maximum_groups; commutative = maximum_commutes; idempotent = maximum_again }
