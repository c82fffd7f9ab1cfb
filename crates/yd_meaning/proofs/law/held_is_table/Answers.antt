use Rattle.yd_meaning.specs.Held.{held_set}
use Rattle.yd_meaning.proofs.VectorLemmas.{held_written}
use Rattle.yd_meaning.proofs.StandingTableLemmas.{standing_table}
use Rattle.yd_meaning.proofs.law.held_is_table.Goals as goal

pub returns : goal.returns
returns c = λ received written. standing_table (held_set received) (held_written received written)
