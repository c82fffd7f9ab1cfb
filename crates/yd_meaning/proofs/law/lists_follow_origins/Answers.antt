use Rattle.yd_meaning.specs.Held.{held_set, standing}
use Rattle.yd_meaning.proofs.HeldListLemmas.{list_of-one}
use Rattle.yd_meaning.proofs.VectorLemmas.{held_written}
use Rattle.yd_meaning.proofs.StandingTableLemmas.{standing_table}
use Rattle.yd_meaning.proofs.law.lists_follow_origins.Goals as goal

pub returns : goal.returns
returns c = λ received written. list_of-one (standing (held_set received)) (standing_table (held_set received) (held_written received written))
