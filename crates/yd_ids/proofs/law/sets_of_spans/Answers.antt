use Rattle.yd_ids.proofs.SetOfLemmas.{set_of_maximal, set_of_ids, set_of_alone, set_of_same, set_of_set}
use Rattle.yd_ids.proofs.law.sets_of_spans.Goals as goal

pub returns : goal.returns
returns c = record { maximal = set_of_maximal; ids = set_of_ids; alone = set_of_alone; same = set_of_same; itself = set_of_set }
