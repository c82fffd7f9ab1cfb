use Rattle.yd_grouping.proofs.CutLemmas.{cut_has, cut_groupable, cut-all}
use Rattle.yd_grouping.proofs.law.cuts_are_from_vector.Goals as goal

pub returns : goal.returns
returns c = record { operations = cut_has; groupable = cut_groupable; all = cut-all }
