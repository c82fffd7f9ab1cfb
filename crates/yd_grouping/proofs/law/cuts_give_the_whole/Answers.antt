use Rattle.yd_grouping.proofs.RestLemmas.{cut_whole, rest_groupable, rest_is}
use Rattle.yd_grouping.proofs.law.cuts_give_the_whole.Goals as goal

pub returns : goal.returns
returns c = record { operations = rest_is; groupable = rest_groupable; whole = cut_whole }
