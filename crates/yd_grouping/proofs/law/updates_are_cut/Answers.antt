use Rattle.yd_grouping.proofs.AgainLemmas.{cut_again}
use Rattle.yd_grouping.proofs.CutLemmas.{cut_deletes, cut-operations, cut_valid, cut_grouped}
use Rattle.yd_grouping.proofs.law.updates_are_cut.Goals as goal

pub returns : goal.returns
returns c = record { operations = cut-operations; deletes = cut_deletes; valid = cut_valid; grouped = cut_grouped; again = cut_again }
