use Rattle.yd_grouping.proofs.MergeLemmas.{merge-operations, merge_deletes, merge_valid, merge_grouped}
use Rattle.yd_grouping.proofs.MergedIdsLemmas.{merge_ids}
use Rattle.yd_grouping.proofs.law.merge_is_received.Goals as goal

pub returns : goal.returns
returns c = record { operations = merge-operations; deletes = merge_deletes; valid = merge_valid; grouped = merge_grouped; ids = merge_ids }
