use Rattle.std.proofs.Common.{ap}
use Rattle.yd_grouping.specs.Merged.{received_grouped}
use Rattle.yd_grouping.proofs.MergeLemmas.{merge_received, merge_first, merge_any_order}
use Rattle.yd_grouping.proofs.MergedPartsLemmas.{merges_received}
use Rattle.yd_grouping.proofs.law.merge_is_receiving_all.Goals as goal

pub returns : goal.returns
returns c = record { alone = merge_received; first = merge_first; any_order = merge_any_order; parts = merges_received; parts_merge = λ parts valid agree. ap received_grouped (merges_received parts valid agree) }
