use Rattle.yd_grouping.proofs.DescendingLemmas.{clients_descend}
use Rattle.yd_grouping.proofs.GroupedLemmas.{groupable-operations, grouping_valid, grouping_grouped}
use Rattle.yd_grouping.proofs.law.grouping_keeps.Goals as goal

pub returns : goal.returns
returns c = record { operations = groupable-operations; valid = grouping_valid; grouped = grouping_grouped; clients = clients_descend }
