use Rattle.std.proofs.Common.{map, sym, subst}
use Rattle.yd_ops.specs.Valid.{IsValidUpdate}
use Rattle.yd_ops.specs.View.{update_value}
use Rattle.yd_grouping.proofs.MergeLemmas.{merge_valid}
use Rattle.yd_merge.proofs.merging.merge.Goals as goal

pub returns-clause-valid : goal.returns-clause-valid
returns-clause-valid c = subst IsValidUpdate (sym c.in_ok-merged.ensures) (merge_valid (map update_value c.args.updates.now) c.requires)
