use Rattle.std.proofs.Common.{sym, subst}
use Rattle.yd_ids.specs.Vector.{clock_of}
use Rattle.yd_ops.specs.Valid.{IsValidUpdate}
use Rattle.yd_ops.specs.View.{update_value}
use Rattle.yd_grouping.proofs.CutLemmas.{cut_valid}
use Rattle.yd_merge.proofs.cutting.cut.Goals as goal

pub returns-clause-valid : goal.returns-clause-valid
returns-clause-valid c = subst IsValidUpdate (sym c.in_ok-cut.ensures) (cut_valid (update_value c.args.update.now) (clock_of c.args.vector.now) c.requires)
