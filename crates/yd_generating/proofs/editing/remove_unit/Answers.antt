use Rattle.yd_ops.specs.View.{update_value}
use Rattle.yd_generating.proofs.DrawnLemmas.{unit_removed, removal_refused}
use Rattle.yd_generating.proofs.editing.remove_unit.Goals as goal

pub returns-in-Ok-clause-done : goal.returns-in-Ok-clause-done
returns-in-Ok-clause-done c = unit_removed c.args.replica.now c.delete.new.replica c.args.list.now c.requires c.args.index (update_value c.in-Ok._update) c.in-Ok.ensures.done

pub returns-in-Err-clause-refused : goal.returns-in-Err-clause-refused
returns-in-Err-clause-refused c = removal_refused c.args.replica.now c.args.list.now c.requires c.args.index c.in-Err.fault c.in-Err.ensures.refused
