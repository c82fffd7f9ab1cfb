use Rattle.yd_ops.specs.Valid.{IsValidUpdate}
use Rattle.yd_ops.specs.View.{update_value}
use Rattle.yd_ops.proofs.EachLemmas.{each_read}
use Rattle.yd_merge.proofs.lending.lend_updates.Goals as goal

pub lend_update-requires-clause-update : goal.lend_update-requires-clause-update
lend_update-requires-clause-update c = each_read update_value IsValidUpdate c.args.updates.now c.loop-update.update-index c.update-item.result c.requires.updates c.loop-update-test.true c.update-item.is
