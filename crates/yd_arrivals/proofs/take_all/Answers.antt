use Rattle.yd_ops.specs.Valid.{IsValidUpdate}
use Rattle.yd_ops.specs.View.{update_value}
use Rattle.yd_ops.proofs.EachLemmas.{each_read}
use Rattle.yd_arrivals.proofs.take_all.Goals as goal

pub apply-requires : goal.apply-requires
apply-requires c = each_read update_value IsValidUpdate c.args.updates.now c.loop-update.update-index c.update-item.result c.requires c.loop-update-test.true c.update-item.is
