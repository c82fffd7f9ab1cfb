use Rattle.yd_ops.specs.Valid.{IsValidUpdate}
use Rattle.yd_ops.specs.View.{update_value}
use Rattle.yd_ops.proofs.EachLemmas.{each_read}
use Rattle.yd_agreement.specs.Sweep.{runs_in}
use Rattle.yd_agreement.proofs.EndsLemmas.{parted_next}
use Rattle.yd_agreement.proofs.parting.first_parted.Goals as goal

pub less_in-requires : goal.less_in-requires
less_in-requires c = each_read update_value IsValidUpdate c.args.updates.now c.loop-update.update-index c.update-item.result c.requires.valid
    c.loop-update-test.true c.update-item.is

pub loop-update-preserved : goal.loop-update-preserved
loop-update-preserved c = parted_next (runs_in c.args.full.now) c.args.updates.now c.loop-update.update-index c.update-item.result c.in_ok-less.less c.loop-update.first
    c.parted_by.result c.first_of-first.result c.loop-update-test.true c.update-item.is c.in_ok-less.ensures c.loop-update.invariant c.parted_by.ensures c.first_of-first.ensures
