use Rattle.std.proofs.Common.{sym, subst}
use Rattle.yd_ops.specs.View.{unit_value}
use Rattle.yd_ops.specs.Valid.{IsValidUnit}
use Rattle.yd_ops.proofs.EachLemmas.{each_read}
use Rattle.yd_copying.proofs.values.add_each_of.Goals as goal

pub copy-requires : goal.copy-requires
copy-requires c = each_read unit_value IsValidUnit c.args.units.now c.loop-unit.unit-index c.unit-item.result c.requires c.loop-unit-test.true c.unit-item.is

pub push-requires : goal.push-requires
push-requires c = subst IsValidUnit (sym c.in_ok-copy.ensures)
    (each_read unit_value IsValidUnit c.args.units.now c.loop-unit.unit-index c.unit-item.result c.requires c.loop-unit-test.true c.unit-item.is)
