use Rattle.yd_ops.specs.Valid.{IsValidUnit}
use Rattle.yd_ops.specs.View.{unit_value}
use Rattle.yd_fields.proofs.WritableLemmas.{each_map_at}
use Rattle.yd_fields.proofs.content_writing.write_units.Goals as goal

pub write_unit-requires : goal.write_unit-requires
write_unit-requires g c = each_map_at IsValidUnit unit_value c.args.units.now c.loop-unit.unit-index c.unit-item.result c.loop-unit-test.true c.unit-item.is c.requires
