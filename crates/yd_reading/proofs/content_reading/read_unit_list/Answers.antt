use Rattle.std.proofs.Common.{◌∙◌, sym, map}
use Rattle.yd_ops.specs.View.{unit_value}
use Rattle.yd_fields.specs.StructPlan.{unit_step}
use Rattle.yd_parts.proofs.FaultLemmas.{passes_on}
use Rattle.yd_parts.proofs.PlanLemmas.{repeated_more, repeated_fails, repeated_done}
use Rattle.yd_reading.proofs.content_reading.read_unit_list.Goals as goal

pub loop-preserved : goal.loop-preserved
loop-preserved g c =
    sym (repeated_more g.R.FieldReader.field_at g.R.FieldReader.spot_of unit_step c.args.count c.loop.counter (map unit_value c.loop.units) (map unit_value c.read_unit.new.units) c.loop.reader c.read_unit.new.reader c.loop-test.true c.in_ok-read_unit.ensures.taken)
    ∙ c.loop.invariant

pub returns : goal.returns
returns g c = sym c.loop.invariant ∙ repeated_done g.R.FieldReader.field_at g.R.FieldReader.spot_of unit_step c.args.count c.loop.counter (map unit_value c.loop.units) c.loop.reader c.loop-test.false

pub returns-in_err-read_unit : goal.returns-in_err-read_unit
returns-in_err-read_unit g c =
    passes_on _ _ c.read_unit.new.reader _ _ _ c.from_residual.ensures.1 c.in_err-read_unit.ensures.fails
    (λ fault there. sym c.loop.invariant ∙ repeated_fails g.R.FieldReader.field_at g.R.FieldReader.spot_of unit_step c.args.count c.loop.counter (map unit_value c.loop.units) c.loop.reader fault c.loop-test.true there)
