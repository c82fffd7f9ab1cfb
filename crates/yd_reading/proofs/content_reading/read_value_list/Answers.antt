use Rattle.std.proofs.Common.{◌∙◌, sym}
use Rattle.yd_any.specs.AnyView.{any_trees}
use Rattle.yd_fields.specs.StructPlan.{value_step}
use Rattle.yd_parts.proofs.FaultLemmas.{passes_on}
use Rattle.yd_parts.proofs.PlanLemmas.{repeated_more, repeated_fails, repeated_done}
use Rattle.yd_reading.proofs.content_reading.read_value_list.Goals as goal

pub loop-preserved : goal.loop-preserved
loop-preserved g c =
    sym (repeated_more g.R.FieldReader.field_at g.R.FieldReader.spot_of value_step c.args.count c.loop.counter (any_trees c.loop.values) (any_trees c.read_value.new.values) c.loop.reader c.read_value.new.reader c.loop-test.true c.in_ok-read_value.ensures.taken)
    ∙ c.loop.invariant

pub returns : goal.returns
returns g c = sym c.loop.invariant ∙ repeated_done g.R.FieldReader.field_at g.R.FieldReader.spot_of value_step c.args.count c.loop.counter (any_trees c.loop.values) c.loop.reader c.loop-test.false

pub returns-in_err-read_value : goal.returns-in_err-read_value
returns-in_err-read_value g c =
    passes_on _ _ c.read_value.new.reader _ _ _ c.from_residual.ensures.1 c.in_err-read_value.ensures.fails
    (λ fault there. sym c.loop.invariant ∙ repeated_fails g.R.FieldReader.field_at g.R.FieldReader.spot_of value_step c.args.count c.loop.counter (any_trees c.loop.values) c.loop.reader fault c.loop-test.true there)
