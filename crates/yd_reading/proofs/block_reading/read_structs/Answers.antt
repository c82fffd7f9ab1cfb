use Rattle.std.proofs.Common.{◌∙◌, sym}
use Rattle.yd_reading.specs.ReadView.{structs_value}
use Rattle.yd_fields.specs.UpdatePlan.{structs_step}
use Rattle.yd_parts.proofs.FaultLemmas.{passes_on}
use Rattle.yd_parts.proofs.PlanLemmas.{repeated_more, repeated_fails, repeated_done}
use Rattle.yd_reading.proofs.block_reading.read_structs.Goals as goal

pub loop-preserved : goal.loop-preserved
loop-preserved g c =
    sym (repeated_more g.R.FieldReader.field_at g.R.FieldReader.spot_of (structs_step c.args.id.client) c.args.count c.loop.counter (structs_value c.loop.read) (structs_value c.read_next_struct.new.read) c.loop.reader c.read_next_struct.new.reader c.loop-test.true c.in_ok-read_next_struct.ensures.taken)
    ∙ c.loop.invariant

pub returns : goal.returns
returns g c = sym c.loop.invariant ∙ repeated_done g.R.FieldReader.field_at g.R.FieldReader.spot_of (structs_step c.args.id.client) c.args.count c.loop.counter (structs_value c.loop.read) c.loop.reader c.loop-test.false

pub returns-in_err-read_next_struct : goal.returns-in_err-read_next_struct
returns-in_err-read_next_struct g c =
    passes_on _ _ c.read_next_struct.new.reader _ _ _ c.from_residual.ensures.1 c.in_err-read_next_struct.ensures.fails
    (λ fault there. sym c.loop.invariant ∙ repeated_fails g.R.FieldReader.field_at g.R.FieldReader.spot_of (structs_step c.args.id.client) c.args.count c.loop.counter (structs_value c.loop.read) c.loop.reader fault c.loop-test.true there)
