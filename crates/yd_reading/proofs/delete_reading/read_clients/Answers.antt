use Rattle.std.proofs.Common.{◌∙◌, sym}
use Rattle.yd_fields.specs.UpdatePlan.{clients_step}
use Rattle.yd_parts.proofs.FaultLemmas.{passes_on}
use Rattle.yd_parts.proofs.PlanLemmas.{repeated_more, repeated_fails, repeated_done}
use Rattle.yd_reading.proofs.delete_reading.read_clients.Goals as goal

pub loop-preserved : goal.loop-preserved
loop-preserved g c =
    sym (repeated_more g.R.FieldReader.field_at g.R.FieldReader.spot_of clients_step c.args.count c.loop.counter c.loop.read.spans.items c.read_client.new.read.spans.items c.loop.reader c.read_client.new.reader c.loop-test.true c.in_ok-read_client.ensures.taken)
    ∙ c.loop.invariant

pub returns : goal.returns
returns g c = sym c.loop.invariant ∙ repeated_done g.R.FieldReader.field_at g.R.FieldReader.spot_of clients_step c.args.count c.loop.counter c.loop.read.spans.items c.loop.reader c.loop-test.false

pub returns-in_err-read_client : goal.returns-in_err-read_client
returns-in_err-read_client g c =
    passes_on _ _ c.read_client.new.reader _ _ _ c.from_residual.ensures.1 c.in_err-read_client.ensures.fails
    (λ fault there. sym c.loop.invariant ∙ repeated_fails g.R.FieldReader.field_at g.R.FieldReader.spot_of clients_step c.args.count c.loop.counter c.loop.read.spans.items c.loop.reader fault c.loop-test.true there)
