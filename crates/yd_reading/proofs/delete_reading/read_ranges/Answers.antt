use Rattle.std.proofs.Common.{◌∙◌, sym}
use Rattle.yd_reading.specs.RangesView.{ranges_value}
use Rattle.yd_fields.specs.UpdatePlan.{ranges_step}
use Rattle.yd_parts.proofs.FaultLemmas.{passes_fault}
use Rattle.yd_parts.proofs.PlanLemmas.{repeated_more, repeated_fails, repeated_done}
use Rattle.yd_reading.proofs.delete_reading.read_ranges.Goals as goal

pub loop-preserved : goal.loop-preserved
loop-preserved g c = record {
  same =
      sym (repeated_more g.R.FieldReader.field_at g.R.FieldReader.spot_of (ranges_step c.args.client) c.args.count c.loop.counter (ranges_value c.loop.read) (ranges_value c.read_next_range.new.read) c.loop.reader c.read_next_range.new.reader c.loop-test.true c.in_ok-read_next_range.ensures.taken)
      ∙ c.loop.invariant.same;
  in_range = c.in_ok-read_next_range.ensures.in_range;
}

pub returns-clause-taken : goal.returns-clause-taken
returns-clause-taken g c =
    sym c.loop.invariant.same ∙ repeated_done g.R.FieldReader.field_at g.R.FieldReader.spot_of (ranges_step c.args.client) c.args.count c.loop.counter (ranges_value c.loop.read) c.loop.reader c.loop-test.false

pub returns-in_err-read_next_range-clause-fails : goal.returns-in_err-read_next_range-clause-fails
returns-in_err-read_next_range-clause-fails g c =
    passes_fault _ _ _ _ c.from_residual.ensures.1 c.in_err-read_next_range.ensures.fails
    (λ fault there. sym c.loop.invariant.same ∙ repeated_fails g.R.FieldReader.field_at g.R.FieldReader.spot_of (ranges_step c.args.client) c.args.count c.loop.counter (ranges_value c.loop.read) c.loop.reader fault c.loop-test.true there)
