use Rattle.std.proofs.Common.{◌∙◌, sym}
use Rattle.yd_parts.proofs.FaultLemmas.{passes_on}
use Rattle.yd_parts.proofs.PlanLemmas.{repeated_done, repeated_fails, repeated_more}
use Rattle.yd_v1.specs.Reading.{v1_at, v1_spot}
use Rattle.yd_sync.specs.Entry.{aware_step}
use Rattle.yd_sync.proofs.entry_reading.read_each.Goals as goal

pub loop-preserved : goal.loop-preserved
loop-preserved c =
    sym (repeated_more v1_at v1_spot aware_step c.args.count c.loop.counter c.loop.entries c.read_entry.new.entries c.loop.reader c.read_entry.new.reader c.loop-test.true c.in_ok-read_entry.ensures.taken)
    ∙ c.loop.invariant

pub returns : goal.returns
returns c = sym c.loop.invariant ∙ repeated_done v1_at v1_spot aware_step c.args.count c.loop.counter c.loop.entries c.loop.reader c.loop-test.false

pub returns-in_err-read_entry : goal.returns-in_err-read_entry
returns-in_err-read_entry c =
    passes_on _ _ c.read_entry.new.reader _ _ _ c.from_residual.ensures.1 c.in_err-read_entry.ensures.fails
    (λ fault there. sym c.loop.invariant ∙ repeated_fails v1_at v1_spot aware_step c.args.count c.loop.counter c.loop.entries c.loop.reader fault c.loop-test.true there)
