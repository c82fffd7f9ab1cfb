use Rattle.std.proofs.Common.{refl, sym, ◌∙◌, ◌-◌, true≢false}
use Rattle.yd_ops.specs.View.{run_value}
use Rattle.yd_agreement.specs.Sweep.{runs_in}
use Rattle.yd_agreement.proofs.PartingLemmas.{cover_pair, first_clock, no_pair, no_run}
use Rattle.yd_agreement.proofs.parting.parted_at.Goals as goal

pub returns-then-low-eq0 : goal.returns-then-low-eq0
returns-then-low-eq0 c = first_clock (runs_in c.args.full.now) c.args.low c.if-low-eq0.true

pub returns-in-None : goal.returns-in-None
returns-in-None c = no_run (runs_in c.args.full.now) c.args.low (record { client = c.args.low.client; clock = c.args.low.clock - 1 }) refl c.if-low-eq0.false c.in-None.ensures

pub returns-then-has_pair : goal.returns-then-has_pair
returns-then-has_pair c = cover_pair (runs_in c.args.full.now) c.args.low (record { client = c.args.low.client; clock = c.args.low.clock - 1 }) refl c.if-low-eq0.false
    (run_value c.in-Some.cover.now) c.in-Some.ensures (c.has_pair.ensures.0 c.if-has_pair.true)

pub returns-else-has_pair : goal.returns-else-has_pair
returns-else-has_pair c = no_pair (runs_in c.args.full.now) c.args.low (record { client = c.args.low.client; clock = c.args.low.clock - 1 }) refl c.if-low-eq0.false
    (run_value c.in-Some.cover.now) c.requires.whole c.in-Some.ensures (λ pair. true≢false (sym (c.has_pair.ensures.1 pair) ∙ c.if-has_pair.false))
