use Rattle.std.proofs.Common.{◌+◌, sym, subst}
use Rattle.yd_agreement.specs.Differing.{DifferAmong, content_of}
use Rattle.yd_agreement.specs.First.{IsFirstBut}
use Rattle.yd_agreement.specs.Parting.{IsPartedAt, IsPartedAtEnds}
use Rattle.yd_agreement.specs.Sweep.{runs_in}
use Rattle.yd_agreement.proofs.FirstLemmas.{but_either}
use Rattle.yd_agreement.proofs.parting.parted_at_ends.Goals as goal

pub returns : goal.returns
returns c = subst (IsFirstBut (IsPartedAtEnds (runs_in c.args.full.now) c.args.span) (DifferAmong content_of (runs_in c.args.full.now))) (sym c.first_of.ensures)
    (but_either (IsPartedAt (runs_in c.args.full.now) (record { client = c.args.span.client; clock = c.args.span.clock }))
    (IsPartedAt (runs_in c.args.full.now) (record { client = c.args.span.client; clock = c.args.span.clock + c.args.span.len }))
    (DifferAmong content_of (runs_in c.args.full.now)) c.parted_at-begins.result c.parted_at-ends.result c.parted_at-begins.ensures c.parted_at-ends.ensures)
