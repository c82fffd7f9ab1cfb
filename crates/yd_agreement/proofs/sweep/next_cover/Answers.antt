use Rattle.std.proofs.Common.{arith}
use Rattle.yd_ops.specs.View.{run_value}
use Rattle.yd_agreement.proofs.ComparingLemmas.{cover_comes, cover_later, cover_range, next_range}
use Rattle.yd_agreement.proofs.CoverLemmas.{cover_so_far, first_cover}
use Rattle.yd_agreement.proofs.sweep.next_cover.Goals as goal

pub later_of-requires-clause-cover : goal.later_of-requires-clause-cover
later_of-requires-clause-cover c = cover_range c.args.runs.now c.args.next c.index-covers-next.result c.index-runs-next-2.result c.requires.ranges
    c.requires.ascending c.requires.inside (cover_so_far c.args.runs.now c.args.covers.now c.args.next c.args.next c.index-covers-next.result c.requires.covers (omega (arith, c.if-next-eq0.false)) (omega arith)
    c.index-covers-next.is) c.index-runs-next-2.is

pub later_of-requires-clause-next : goal.later_of-requires-clause-next
later_of-requires-clause-next c = next_range c.args.runs.now c.args.next c.index-covers-next.result c.index-runs-next-2.result c.requires.ranges
    c.requires.ascending c.requires.inside (cover_so_far c.args.runs.now c.args.covers.now c.args.next c.args.next c.index-covers-next.result c.requires.covers (omega (arith, c.if-next-eq0.false)) (omega arith)
    c.index-covers-next.is) c.index-runs-next-2.is

pub later_of-requires-clause-order : goal.later_of-requires-clause-order
later_of-requires-clause-order c = cover_comes c.args.runs.now c.args.next c.index-covers-next.result c.index-runs-next-2.result c.requires.ranges
    c.requires.ascending c.requires.inside (cover_so_far c.args.runs.now c.args.covers.now c.args.next c.args.next c.index-covers-next.result c.requires.covers (omega (arith, c.if-next-eq0.false)) (omega arith)
    c.index-covers-next.is) c.index-runs-next-2.is

pub returns-then-next-eq0 : goal.returns-then-next-eq0
returns-then-next-eq0 c = first_cover c.args.runs.now c.args.next c.index-runs-next.result c.if-next-eq0.true c.requires.inside c.index-runs-next.is

pub returns : goal.returns
returns c = cover_later c.args.runs.now c.args.next c.index-covers-next.result c.index-runs-next-2.result c.requires.ranges
    c.requires.ascending c.requires.inside (cover_so_far c.args.runs.now c.args.covers.now c.args.next c.args.next c.index-covers-next.result c.requires.covers (omega (arith, c.if-next-eq0.false)) (omega arith)
    c.index-covers-next.is) c.index-runs-next-2.is
    (run_value c.later_of.result.now) c.later_of.ensures
