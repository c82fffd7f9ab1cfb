use Rattle.std.proofs.Common.{arith}
use Rattle.yd_order.proofs.NumberingLemmas.{one_pass_more, all_marked, all_numbered}
use Rattle.yd_order.proofs.numbering.number_all.Goals as goal

pub loop-preserved : goal.loop-preserved
loop-preserved c = (
  c.in_ok-number_ready.ensures.numbered,
  one_pass_more c.args.rows.now c.loop.marks c.number_ready.new.marks c.number_ready.new.by_neighbours.items _ c.loop.counter c.requires.links c.in_ok-number_ready.ensures c.loop.invariant.1,
)

pub returns : goal.returns
returns c =
    all_numbered c.args.rows.now c.loop.marks c.loop.by_neighbours.items c.loop.invariant.0
    (all_marked c.args.rows.now c.requires.table c.loop.marks (λ number falls at lt less. c.loop.invariant.1 number falls at lt (omega (arith, less, c.loop-test.false))))

pub returns-then-branch : goal.returns-then-branch
returns-then-branch c =
    all_numbered c.args.rows.now c.number_ready.new.marks c.number_ready.new.by_neighbours.items c.in_ok-number_ready.ensures.numbered (c.in_ok-number_ready.ensures.told.0 c.if-branch.true)
