use Rattle.std.proofs.Common.{◌≡◌, sym, ap, ◌∙◌, arith}
use Rattle.yd_words.specs.Test.{one_if}
use Rattle.yd_order.specs.Filling.{is_before_at}
use Rattle.yd_order.proofs.CountingLemmas.{count_from_start, count_more, count_done}
use Rattle.yd_order.proofs.counting.count_before.Goals as goal
use Rattle.yd_order.proofs.counting.count_before.Goals.{then-cell, else-cell}

pub loop-other-init : goal.loop-other-init
loop-other-init c = (omega (arith, count_from_start c.args.rows.now c.args.at), omega arith)

pub loop-other-preserved : goal.loop-other-preserved
loop-other-preserved c =
    let more = count_more c.args.rows.now c.args.at c.loop-other.other c.loop-other-test.true in
    let told : c.cell.result ≡ is_before_at c.args.rows.now c.loop-other.other c.args.at = c.cell.ensures ∙ c.requires.filled c.loop-other.other c.args.at c.loop-other-test.true c.requires.inside in
    elim c.if-cell.branch [
      | then-cell w ↦ let one = ap one_if (sym told ∙ w.if-cell.true) in (omega (arith, w.count-is), omega (arith, w.count-is))
      | else-cell w ↦ let none = ap one_if (sym told ∙ w.if-cell.false) in (omega (arith, w.count-is), omega (arith, w.count-is))
    ]

pub returns : goal.returns
returns c = omega (arith, count_done c.args.rows.now c.args.at c.loop-other.other c.loop-other-test.false, c.loop-other.invariant.0)
