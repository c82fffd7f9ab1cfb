use Rattle.std.proofs.Common.{true, sym, subst, true≢false, ◌∙◌}
use Rattle.std.specs.Prelude.{slice_set}
use Rattle.yd_order.specs.Numbering.{Numbers}
use Rattle.yd_order.proofs.NumberingLemmas.{numbers_row, numbers_old, numbers_none}
use Rattle.yd_order.proofs.numbering.number.Goals as goal

pub returns-then-marks-at : goal.returns-then-marks-at
returns-then-marks-at c = numbers_old c.args.rows.now c.args.marks.now c.args.by_neighbours.now.items c.args.at c.requires.numbered c.if-marks-at.true

pub returns-then-not-is_ready : goal.returns-then-not-is_ready
returns-then-not-is_ready c =
    numbers_none c.args.rows.now c.args.marks.now c.args.by_neighbours.now.items c.args.at c.requires.numbered c.if-marks-at.false (λ ready. true≢false (sym (c.is_ready.ensures.1 ready) ∙ c.if-not-is_ready.true))

pub returns : goal.returns
returns c =
    subst (λ order. Numbers c.args.rows.now c.args.marks.now (slice_set c.args.marks.now c.args.at true) order c.args.at true) (sym c.in_ok-push.ensures.items)
    (numbers_row c.args.rows.now c.args.marks.now c.args.by_neighbours.now.items c.args.at c.requires.links c.requires.numbered c.requires.inside c.if-marks-at.false (c.is_ready.ensures.0 c.if-not-is_ready.false))
