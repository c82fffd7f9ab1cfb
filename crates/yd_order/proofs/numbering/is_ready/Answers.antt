use Rattle.yd_order.proofs.NumberingLemmas.{ready_both, ready_none}
use Rattle.yd_order.proofs.numbering.is_ready.Goals as goal

pub returns-then-has_number : goal.returns-then-has_number
returns-then-has_number c = ready_both c.args.rows.now c.args.marks.now c.args.at _ _ c.requires.inside (c.has_number.ensures.0 c.if-has_number.true) c.has_number-then-has_number.ensures

pub returns-else-has_number : goal.returns-else-has_number
returns-else-has_number c = ready_none c.args.rows.now c.args.marks.now c.args.at _ _ c.requires.inside c.if-has_number.false c.has_number.ensures
