use Rattle.std.proofs.Common.{sym, ◌∙◌}
use Rattle.yd_order.proofs.FillingLemmas.{lines_read, by_first, by_second, by_third, by_fourth, by_fifth, by_sixth}
use Rattle.yd_order.proofs.filling.is_before.Goals as goal

pub returns-then-reaches_left : goal.returns-then-reaches_left
returns-then-reaches_left c =
    let r = c.requires in
    by_first (lines_read c.args.rows.now r.table c.args.cells.now r.links c.args.a c.args.b r.inside.0 r.inside.1 r.apart r.asked _) (sym c.reaches_left.ensures ∙ c.if-reaches_left.true)

pub returns-then-reaches_left-2 : goal.returns-then-reaches_left-2
returns-then-reaches_left-2 c =
    let r = c.requires in
    by_second (lines_read c.args.rows.now r.table c.args.cells.now r.links c.args.a c.args.b r.inside.0 r.inside.1 r.apart r.asked _) (sym c.reaches_left.ensures ∙ c.if-reaches_left.false)
    (sym c.reaches_left-2.ensures ∙ c.if-reaches_left-2.true)

pub returns-then-right_reaches : goal.returns-then-right_reaches
returns-then-right_reaches c =
    let r = c.requires in
    by_third (lines_read c.args.rows.now r.table c.args.cells.now r.links c.args.a c.args.b r.inside.0 r.inside.1 r.apart r.asked _) (sym c.reaches_left.ensures ∙ c.if-reaches_left.false)
    (sym c.reaches_left-2.ensures ∙ c.if-reaches_left-2.false) (sym c.right_reaches.ensures ∙ c.if-right_reaches.true)

pub returns-then-right_reaches-2 : goal.returns-then-right_reaches-2
returns-then-right_reaches-2 c =
    let r = c.requires in
    by_fourth (lines_read c.args.rows.now r.table c.args.cells.now r.links c.args.a c.args.b r.inside.0 r.inside.1 r.apart r.asked _) (sym c.reaches_left.ensures ∙ c.if-reaches_left.false)
    (sym c.reaches_left-2.ensures ∙ c.if-reaches_left-2.false) (sym c.right_reaches.ensures ∙ c.if-right_reaches.false) (sym c.right_reaches-2.ensures ∙ c.if-right_reaches-2.true)

pub returns-then-is_same_link : goal.returns-then-is_same_link
returns-then-is_same_link c =
    let r = c.requires in
    c.is_smaller.ensures
    ∙ by_fifth (lines_read c.args.rows.now r.table c.args.cells.now r.links c.args.a c.args.b r.inside.0 r.inside.1 r.apart r.asked _) (sym c.reaches_left.ensures ∙ c.if-reaches_left.false)
    (sym c.reaches_left-2.ensures ∙ c.if-reaches_left-2.false) (sym c.right_reaches.ensures ∙ c.if-right_reaches.false) (sym c.right_reaches-2.ensures ∙ c.if-right_reaches-2.false)
    (sym c.is_same_link.ensures ∙ c.if-is_same_link.true)

pub returns : goal.returns
returns c =
    let r = c.requires in
    c.is_later_link.ensures
    ∙ by_sixth (lines_read c.args.rows.now r.table c.args.cells.now r.links c.args.a c.args.b r.inside.0 r.inside.1 r.apart r.asked _) (sym c.reaches_left.ensures ∙ c.if-reaches_left.false)
    (sym c.reaches_left-2.ensures ∙ c.if-reaches_left-2.false) (sym c.right_reaches.ensures ∙ c.if-right_reaches.false) (sym c.right_reaches-2.ensures ∙ c.if-right_reaches-2.false)
    (sym c.is_same_link.ensures ∙ c.if-is_same_link.false)
