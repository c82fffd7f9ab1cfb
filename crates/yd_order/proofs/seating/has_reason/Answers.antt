use Rattle.std.proofs.Common.{sym, ◌∙◌}
use Rattle.yd_order.proofs.SeatingLemmas.{passed_is, reason_passed, reason_ahead}
use Rattle.yd_order.proofs.seating.has_reason.Goals as goal

pub returns-then-is_passed : goal.returns-then-is_passed
returns-then-is_passed c =
    let told = c.is_passed.ensures ∙ passed_is c.args.rows.now c.args.seats.now c.args.a _ _ c.requires.inside.0 in
    told ∙ reason_passed _ _ (sym told ∙ c.if-is_passed.true)

pub returns-else-is_passed : goal.returns-else-is_passed
returns-else-is_passed c =
    let told = c.is_passed.ensures ∙ passed_is c.args.rows.now c.args.seats.now c.args.a _ _ c.requires.inside.0 in
    c.is_ahead.ensures ∙ reason_ahead _ _ (sym told ∙ c.if-is_passed.false)
