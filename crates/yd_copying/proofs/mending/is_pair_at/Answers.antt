use Rattle.std.proofs.Common.{◌∙◌, ap, sym, ◌&&◌, arith, get_or, ◌+◌}
use Rattle.yd_ops.specs.Pairs.{is_low}
use Rattle.yd_copying.proofs.MendingLemmas.{no_pair, pair_at}
use Rattle.yd_copying.proofs.mending.is_pair_at.Goals as goal

pub returns-then-at-units : goal.returns-then-at-units
returns-then-at-units c = no_pair c.args.units.now c.args.at (omega (arith, c.if-at-units.true))

pub returns-then-is_high : goal.returns-then-is_high
returns-then-is_high c = c.is_low.ensures ∙ ap (λ t. t && is_low (get_or c.args.units.now (c.args.at + 1) 0)) (sym c.if-is_high.true ∙ c.is_high.ensures)
    ∙ pair_at c.args.units.now c.args.at c.if-at-units.false

pub returns-else-is_high : goal.returns-else-is_high
returns-else-is_high c = c.if-is_high.false ∙ ap (λ t. t && is_low (get_or c.args.units.now (c.args.at + 1) 0)) (sym c.if-is_high.false ∙ c.is_high.ensures)
    ∙ pair_at c.args.units.now c.args.at c.if-at-units.false
