use Rattle.std.proofs.Common.{Some, inl, inr, sym, ap, ◌∙◌, true≢false}
use Rattle.yd_ops.proofs.OneOfLemmas.{operation_with}
use Rattle.yd_honesty.proofs.BestLemmas.{best_same, best_more}
use Rattle.yd_honesty.proofs.JudgeLemmas.{id_is_listed}
use Rattle.yd_honesty.proofs.smallest.judge_unit.Goals as goal

pub returns-then-not-is_better : goal.returns-then-not-is_better
returns-then-not-is_better c old best = best_same c.args.received.now c.args.list.now.ids.items old c.args.at c.args.found c.id_at-id.result c.id_at-id.ensures best
    (inl (sym c.is_better.ensures ∙ c.if-not-is_better.true))

pub returns-then-meets_rules : goal.returns-then-meets_rules
returns-then-meets_rules c old best = best_same c.args.received.now c.args.list.now.ids.items old c.args.at c.args.found c.id_at-id.result c.id_at-id.ensures best
    (inr (λ breaks. breaks.broken ((c.meets_rules.ensures breaks.one breaks.there (c.id_at-id.ensures ∙ ap (λ z. Some z) (sym breaks.id))).0 c.if-meets_rules.true)))

pub returns : goal.returns
returns c old best = best_more c.args.received.now c.args.list.now.ids.items old c.args.at c.args.found c.id_at-id.result c.id_at-id.ensures best
    (sym c.is_better.ensures ∙ c.if-not-is_better.false)
    (let (o, i, f) = operation_with _ c.id_at-id.result (id_is_listed c.args.received.now c.requires.kept c.args.list.now.ids.items c.args.lasts.now c.args.list.now.is_strict
    c.args.list.now.cells.items c.requires.list c.args.at c.id_at-id.result c.id_at-id.ensures) in
    record { one = o; there = i; id = f; broken = λ meets. true≢false (sym ((c.meets_rules.ensures o i (c.id_at-id.ensures ∙ ap (λ z. Some z) (sym f))).1 meets) ∙ c.if-meets_rules.false) })
