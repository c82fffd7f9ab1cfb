use Rattle.std.proofs.Common.{sym, ◌∙◌, subst}
use Rattle.yd_honesty.specs.Judging.{IsPlaceOf}
use Rattle.yd_honesty.proofs.JudgeLemmas.{id_is_listed, is_placed, unit_apart, unit_order, unit_last}
use Rattle.yd_honesty.proofs.judging.meets_rules.Goals as goal

pub origins_of-origins-requires-clause-listed : goal.origins_of-origins-requires-clause-listed
origins_of-origins-requires-clause-listed c = id_is_listed c.args.received.now c.requires.kept c.args.list.now.ids.items c.args.lasts.now c.args.list.now.is_strict c.args.list.now.cells.items
    c.requires.list c.args.at c.id_at.result c.id_at.ensures

pub returns-then-is_apart : goal.returns-then-is_apart
returns-then-is_apart c o i e = unit_apart c.args.received.now c.requires.kept c.args.list.now.ids.items c.args.lasts.now c.args.list.now.is_strict c.args.list.now.cells.items
    c.requires.list c.args.at c.id_at.result c.id_at.ensures c.origins_of-origins.result.left c.origins_of-origins.result.right c.origins_of-origins.ensures
    c.place_of_some-left.result c.place_of_some-right.result
    c.place_of_some-left.ensures
    (subst (λ ids. IsPlaceOf ids c.origins_of-origins.result.right c.place_of_some-right.result) c.deref-2.ensures.value c.place_of_some-right.ensures)
    o i e c.is_apart.result c.is_apart.ensures c.if-is_apart.true

pub are_in_order-requires : goal.are_in_order-requires
are_in_order-requires c = is_placed c.args.received.now c.requires.kept c.args.list.now.ids.items c.args.lasts.now c.args.list.now.is_strict c.args.list.now.cells.items
    c.requires.list c.args.at c.id_at.result c.id_at.ensures c.origins_of-origins.result.left c.origins_of-origins.result.right c.origins_of-origins.ensures
    c.place_of_some-left.result c.place_of_some-right.result
    c.place_of_some-left.ensures
    (subst (λ ids. IsPlaceOf ids c.origins_of-origins.result.right c.place_of_some-right.result) c.deref-2.ensures.value c.place_of_some-right.ensures)

pub returns-then-not-are_in_order : goal.returns-then-not-are_in_order
returns-then-not-are_in_order c o i e = unit_order c.args.received.now c.requires.kept c.args.list.now.ids.items c.args.lasts.now c.args.list.now.is_strict c.args.list.now.cells.items
    c.requires.list c.args.at c.id_at.result c.id_at.ensures c.origins_of-origins.result.left c.origins_of-origins.result.right c.origins_of-origins.ensures
    c.place_of_some-left.result c.place_of_some-right.result
    c.place_of_some-left.ensures
    (subst (λ ids. IsPlaceOf ids c.origins_of-origins.result.right c.place_of_some-right.result) c.deref-2.ensures.value c.place_of_some-right.ensures)
    o i e (sym c.are_in_order.ensures ∙ c.if-not-are_in_order.true)

pub is_parted-parted-requires-clause-placed : goal.is_parted-parted-requires-clause-placed
is_parted-parted-requires-clause-placed c = is_placed c.args.received.now c.requires.kept c.args.list.now.ids.items c.args.lasts.now c.args.list.now.is_strict c.args.list.now.cells.items
    c.requires.list c.args.at c.id_at.result c.id_at.ensures c.origins_of-origins.result.left c.origins_of-origins.result.right c.origins_of-origins.ensures
    c.place_of_some-left.result c.place_of_some-right.result
    c.place_of_some-left.ensures
    (subst (λ ids. IsPlaceOf ids c.origins_of-origins.result.right c.place_of_some-right.result) c.deref-2.ensures.value c.place_of_some-right.ensures)

pub returns : goal.returns
returns c o i e = unit_last c.args.received.now c.requires.kept c.args.list.now.ids.items c.args.lasts.now c.args.list.now.is_strict c.args.list.now.cells.items
    c.requires.list c.args.at c.id_at.result c.id_at.ensures c.origins_of-origins.result.left c.origins_of-origins.result.right c.origins_of-origins.ensures
    c.place_of_some-left.result c.place_of_some-right.result
    c.place_of_some-left.ensures
    (subst (λ ids. IsPlaceOf ids c.origins_of-origins.result.right c.place_of_some-right.result) c.deref-2.ensures.value c.place_of_some-right.ensures)
    o i e c.is_apart.result c.is_apart.ensures c.if-is_apart.false (sym c.are_in_order.ensures ∙ c.if-not-are_in_order.false)
    c.is_parted-parted.result (c.is_parted-parted.ensures c.id_at.result c.id_at.ensures)
