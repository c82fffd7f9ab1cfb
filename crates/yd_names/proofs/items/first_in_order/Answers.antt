use Rattle.std.proofs.Common.{subst}
use Rattle.yd_names.specs.Items.{IsFirstFrom}
use Rattle.yd_names.proofs.ItemsLemmas.{first_in, none_in, none_from}
use Rattle.yd_names.proofs.items.first_in_order.Goals as goal

pub returns-in_default : goal.returns-in_default
returns-in_default c = none_from c.args.rising.now c.args.span c.code_of_item-low.result c.code_of_item-low.ensures
    (subst (IsFirstFrom c.args.rising.now c.code_of_item-low.result) c.in_default.is c.first_from.ensures)

pub returns-then-code-low : goal.returns-then-code-low
returns-then-code-low c = none_in c.args.rising.now c.args.span c.code_of_item-low.result c.code_of_item-low.ensures c.in-Some.code
    (subst (IsFirstFrom c.args.rising.now c.code_of_item-low.result) c.in-Some.is c.first_from.ensures) c.if-code-low.true

pub returns : goal.returns
returns c = first_in c.args.rising.now c.args.span c.code_of_item-low.result c.code_of_item-low.ensures c.in-Some.code
    (subst (IsFirstFrom c.args.rising.now c.code_of_item-low.result) c.in-Some.is c.first_from.ensures) c.if-code-low.false
