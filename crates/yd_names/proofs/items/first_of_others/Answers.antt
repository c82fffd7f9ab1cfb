use Rattle.std.proofs.Common.{◌+◌, refl}
use Rattle.yd_names.proofs.ItemsLemmas.{first_known}
use Rattle.yd_names.proofs.items.first_of_others.Goals as goal

pub returns : goal.returns
returns c =
    let range = c.range.ensures.in_range tt in
    first_known c.args.others.now c.args.span c.code_of_item-low.result (c.code_of_item-low.result + c.args.span.len) c.code_of_item-low.ensures refl
    c.range.result c.in_ok-code.field-0.now _ c.in_ok-code.ensures.steps range.1 range.2
