use Rattle.std.proofs.Common.{◌∙◌, sym, true≢false}
use Rattle.yd_listing.specs.Falling.{units_of_list}
use Rattle.yd_listing.specs.Steps.{IsOther, IsOtherUnder}
use Rattle.yd_listing.proofs.AddingLemmas.{adds_none, adds_wider}
use Rattle.yd_listing.proofs.arriving.add_keyed.Goals as goal

pub returns-in_ok-add_outlived-clause-adds : goal.returns-in_ok-add_outlived-clause-adds
returns-in_ok-add_outlived-clause-adds c = adds_wider (IsOther (units_of_list c.args.kept.now c.args.list)) (IsOtherUnder c.args.name.now (units_of_list c.args.kept.now c.args.list))
    c.args.spans.now.items c.add_outlived.new.spans.items (λ x o. (o, sym c.is_keyed.ensures ∙ c.if-is_keyed.true)) c.in_ok-add_outlived.ensures.adds

pub returns-else-is_keyed-clause-adds : goal.returns-else-is_keyed-clause-adds
returns-else-is_keyed-clause-adds c = adds_none (IsOtherUnder c.args.name.now (units_of_list c.args.kept.now c.args.list)) c.args.spans.now.items

pub returns-else-is_keyed-clause-keys : goal.returns-else-is_keyed-clause-keys
returns-else-is_keyed-clause-keys c = λ key x i other. absurd (true≢false (sym key ∙ sym c.is_keyed.ensures ∙ c.if-is_keyed.false))

pub returns-else-is_keyed-clause-outlived : goal.returns-else-is_keyed-clause-outlived
returns-else-is_keyed-clause-outlived c = λ key x i end. absurd (true≢false (sym key ∙ sym c.is_keyed.ensures ∙ c.if-is_keyed.false))
