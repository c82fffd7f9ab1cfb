use Rattle.std.proofs.Common.{◌∙◌, sym, true≢false}
use Rattle.yd_listing.specs.Steps.{InSpanUnder}
use Rattle.yd_listing.proofs.AddingLemmas.{adds_none}
use Rattle.yd_listing.proofs.TakingLemmas.{under_added, item_out, item_of_item, no_item}
use Rattle.yd_listing.proofs.arriving.add_under.Goals as goal

pub returns-in_default-clause-adds : goal.returns-in_default-clause-adds
returns-in_default-clause-adds c = adds_none (InSpanUnder c.args.deleted.now c.args.name.now c.args.span) c.args.spans.now.items

pub returns-else-has-clause-adds : goal.returns-else-has-clause-adds
returns-else-has-clause-adds c = adds_none (InSpanUnder c.args.deleted.now c.args.name.now c.args.span) c.args.spans.now.items

pub returns-in_ok-add_span-clause-adds : goal.returns-in_ok-add_span-clause-adds
returns-in_ok-add_span-clause-adds c = under_added c.args.deleted.now c.args.name.now c.args.span c.in-Item.item c.args.spans.now.items c.add_span.new.spans.items
    (item_of_item c.args.name.now c.in-Item.item c.in-Item.is) (c.has.ensures.found.0 c.if-has.true)
    c.in_ok-add_span.ensures.adds

pub returns-in_default-clause-all : goal.returns-in_default-clause-all
returns-in_default-clause-all c = λ x i. no_item c.args.deleted.now c.args.name.now c.in_default.field-0 c.in_default.is i.1

pub returns-else-has-clause-all : goal.returns-else-has-clause-all
returns-else-has-clause-all c = λ x i. item_out c.args.deleted.now c.args.name.now c.in-Item.item (item_of_item c.args.name.now c.in-Item.item c.in-Item.is)
    (λ h. true≢false (sym (c.has.ensures.found.1 h) ∙ c.if-has.false)) i.1
