use Rattle.std.proofs.Common.{subst}
use Rattle.yd_listing.specs.Steps.{AddsAll}
use Rattle.yd_listing.proofs.DroppingLemmas.{HeldOf, are_spans, drops}
use Rattle.yd_listing.proofs.dropping.deletions_besides.Goals as goal

pub close-requires-clause-spans : goal.close-requires-clause-spans
close-requires-clause-spans c = are_spans c.args.kept.now c.args.deleted.now c.args.waiting.now c.args.named.now c.args.came.now
    c.add_named.new.spans.items c.add_named-2.new.spans.items c.add_all.new.spans.items
    (subst (λ spans. AddsAll c.args.deleted.now (HeldOf c.args.kept.now c.args.waiting.now) spans c.add_named.new.spans.items) c.new-spans.ensures.items
    c.in_ok-add_named.ensures) c.in_ok-add_named-2.ensures c.in_ok-add_all.ensures

pub of_spans-requires : goal.of_spans-requires
of_spans-requires c = c.in_ok-close.ensures.spans

pub returns : goal.returns
returns c = drops c.args.kept.now c.args.deleted.now c.args.waiting.now c.args.named.now c.args.came.now
    c.add_named.new.spans.items c.add_named-2.new.spans.items c.add_all.new.spans.items
    (subst (λ spans. AddsAll c.args.deleted.now (HeldOf c.args.kept.now c.args.waiting.now) spans c.add_named.new.spans.items) c.new-spans.ensures.items
    c.in_ok-add_named.ensures) c.in_ok-add_named-2.ensures c.in_ok-add_all.ensures
    c.close.new.spans.items c.in_ok-besides.besides c.in_ok-close.ensures c.in_ok-besides.ensures.ids
