use Rattle.std.proofs.Common.{take, sym, subst}
use Rattle.std.proofs.lemmas.List.{take_more}
use Rattle.yd_words.proofs.EachLemmas.{each_at}
use Rattle.yd_listing.specs.Falling.{IsCame}
use Rattle.yd_listing.specs.Steps.{TakesAll}
use Rattle.yd_listing.proofs.TakingLemmas.{taking_begins, taking_goes_on}
use Rattle.yd_listing.proofs.arriving.add_all.Goals as goal

pub loop-one-init : goal.loop-one-init
loop-one-init c = taking_begins c.args.kept.now c.args.deleted.now c.args.spans.now.items

pub add_came-requires-clause-came : goal.add_came-requires-clause-came
add_came-requires-clause-came c = each_at (IsCame c.args.kept.now) c.args.came.now c.loop-one.one-index _ c.requires.came c.loop-one-test.true

pub loop-one-preserved : goal.loop-one-preserved
loop-one-preserved c = subst (λ came. TakesAll c.args.kept.now c.args.deleted.now came c.args.spans.now.items c.add_came.new.spans.items)
    (sym (take_more c.args.came.now c.loop-one.one-index _ c.loop-one-test.true))
    (taking_goes_on c.args.kept.now c.args.deleted.now (take c.loop-one.one-index c.args.came.now) _ c.args.spans.now.items c.loop-one.spans.items c.add_came.new.spans.items
    c.loop-one.invariant c.in_ok-add_came.ensures)
