use Rattle.std.proofs.Common.{◌*◌, ◌<◌, sym, ◌∙◌, arith}
use Rattle.yd_any.specs.AnyView.{any_tree}
use Rattle.yd_any.specs.Tree.{depth}
use Rattle.yd_any.proofs.SameAnyLemmas.{entry_less, fields_end, fields_short, item_less, trees_end, trees_short}
use Rattle.yd_any.proofs.same_any.+same.Goals as goal

pub are_same-is_same-requires : goal.are_same-is_same-requires
are_same-is_same-requires t c = let less = item_less c.args.items.now c.loop-i.i c.index-items-i.result c.loop-i-test.true c.index-items-i.is in omega (arith, less, c.decreases)

pub are_same-returns-then-i-others : goal.are_same-returns-then-i-others
are_same-returns-then-i-others t c = sym (c.loop-i.invariant.same ∙ trees_short c.args.items.now c.args.others.now c.loop-i.i c.loop-i-test.true c.if-i-others.true)

pub are_same-returns : goal.are_same-returns
are_same-returns t c = trees_end c.args.items.now c.args.others.now c.loop-i.i c.loop-i-test.false c.loop-i.auto.i-end c.loop-i.invariant.within ∙ sym c.loop-i.invariant.same

pub pairs_are_same-is_same-requires : goal.pairs_are_same-is_same-requires
pairs_are_same-is_same-requires t c =
    let shallow = entry_less c.args.entries.now c.loop-i.i c.index-entries-i.result c.loop-i-test.true c.index-entries-i.is in
    let less : 3 * depth (any_tree c.index-entries-i.result.1) < t = omega (arith, shallow, c.decreases) in (less, tt)

pub pairs_are_same-returns-then-i-others : goal.pairs_are_same-returns-then-i-others
pairs_are_same-returns-then-i-others t c = sym (c.loop-i.invariant.same ∙ fields_short c.args.entries.now c.args.others.now c.loop-i.i c.loop-i-test.true c.if-i-others.true)

pub pairs_are_same-returns : goal.pairs_are_same-returns
pairs_are_same-returns t c = fields_end c.args.entries.now c.args.others.now c.loop-i.i c.loop-i-test.false c.loop-i.auto.i-end c.loop-i.invariant.within ∙ sym c.loop-i.invariant.same
