use Rattle.std.proofs.Common.{rules, arith}
use Rattle.std.proofs.lemmas.Grind.{common_steps}
use Rattle.yd_any.specs.declared.any_value.Any.{the_lemmas}
use Rattle.yd_any.proofs.AnyLists.{entries_step, any_fields-entries}
use Rattle.yd_any.proofs.carried.+carried.Goals as goal

pub pairs_are_carried-is_carried-requires : goal.pairs_are_carried-is_carried-requires
unfolding Rattle.yd_any.specs.declared.any_value.Any.TheBlock.the_depth
pairs_are_carried-is_carried-requires n c = search (rules, the_lemmas)

pub pairs_are_carried-returns-then-not-is_carried : goal.pairs_are_carried-returns-then-not-is_carried
pairs_are_carried-returns-then-not-is_carried n c =
    let all = any_fields-entries c.args.entries.now in
    let step = entries_step c.deref-item-items.result.now c.loop-item.item-index c.loop-item-item.result c.loop-item-test.true c.loop-item-item.is in
    search rules

pub pairs_are_carried-returns : goal.pairs_are_carried-returns
pairs_are_carried-returns n c = let all = any_fields-entries c.args.entries.now in grind (arith, common_steps)
