use Rattle.std.proofs.Common.{◌∙◌, sym, get_or, ◌+◌}
use Rattle.std.proofs.lemmas.List.{get_or_default}
use Rattle.yd_copying.proofs.MendingLemmas.{pair_inside, pair_next, one_next}
use Rattle.yd_copying.proofs.mending.whole.Goals as goal

pub bounds-units-at-then-is_pair_at : goal.bounds-units-at-then-is_pair_at
bounds-units-at-then-is_pair_at c = pair_inside c.args.units.now c.loop-at.at (sym c.is_pair_at.ensures ∙ c.if-is_pair_at.true)

pub loop-at-preserved-then-is_pair_at : goal.loop-at-preserved-then-is_pair_at
loop-at-preserved-then-is_pair_at c =
    let us = c.args.units.now in
    let at = c.loop-at.at in
    let pair = sym c.is_pair_at.ensures ∙ c.if-is_pair_at.true in
    pair_next us c.loop-at.whole.items c.push.new.self.items c.push-then-is_pair_at.new.self.items at (get_or us at 0) (get_or us (at + 1) 0) pair
    (get_or_default us at 0 (get_or us at 0) c.loop-at-test.true) (get_or_default us (at + 1) 0 (get_or us (at + 1) 0) (pair_inside us at pair))
    c.in_ok-push.ensures.items c.in_ok-push-2.ensures.items ∙ c.loop-at.invariant

pub loop-at-preserved : goal.loop-at-preserved
loop-at-preserved c =
    let us = c.args.units.now in
    let at = c.loop-at.at in
    one_next us c.loop-at.whole.items c.push-else-is_pair_at.new.self.items at (get_or us at 0) c.alone.result c.loop-at-test.true
    (sym c.is_pair_at.ensures ∙ c.if-is_pair_at.false) (get_or_default us at 0 (get_or us at 0) c.loop-at-test.true) c.alone.ensures c.in_ok-push-3.ensures.items ∙ c.loop-at.invariant
