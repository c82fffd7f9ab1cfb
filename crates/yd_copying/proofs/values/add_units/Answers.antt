use Rattle.std.proofs.Common.{◌∙◌, ◌∷◌, ◌++◌, [], ap}
use Rattle.std.specs.Option.{unwrap_or}
use Rattle.yd_merge.proofs.ContentLemmas.{unit_next}
use Rattle.yd_copying.proofs.values.add_units.Goals as goal

pub loop-done-preserved : goal.loop-done-preserved
loop-done-preserved c = unit_next c.args.units.now c.args.from c.args.len c.loop-done.done c.loop-done.all.items c.push.new.self.items c.loop-done-test.true c.requires
    (c.in_ok-push.ensures.items ∙ ap (λ u. c.loop-done.all.items ++ u ∷ []) (c.unwrap_or.ensures ∙ ap (λ o. unwrap_or o 0) c.unit.ensures)) ∙ c.loop-done.invariant
