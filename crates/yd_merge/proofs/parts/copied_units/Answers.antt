use Rattle.std.proofs.Common.{◌∙◌}
use Rattle.yd_merge.proofs.ContentLemmas.{unit_next}
use Rattle.yd_merge.proofs.parts.copied_units.Goals as goal

pub loop-done-preserved : goal.loop-done-preserved
loop-done-preserved c = unit_next c.args.units.now c.args.from c.args.len c.loop-done.done c.loop-done.part.items c.push_unit.new.part.items c.loop-done-test.true c.requires.within
    c.in_ok-push_unit.ensures ∙ c.loop-done.invariant
