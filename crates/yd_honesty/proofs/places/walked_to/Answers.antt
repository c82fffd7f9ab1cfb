use Rattle.std.proofs.Common.{sym, ◌∙◌}
use Rattle.yd_honesty.proofs.PlacesLemmas.{not_before_none, not_before_more, not_before_all}
use Rattle.yd_honesty.proofs.places.walked_to.Goals as goal

pub loop-at-init : goal.loop-at-init
loop-at-init c = not_before_none c.args.ids.now c.args.id

pub loop-at-preserved : goal.loop-at-preserved
loop-at-preserved c = not_before_more c.args.ids.now c.args.id c.loop-at.at _ c.loop-at-test.true (sym c.is_same.ensures ∙ c.if-is_same.false) c.loop-at.invariant

pub returns : goal.returns
returns c = not_before_all c.args.ids.now c.args.id c.loop-at.at c.loop-at-test.false c.loop-at.invariant
