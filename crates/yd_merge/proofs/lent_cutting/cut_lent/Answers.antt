use Rattle.std.proofs.Common.{◌∙◌, arith}
use Rattle.yd_ids.specs.Vector.{clock_of}
use Rattle.yd_building.specs.Builder.{built_of}
use Rattle.yd_merge.proofs.LentCutLemmas.{all_lent_cut, lent_next}
use Rattle.yd_merge.proofs.lent_cutting.cut_lent.Goals as goal

pub loop-lent-preserved : goal.loop-lent-preserved
loop-lent-preserved c = lent_next (clock_of c.args.vector.now) c.args.lents.now c.loop-lent.lent-index c.lent-item.result c.get-clock.result (built_of c.loop-lent.builder)
    (built_of c.push_lent.new.builder) c.loop-lent-test.true c.lent-item.is c.get-clock.ensures.reached c.in_ok-push_lent.ensures ∙ c.loop-lent.invariant

pub returns : goal.returns
returns c = c.in_ok-update.ensures ∙ all_lent_cut (clock_of c.args.vector.now) c.args.lents.now c.loop-lent.lent-index (built_of c.loop-lent.builder) c.args.deletes
    c.requires.each c.requires.in_turn (omega (arith, c.loop-lent-test.false)) c.loop-lent.invariant
