use Rattle.std.proofs.Common.{◌∙◌, arith}
use Rattle.yd_building.specs.Builder.{built_of}
use Rattle.yd_merge.proofs.TurnLemmas.{all_lent}
use Rattle.yd_merge.proofs.writing.write_lent.Goals as goal

pub returns : goal.returns
returns c = c.in_ok-update.ensures ∙ all_lent c.args.lents.now c.loop-lent.lent-index (built_of c.loop-lent.builder) c.args.deletes c.requires.each c.requires.in_turn
    (omega (arith, c.loop-lent-test.false)) c.loop-lent.invariant
