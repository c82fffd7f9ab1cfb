use Rattle.std.proofs.Common.{take}
use Rattle.std.proofs.lemmas.List.{take_more}
use Rattle.yd_firsts.proofs.FoundLemmas.{lasts_found}
use Rattle.yd_firsts.proofs.collapsing.lasts_of.Goals as goal

pub loop-id-preserved : goal.loop-id-preserved
loop-id-preserved c = lasts_found c.args.pieces.now (take c.loop-id.id-index c.args.ids.now) _ c.loop-id.lasts.items c.push.new.self.items _ _ c.in-Some.at _ c.loop-id.invariant
    c.in-Some.ensures c.last_of.ensures (take_more c.args.ids.now c.loop-id.id-index _ c.loop-id-test.true) c.in_ok-push.ensures.items
