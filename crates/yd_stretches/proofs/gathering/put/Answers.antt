use Rattle.yd_stretches.proofs.GatheringLemmas.{stretch_lists-put}
use Rattle.yd_stretches.proofs.gathering.put.Goals as goal

pub returns : goal.returns
returns c = stretch_lists-put c.args.buckets.now.items c.args.n c.index_mut.result.now c.push.new.self c.args.stretch c.requires c.index_mut.ensures.value
    c.in_ok-push.ensures.items
