use Rattle.std.proofs.Common.{◌∙◌}
use Rattle.yd_subsets.proofs.CutLemmas.{parting_begins}
use Rattle.yd_subsets.proofs.parting.difference.Goals as goal

pub loop-span-init : goal.loop-span-init
loop-span-init c = parting_begins c.args.set.now c.args.other.now c.into_iter-span-iterator.result c.new-rest.result.items
    (c.into_iter-span-iterator.ensures.into_iter_gives ∙ c.spans-span-items.ensures.ascending) c.new-rest.ensures.items c.spans-span-items.ensures.maximal
