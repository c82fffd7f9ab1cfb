use Rattle.yd_serving.proofs.SettleLemmas.{first_taken}
use Rattle.yd_serving.proofs.settling.first_of.Goals as goal

pub returns : goal.returns
returns c = first_taken c.args.numbers.now.items _ _ c.requires c.remove.ensures.value c.remove.ensures.items
