use Rattle.yd_skimming.proofs.ReachLemmas.{count_taken}
use Rattle.yd_skimming.proofs.reaching.ReachStructTaker.begin.Goals as goal

pub returns : goal.returns
returns c = count_taken c.args.self.now c.args.blocks
