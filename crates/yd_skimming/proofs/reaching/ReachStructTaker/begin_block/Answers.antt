use Rattle.yd_skimming.proofs.ReachLemmas.{head_taken}
use Rattle.yd_skimming.proofs.reaching.ReachStructTaker.begin_block.Goals as goal

pub returns : goal.returns
returns c = head_taken c.args.self.now c.args.id c.args.structs
