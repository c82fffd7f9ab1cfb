use Rattle.yd_skimming.proofs.PartingLemmas.{gone_part}
use Rattle.yd_skimming.proofs.parting.part_of_gone.Goals as goal

pub returns : goal.returns
returns c = gone_part c.args.clock c.args.id c.args.count c.requires.begins c.requires.ends
