use Rattle.std.proofs.Common.{refl}
use Rattle.yd_reading.specs.Taking.{counted}
use Rattle.yd_gathering.proofs.BlocksLemmas.{takes_idle}
use Rattle.yd_gathering.proofs.blocks.BlocksStructTaker.begin.Goals as goal

pub returns : goal.returns
returns c = takes_idle c.args.self.now (counted c.args._blocks) refl
