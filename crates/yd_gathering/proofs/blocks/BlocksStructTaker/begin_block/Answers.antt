use Rattle.std.proofs.Common.{refl}
use Rattle.yd_reading.specs.Taking.{headed}
use Rattle.yd_gathering.proofs.BlocksLemmas.{takes_idle}
use Rattle.yd_gathering.proofs.blocks.BlocksStructTaker.begin_block.Goals as goal

pub returns : goal.returns
returns c = takes_idle c.args.self.now (headed c.args._id c.args._structs) refl
