use Rattle.std.proofs.Common.{refl}
use Rattle.yd_skimming.proofs.CutterLemmas.{empty_taken}
use Rattle.yd_skimming.proofs.cutter.CutWriterStructTaker.begin_block.Goals as goal

pub returns : goal.returns
returns g c = λ before taken. empty_taken g.V.CutBy.vector c.args.self.now.cutter before _ refl refl taken
