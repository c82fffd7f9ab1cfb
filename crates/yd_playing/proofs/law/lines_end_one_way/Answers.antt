use Rattle.yd_playing.proofs.EndLemmas.{lines_end}
use Rattle.yd_playing.proofs.law.lines_end_one_way.Goals as goal

pub returns : goal.returns
returns c = lines_end
