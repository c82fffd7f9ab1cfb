use Rattle.yd_modes.proofs.GatheringLemmas.{ended}
use Rattle.yd_modes.proofs.gathering.Gathering.finish.Goals as goal

pub returns : goal.returns
returns c = λ way show. ended way show c.args.self c.flush.new.self c.close.new.self _ c.in_ok-flush.ensures c.in_ok-close.ensures
