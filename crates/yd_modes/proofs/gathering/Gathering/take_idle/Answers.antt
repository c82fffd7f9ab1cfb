use Rattle.std.proofs.lemmas.Result.{on_ok_weaker}
use Rattle.yd_modes.proofs.GatheringLemmas.{idled}
use Rattle.yd_modes.proofs.gathering.Gathering.take_idle.Goals as goal

pub returns : goal.returns
returns c = on_ok_weaker c.flush.result (λ flushes way show came some idle. idled way show c.args.self.now c.flush.new.self c.args.id came flushes some idle) c.flush.ensures
