use Rattle.std.proofs.lemmas.Result.{on_ok_weaker}
use Rattle.yd_modes.proofs.ListedLemmas.{idle_listed}
use Rattle.yd_modes.proofs.listed.Listed.take_idle.Goals as goal

pub returns : goal.returns
returns c = on_ok_weaker c.silence.result (λ silences show came some idle. idle_listed show c.args.self.now c.silence.new.self c.args.id came silences some idle) c.silence.ensures
