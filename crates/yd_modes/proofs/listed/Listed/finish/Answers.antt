use Rattle.yd_modes.proofs.ListedLemmas.{ended_list}
use Rattle.yd_modes.proofs.listed.Listed.finish.Goals as goal

pub returns : goal.returns
returns c = λ show. ended_list show c.args.self c.silence.new.self c.end.new.self c.in_ok-silence.ensures c.in_ok-end.ensures
