use Rattle.yd_modes.proofs.ListedLemmas.{silent_before, silenced}
use Rattle.yd_modes.proofs.listed.Listed.silence.Goals as goal

pub returns-then-is_silent : goal.returns-then-is_silent
returns-then-is_silent c = silent_before c.args.self.now (c.is_silent.ensures.silent c.if-is_silent.true)

pub returns : goal.returns
returns c = silenced c.args.self.now c.take.new.self c.args.id c.in_ok-take.ensures.steps
