use Rattle.yd_modes.proofs.ListedLemmas.{unit_listed}
use Rattle.yd_modes.proofs.listed.Listed.take_unit.Goals as goal

pub returns : goal.returns
returns c = λ show. unit_listed show c.args.self.now c.take.new.self c.args.id c.args.unit c.in_ok-take.ensures.steps
