use Rattle.yd_kept.proofs.ChangeLemmas.{units_join}
use Rattle.yd_kept.proofs.kept.Kept.join_last.Goals as goal

pub returns : goal.returns
returns c = rw (← c.self.view_is) (units_join c.self.inside.names c.self.inside.store c.join_last.new.self c.join_last.ensures.units)
