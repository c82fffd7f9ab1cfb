use Rattle.yd_kept.proofs.ChangeLemmas.{units_keep}
use Rattle.yd_kept.proofs.kept.Kept.part_span.Goals as goal

pub returns-clause-kept : goal.returns-clause-kept
returns-clause-kept c = rw (← c.self.view_is) (units_keep c.self.inside.names c.self.inside.store c.part_span.new.self c.part_span.ensures.units)
