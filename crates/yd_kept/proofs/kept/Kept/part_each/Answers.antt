use Rattle.yd_kept.proofs.ChangeLemmas.{units_keep}
use Rattle.yd_kept.proofs.kept.Kept.part_each.Goals as goal

pub returns-in_err-part_all-clause-kept : goal.returns-in_err-part_all-clause-kept
returns-in_err-part_all-clause-kept c = rw (← c.self.view_is) (units_keep c.self.inside.names c.self.inside.store c.part_all.new.store c.part_all.ensures.units)

pub returns-clause-kept : goal.returns-clause-kept
returns-clause-kept c = rw (← c.self.view_is) (units_keep c.self.inside.names c.self.inside.store c.part_all.new.store c.part_all.ensures.units)
