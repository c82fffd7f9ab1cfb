use Rattle.yd_store.proofs.KeepingLemmas.{kept_keeps}
use Rattle.yd_kept.proofs.ChangeLemmas.{units_keep}
use Rattle.yd_kept.proofs.kept.Kept.reserve_places.Goals as goal

pub returns-clause-kept : goal.returns-clause-kept
returns-clause-kept c = rw (← c.self.view_is) (units_keep c.self.inside.names c.self.inside.store c.reserve_places.new.self (kept_keeps c.self.inside.store c.reserve_places.new.self c.reserve_places.ensures.kept))
