use Rattle.yd_store.proofs.store.Store.is_sound.Goals as goal

pub returns-clause-told : goal.returns-clause-told
returns-clause-told c = rw (← c.self.view_is) c.self.invariant.told

pub returns-clause-noted : goal.returns-clause-noted
returns-clause-noted c = rw (← c.self.view_is) c.self.invariant.noted
