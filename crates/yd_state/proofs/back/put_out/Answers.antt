use Rattle.yd_state.proofs.back.put_out.Goals as goal

pub returns-clause-sound : goal.returns-clause-sound
returns-clause-sound c = record { arena = c.store.ensures.arena; lists = c.store.ensures.lists; told = c.store.ensures.told }
