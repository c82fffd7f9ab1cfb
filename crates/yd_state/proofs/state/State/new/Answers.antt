use Rattle.yd_state.proofs.DocumentLemmas.{seen_sound}
use Rattle.yd_state.proofs.TakeLemmas.{new_sound}
use Rattle.yd_state.proofs.state.State.new.Goals as goal

pub returns-clause-sound : goal.returns-clause-sound
returns-clause-sound c = seen_sound (record {
  held = c.new-held.result;
  named = c.new.result;
  waiting = c.new-2.result;
  kept = c.new-kept.result;
  deletes = c.new-3.result;
}) (new_sound c.new-held.result c.new-held.ensures c.received.ensures.holds c.new-kept.result
    (record { names = c.new-kept.ensures.names; runs = c.new-kept.ensures.runs; lists = c.new-kept.ensures.lists; clocks = c.new-kept.ensures.clocks })
    (record { lists = c.store.ensures.lists; told = c.store.ensures.told })
    c.new.result c.new-2.result c.new-3.result c.new.ensures c.new-2.ensures c.new-3.ensures)

pub invariant_of-result : goal.invariant_of-result
invariant_of-result c = new_sound c.new-held.result c.new-held.ensures c.received.ensures.holds c.new-kept.result
    (record { names = c.new-kept.ensures.names; runs = c.new-kept.ensures.runs; lists = c.new-kept.ensures.lists; clocks = c.new-kept.ensures.clocks })
    (record { lists = c.store.ensures.lists; told = c.store.ensures.told })
    c.new.result c.new-2.result c.new-3.result c.new.ensures c.new-2.ensures c.new-3.ensures
