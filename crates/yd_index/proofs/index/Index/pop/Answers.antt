use Rattle.yd_index.proofs.LinesLemmas.{next_seen, put_lines, put_pops, put_rooms}
use Rattle.yd_index.proofs.index.Index.pop.Goals as goal

pub pop-requires : goal.pop-requires
pop-requires c = rw (next_seen (rw c.deref.ensures.value at c.in-Some.ensures.seat) c.index_mut.ensures.value) (rw (← c.self.view_is) at c.requires)

pub invariant_of-self : goal.invariant_of-self
invariant_of-self c = put_lines (rw c.deref.ensures.value at c.in-Some.ensures.seat) c.index_mut.ensures.value c.pop.new.self c.pop.ensures.client

pub returns-clause-done : goal.returns-clause-done
returns-clause-done c = rw (← c.self.view_is) (put_pops (rw c.deref.ensures.value at c.in-Some.ensures.seat) c.index_mut.ensures.value c.pop.new.self c.pop.result c.pop.ensures.client c.pop.ensures.entries c.pop.ensures.next)

pub returns-clause-rooms : goal.returns-clause-rooms
returns-clause-rooms c = rw (← c.self.view_is) (put_rooms (rw c.deref.ensures.value at c.in-Some.ensures.seat) c.index_mut.ensures.value c.pop.new.self c.pop.ensures.client c.pop.ensures.room)
