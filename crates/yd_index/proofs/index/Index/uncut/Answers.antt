use Rattle.std.proofs.Common.{ap, ◌∙◌}
use Rattle.yd_index.specs.Line.{without_cut}
use Rattle.yd_index.proofs.LinesLemmas.{entries_seen, next_seen, put_lines, put_changes, put_rooms}
use Rattle.yd_index.proofs.index.Index.uncut.Goals as goal

pub uncut-requires : goal.uncut-requires
uncut-requires c = rw (entries_seen (rw c.deref.ensures.value at c.in-Some.ensures.seat) c.index_mut.ensures.value, next_seen (rw c.deref.ensures.value at c.in-Some.ensures.seat) c.index_mut.ensures.value) (rw (← c.self.view_is) at c.requires)

pub invariant_of-self : goal.invariant_of-self
invariant_of-self c = put_lines (rw c.deref.ensures.value at c.in-Some.ensures.seat) c.index_mut.ensures.value c.uncut.new.self c.uncut.ensures.client

pub returns-clause-done : goal.returns-clause-done
returns-clause-done c = rw (← c.self.view_is) (put_changes (rw c.deref.ensures.value at c.in-Some.ensures.seat) c.index_mut.ensures.value c.uncut.new.self _ _ c.uncut.ensures.client (c.uncut.ensures.entries ∙ ap (λ es. without_cut es c.args.id.clock) (entries_seen (rw c.deref.ensures.value at c.in-Some.ensures.seat) c.index_mut.ensures.value)) (c.uncut.ensures.next ∙ next_seen (rw c.deref.ensures.value at c.in-Some.ensures.seat) c.index_mut.ensures.value))

pub returns-clause-rooms : goal.returns-clause-rooms
returns-clause-rooms c = rw (← c.self.view_is) (put_rooms (rw c.deref.ensures.value at c.in-Some.ensures.seat) c.index_mut.ensures.value c.uncut.new.self c.uncut.ensures.client c.uncut.ensures.room)
