use Rattle.std.proofs.Common.{ap₂, ◌∙◌}
use Rattle.yd_index.specs.Line.{with_cut}
use Rattle.yd_index.proofs.LinesLemmas.{entries_seen, next_seen, put_lines, put_changes, put_other_room, on_err}
use Rattle.yd_index.proofs.index.Index.cut.Goals as goal

pub cut-requires : goal.cut-requires
cut-requires c = rw (entries_seen (rw c.deref.ensures.value at c.in-Some.ensures.seat) c.index_mut.ensures.value, next_seen (rw c.deref.ensures.value at c.in-Some.ensures.seat) c.index_mut.ensures.value) (rw (← c.self.view_is) at c.requires)

pub invariant_of-self : goal.invariant_of-self
invariant_of-self c = put_lines (rw c.deref.ensures.value at c.in-Some.ensures.seat) c.index_mut.ensures.value c.cut.new.self c.in_err-cut.ensures.client

pub returns-in_err-cut-clause-unchanged : goal.returns-in_err-cut-clause-unchanged
returns-in_err-cut-clause-unchanged c = on_err c.from_residual.result _ (rw (← c.self.view_is) (put_changes (rw c.deref.ensures.value at c.in-Some.ensures.seat) c.index_mut.ensures.value c.cut.new.self _ _ c.in_err-cut.ensures.client (c.in_err-cut.ensures.unchanged ∙ entries_seen (rw c.deref.ensures.value at c.in-Some.ensures.seat) c.index_mut.ensures.value) (c.in_err-cut.ensures.next ∙ next_seen (rw c.deref.ensures.value at c.in-Some.ensures.seat) c.index_mut.ensures.value)))

pub invariant_of-self-2 : goal.invariant_of-self-2
invariant_of-self-2 c = put_lines (rw c.deref.ensures.value at c.in-Some.ensures.seat) c.index_mut.ensures.value c.cut.new.self c.in_ok-cut.ensures.client

pub returns-clause-done : goal.returns-clause-done
returns-clause-done c = rw (← c.self.view_is) (put_changes (rw c.deref.ensures.value at c.in-Some.ensures.seat) c.index_mut.ensures.value c.cut.new.self _ _ c.in_ok-cut.ensures.client (c.in_ok-cut.ensures.done ∙ ap₂ (λ es n. with_cut es n c.args.id.clock c.args.place) (entries_seen (rw c.deref.ensures.value at c.in-Some.ensures.seat) c.index_mut.ensures.value) (next_seen (rw c.deref.ensures.value at c.in-Some.ensures.seat) c.index_mut.ensures.value)) (c.in_ok-cut.ensures.next ∙ next_seen (rw c.deref.ensures.value at c.in-Some.ensures.seat) c.index_mut.ensures.value))

pub returns-in_err-cut-clause-other_rooms : goal.returns-in_err-cut-clause-other_rooms
returns-in_err-cut-clause-other_rooms c = rw (← c.self.view_is) (put_other_room (rw c.deref.ensures.value at c.in-Some.ensures.seat) c.index_mut.ensures.value c.cut.new.self c.in_err-cut.ensures.client)

pub returns-clause-other_rooms : goal.returns-clause-other_rooms
returns-clause-other_rooms c = rw (← c.self.view_is) (put_other_room (rw c.deref.ensures.value at c.in-Some.ensures.seat) c.index_mut.ensures.value c.cut.new.self c.in_ok-cut.ensures.client)
