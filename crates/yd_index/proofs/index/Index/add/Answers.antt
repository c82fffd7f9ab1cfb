use Rattle.std.proofs.Common.{ap, ap₂, ◌∙◌, arith}
use Rattle.std.proofs.Common.{◌∷◌, [], ◌++◌, ◌+◌}
use Rattle.yd_index.proofs.LinesLemmas.{entries_seen, next_seen, room_seen, put_lines, put_changes, put_room, put_other_room, on_err}
use Rattle.yd_index.proofs.index.Index.add.Goals as goal

pub add-requires-clause-fits : goal.add-requires-clause-fits
add-requires-clause-fits c = rw (next_seen c.in_ok-i.ensures.seat c.index_mut.ensures.value) (rw (← c.self.view_is) at c.requires.fits)

pub invariant_of-self-in_err-add : goal.invariant_of-self-in_err-add
invariant_of-self-in_err-add c = put_lines c.in_ok-i.ensures.seat c.index_mut.ensures.value c.add.new.self c.in_err-add.ensures.client

pub returns-in_err-add-clause-unchanged : goal.returns-in_err-add-clause-unchanged
returns-in_err-add-clause-unchanged c = on_err c.from_residual-in_err-add.result _ (rw (← c.self.view_is) (put_changes c.in_ok-i.ensures.seat c.index_mut.ensures.value c.add.new.self _ _ c.in_err-add.ensures.client (c.in_err-add.ensures.unchanged.entries ∙ entries_seen c.in_ok-i.ensures.seat c.index_mut.ensures.value) (c.in_err-add.ensures.unchanged.next ∙ next_seen c.in_ok-i.ensures.seat c.index_mut.ensures.value)))

pub returns-in_err-add-clause-room : goal.returns-in_err-add-clause-room
returns-in_err-add-clause-room c = rw (← c.self.view_is) (omega (arith, room_seen c.in_ok-i.ensures.seat c.index_mut.ensures.value, put_room c.in_ok-i.ensures.seat c.index_mut.ensures.value c.add.new.self c.in_err-add.ensures.client, c.in_err-add.ensures.room))

pub returns-in_err-add-clause-other_rooms : goal.returns-in_err-add-clause-other_rooms
returns-in_err-add-clause-other_rooms c = rw (← c.self.view_is) (put_other_room c.in_ok-i.ensures.seat c.index_mut.ensures.value c.add.new.self c.in_err-add.ensures.client)

pub returns-in_err-add-clause-succeeds : goal.returns-in_err-add-clause-succeeds
returns-in_err-add-clause-succeeds c = rw (← c.self.view_is) (λ pos. let no = c.in_err-add.ensures.succeeds (omega (arith, pos, room_seen c.in_ok-i.ensures.seat c.index_mut.ensures.value)) in absurd cc)

pub invariant_of-self-2 : goal.invariant_of-self-2
invariant_of-self-2 c = put_lines c.in_ok-i.ensures.seat c.index_mut.ensures.value c.add.new.self c.in_ok-add.ensures.client

pub returns-clause-done : goal.returns-clause-done
returns-clause-done c = rw (← c.self.view_is) (put_changes c.in_ok-i.ensures.seat c.index_mut.ensures.value c.add.new.self _ _ c.in_ok-add.ensures.client (c.in_ok-add.ensures.entries ∙ ap₂ (λ es n. es ++ record { clock = n; place = c.args.place } ∷ []) (entries_seen c.in_ok-i.ensures.seat c.index_mut.ensures.value) (next_seen c.in_ok-i.ensures.seat c.index_mut.ensures.value)) (c.in_ok-add.ensures.next ∙ ap (λ n. n + c.args.len) (next_seen c.in_ok-i.ensures.seat c.index_mut.ensures.value)))

pub returns-clause-room : goal.returns-clause-room
returns-clause-room c = rw (← c.self.view_is) (omega (arith, room_seen c.in_ok-i.ensures.seat c.index_mut.ensures.value, put_room c.in_ok-i.ensures.seat c.index_mut.ensures.value c.add.new.self c.in_ok-add.ensures.client, c.in_ok-add.ensures.room))

pub returns-clause-other_rooms : goal.returns-clause-other_rooms
returns-clause-other_rooms c = rw (← c.self.view_is) (put_other_room c.in_ok-i.ensures.seat c.index_mut.ensures.value c.add.new.self c.in_ok-add.ensures.client)
