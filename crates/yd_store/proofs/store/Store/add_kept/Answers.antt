use Rattle.std.proofs.Common.{Some, map, refl, sym, ap}
use Rattle.yd_ops.specs.View.{run_value}
use Rattle.yd_store.specs.Contents.{told}
use Rattle.yd_store.proofs.StoreLemmas.{lists_same, store_same, store_added, told_more, kept_no_later, kept_is, run_added}
use Rattle.yd_store.proofs.AddingLemmas.{adds_units}
use Rattle.yd_store.proofs.store.Store.add_kept.Goals as goal

pub add_run-place-requires-clause-right : goal.add_run-place-requires-clause-right
add_run-place-requires-clause-right c =
    kept_no_later c.self.inside.arena c.reserve_parts-room.new.arena c.args.list c.args.run.right c.args.right c.reserve_parts-room.ensures.kept.arena (rw (← c.self.view_is) at c.requires.kept) (rw (← c.self.view_is) at c.requires.right)

pub invariant_of-self-2 : goal.invariant_of-self-2
invariant_of-self-2 c =
    let kept = store_same c.self.inside.arena c.reserve_parts-room.new.arena c.self.inside.marks c.reserve_parts-room.new.marks c.self.inside.contents c.reserve_parts-room.new.contents c.self.invariant c.reserve_parts-room.ensures.kept.arena.runs c.reserve_parts-room.ensures.kept.arena.lists c.reserve_parts-room.ensures.kept.rows c.reserve_parts-room.ensures.kept.live (ap (map told) c.reserve_parts-room.ensures.kept.runs) in
    store_added c.reserve_parts-room.new.arena c.add_run-place.new.self c.reserve_parts-room.new.marks c.add.new.self c.reserve_parts-room.new.contents c.add-2.new.self c.args.list _ _ (Some (run_value c.args.run)) kept (lists_same c.self.inside.arena.linked c.reserve_parts-room.new.arena.linked c.reserve_parts-room.ensures.kept.arena.runs c.reserve_parts-room.ensures.kept.arena.lists c.reserve_parts-room.ensures.lists)
    (rw c.reserve_parts-room.ensures.kept.arena.lists (rw (← c.self.view_is) at c.requires.list)) c.add_run-place.ensures.done
    (record { id_is = refl; len_is = sym c.len-len.ensures; left_is = refl; right_is = kept_is c.self.inside.arena c.args.list c.args.run.right c.args.right (rw (← c.self.view_is) at c.requires.kept) })
    (λ alive full. c.counts.ensures) c.add.ensures.rows c.add.ensures.live (told_more c.reserve_parts-room.new.contents c.add-2.new.self (Some c.args.run) c.add-2.ensures.rows)

pub returns-clause-done : goal.returns-clause-done
returns-clause-done c =
    rw (← c.self.view_is) (run_added c.self.inside.arena c.reserve_parts-room.new.arena c.add_run-place.new.self c.self.inside.marks c.reserve_parts-room.new.marks c.add.new.self c.self.inside.contents c.reserve_parts-room.new.contents c.add-2.new.self
    c.args.list c.args.run c.args.right c.len-len.result c.counts.result c.reserve_parts-room.ensures.kept.arena c.reserve_parts-room.ensures.kept.rows c.reserve_parts-room.ensures.kept.live c.reserve_parts-room.ensures.kept.runs c.len-len.ensures c.counts.ensures
    (rw (← c.self.view_is) at c.requires.kept) c.add_run-place.ensures.done c.add.ensures.rows c.add.ensures.live c.add-2.ensures.rows)

pub returns-clause-units : goal.returns-clause-units
returns-clause-units c =
    rw (← c.self.view_is) (adds_units (record { placed = c.self.inside.arena; marks = c.self.inside.marks; contents = c.self.inside.contents }) (record { placed = c.add_run-place.new.self; marks = c.add.new.self; contents = c.add-2.new.self })
    c.args.list (run_value c.args.run) c.self.invariant c.reserve_parts-room.ensures.lists (rw (← c.self.view_is) at c.requires.list) (run_added c.self.inside.arena c.reserve_parts-room.new.arena c.add_run-place.new.self c.self.inside.marks c.reserve_parts-room.new.marks c.add.new.self c.self.inside.contents c.reserve_parts-room.new.contents c.add-2.new.self
    c.args.list c.args.run c.args.right c.len-len.result c.counts.result c.reserve_parts-room.ensures.kept.arena c.reserve_parts-room.ensures.kept.rows c.reserve_parts-room.ensures.kept.live c.reserve_parts-room.ensures.kept.runs c.len-len.ensures c.counts.ensures
    (rw (← c.self.view_is) at c.requires.kept) c.add_run-place.ensures.done c.add.ensures.rows c.add.ensures.live c.add-2.ensures.rows)
    (rw (← c.self.view_is) at c.requires.next))
