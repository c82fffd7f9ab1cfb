use Rattle.std.proofs.Common.{Some, None, map, refl, sym, ap, subst, inr}
use Rattle.yd_ops.specs.View.{run_value}
use Rattle.yd_store.specs.Contents.{told}
use Rattle.yd_arena.specs.Arena.{AddsLoose}
use Rattle.yd_store.proofs.StoreLemmas.{lists_same, store_same, store_loose, told_more}
use Rattle.yd_store.proofs.NotedLemmas.{noted_dead}
use Rattle.yd_store.proofs.AddingLemmas.{outside_added, adds_apart}
use Rattle.yd_store.proofs.store.Store.add_lost.Goals as goal

pub invariant_of-self-2 : goal.invariant_of-self-2
invariant_of-self-2 c =
    let kept = store_same c.self.inside.arena c.reserve_parts-room.new.arena c.self.inside.marks c.reserve_parts-room.new.marks c.self.inside.contents c.reserve_parts-room.new.contents c.self.invariant c.reserve_parts-room.ensures.kept.arena.runs c.reserve_parts-room.ensures.kept.arena.lists c.reserve_parts-room.ensures.kept.rows c.reserve_parts-room.ensures.kept.live (ap (map told) c.reserve_parts-room.ensures.kept.runs) in
    store_loose c.reserve_parts-room.new.arena c.add_loose-place.new.self c.reserve_parts-room.new.marks c.add.new.self c.reserve_parts-room.new.contents c.add-2.new.self _ _ (Some (run_value c.args.run)) kept (lists_same c.self.inside.arena.linked c.reserve_parts-room.new.arena.linked c.reserve_parts-room.ensures.kept.arena.runs c.reserve_parts-room.ensures.kept.arena.lists c.reserve_parts-room.ensures.lists)
    c.add_loose-place.ensures.done (record { id_is = refl; len_is = sym c.len-len.ensures; left_is = refl; right_is = inr refl }) (noted_dead _ (Some (run_value c.args.run)) refl) c.add.ensures.rows c.add.ensures.live (told_more c.reserve_parts-room.new.contents c.add-2.new.self (Some c.args.run) c.add-2.ensures.rows)

pub returns-clause-units : goal.returns-clause-units
returns-clause-units c =
    rw (← c.self.view_is) (adds_apart (record { placed = c.self.inside.arena; marks = c.self.inside.marks; contents = c.self.inside.contents }) (record { placed = c.add_loose-place.new.self; marks = c.add.new.self; contents = c.add-2.new.self })
    _ (Some (run_value c.args.run)) c.self.invariant c.reserve_parts-room.ensures.lists (outside_added c.self.inside.arena c.reserve_parts-room.new.arena c.add_loose-place.new.self c.self.inside.marks c.reserve_parts-room.new.marks c.add.new.self c.self.inside.contents c.reserve_parts-room.new.contents c.add-2.new.self
    _ (Some c.args.run) c.reserve_parts-room.ensures.kept.arena c.reserve_parts-room.ensures.kept.rows c.reserve_parts-room.ensures.kept.live c.reserve_parts-room.ensures.kept.runs
    (subst (λ n. AddsLoose c.reserve_parts-room.new.arena c.add_loose-place.new.self (record { id = c.args.run.id; len = n; left = c.args.run.left; right = None })) c.len-len.ensures c.add_loose-place.ensures.done)
    c.add.ensures.rows c.add.ensures.live c.add-2.ensures.rows)
    (rw (← c.self.view_is) at c.requires.next))
