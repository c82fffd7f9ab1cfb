use Rattle.std.proofs.Common.{None, map, ap}
use Rattle.yd_store.specs.Contents.{told}
use Rattle.yd_store.proofs.StoreLemmas.{lists_same, store_same, store_loose, told_more}
use Rattle.yd_store.proofs.AddingLemmas.{outside_added, adds_apart}
use Rattle.yd_store.proofs.store.Store.add_gone.Goals as goal

pub invariant_of-self-2 : goal.invariant_of-self-2
invariant_of-self-2 c =
    let kept = store_same c.self.inside.arena c.reserve_parts.new.arena c.self.inside.marks c.reserve_parts.new.marks c.self.inside.contents c.reserve_parts.new.contents c.self.invariant c.reserve_parts.ensures.kept.arena.runs c.reserve_parts.ensures.kept.arena.lists c.reserve_parts.ensures.kept.rows c.reserve_parts.ensures.kept.live (ap (map told) c.reserve_parts.ensures.kept.runs) in
    store_loose c.reserve_parts.new.arena c.add_loose-place.new.self c.reserve_parts.new.marks c.add.new.self c.reserve_parts.new.contents c.add-2.new.self _ _ None kept (lists_same c.self.inside.arena.linked c.reserve_parts.new.arena.linked c.reserve_parts.ensures.kept.arena.runs c.reserve_parts.ensures.kept.arena.lists c.reserve_parts.ensures.lists)
    c.add_loose-place.ensures.done tt tt c.add.ensures.rows c.add.ensures.live (told_more c.reserve_parts.new.contents c.add-2.new.self None c.add-2.ensures.rows)

pub returns-clause-units : goal.returns-clause-units
returns-clause-units c =
    rw (← c.self.view_is) (adds_apart (record { placed = c.self.inside.arena; marks = c.self.inside.marks; contents = c.self.inside.contents }) (record { placed = c.add_loose-place.new.self; marks = c.add.new.self; contents = c.add-2.new.self })
    _ None c.self.invariant c.reserve_parts.ensures.lists (outside_added c.self.inside.arena c.reserve_parts.new.arena c.add_loose-place.new.self c.self.inside.marks c.reserve_parts.new.marks c.add.new.self c.self.inside.contents c.reserve_parts.new.contents c.add-2.new.self
    _ None c.reserve_parts.ensures.kept.arena c.reserve_parts.ensures.kept.rows c.reserve_parts.ensures.kept.live c.reserve_parts.ensures.kept.runs c.add_loose-place.ensures.done c.add.ensures.rows c.add.ensures.live c.add-2.ensures.rows)
    (rw (← c.self.view_is) at c.requires.next))
