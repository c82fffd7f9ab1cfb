use Rattle.std.proofs.Common.{inr, length, refl}
use Rattle.std.specs.Prelude.{vec_capacity}
use Rattle.yd_arena.specs.declared.lists.TheConstants.{MOST}
use Rattle.yd_arena.proofs.ListsLemmas.{room_parts, kept_grown}
use Rattle.yd_arena.proofs.lists.Lists.add_loose.Goals as goal

pub invariant_of-self : goal.invariant_of-self
invariant_of-self c =
    let room = room_parts (length c.self.inside.stretches.items) c.self.inside.chains.count (length c.self.inside.marks.items) (vec_capacity c.self.inside.stretches) MOST (rw (← c.self.view_is) at c.requires.room) in
    rw c.push_stretch.ensures.items (kept_grown c.self.inside.chains c.self.inside.stretches.items c.self.inside.marks.items c.self.inside.counter MOST c.self.invariant c.self.inside.chains c.args.new
    refl refl room.0 room.1 room.3 (λ k i kl h. inr h))
