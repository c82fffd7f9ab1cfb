use Rattle.std.proofs.Common.{arith, refl}
use Rattle.yd_arena.specs.declared.lists.TheConstants.{MOST}
use Rattle.yd_arena.proofs.ListsLemmas.{kept_room}
use Rattle.yd_arena.proofs.lists.Lists.reserve.Goals as goal

pub invariant_of-self-in_err-grow_marks : goal.invariant_of-self-in_err-grow_marks
invariant_of-self-in_err-grow_marks c =
    rw c.reserve.ensures.items (kept_room c.self.inside.chains c.self.inside.stretches.items c.self.inside.marks.items c.self.inside.counter MOST c.self.invariant c.self.inside.chains c.grow_marks.new.marks.items c.self.inside.counter
    (omega arith) refl c.grow_marks.ensures.kept (c.grow_marks.ensures.low c.self.inside.counter c.self.invariant.low))

pub invariant_of-self-in_err-grow_places : goal.invariant_of-self-in_err-grow_places
invariant_of-self-in_err-grow_places c =
    rw c.reserve.ensures.items (kept_room c.self.inside.chains c.self.inside.stretches.items c.self.inside.marks.items c.self.inside.counter MOST c.self.invariant c.grow_places.new.chains c.grow_marks.new.marks.items c.self.inside.counter
    c.grow_places.ensures.kept c.grow_places.ensures.chains c.grow_marks.ensures.kept (c.grow_marks.ensures.low c.self.inside.counter c.self.invariant.low))

pub invariant_of-self-2 : goal.invariant_of-self-2
invariant_of-self-2 c =
    rw c.reserve.ensures.items (kept_room c.self.inside.chains c.self.inside.stretches.items c.self.inside.marks.items c.self.inside.counter MOST c.self.invariant c.grow_places.new.chains c.grow_marks.new.marks.items c.self.inside.counter
    c.grow_places.ensures.kept c.grow_places.ensures.chains c.grow_marks.ensures.kept (c.grow_marks.ensures.low c.self.inside.counter c.self.invariant.low))
