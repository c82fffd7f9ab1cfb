use Rattle.std.proofs.Common.{arith, refl}
use Rattle.yd_arena.specs.declared.lists.TheConstants.{MOST}
use Rattle.yd_arena.proofs.ListsLemmas.{are_lists, kept_room, stands}
use Rattle.yd_arena.proofs.lists.Lists.scan.Goals as goal

pub scan-requires-clause-stands : goal.scan-requires-clause-stands
scan-requires-clause-stands g c =
    rw c.deref.ensures.value (stands c.self.inside.chains c.self.inside.stretches.items c.self.inside.marks.items c.self.inside.counter MOST c.self.invariant (g.I.Finds.places c.args.index.now) c.args.list c.args.after c.args.new.now
    (rw (← c.self.view_is) at c.requires.list) (rw (← c.self.view_is) at c.requires.index) (rw (← c.self.view_is) at c.requires.after)
    (rw (← c.self.view_is) at c.requires.left) (rw (← c.self.view_is) at c.requires.right))

pub invariant_of-self : goal.invariant_of-self
invariant_of-self g c =
    kept_room c.self.inside.chains c.self.inside.stretches.items c.self.inside.marks.items c.self.inside.counter MOST c.self.invariant c.self.inside.chains c.scan.new.marks.items c.scan.new.counter
    (omega arith) refl (omega (arith, c.begin_scan.ensures.len, c.scan.ensures.len)) c.scan.ensures.low

pub returns-clause-lists : goal.returns-clause-lists
returns-clause-lists g c = rw (← c.self.view_is) (are_lists c.self.inside.chains c.self.inside.stretches.items c.self.inside.marks.items c.self.inside.counter MOST _ c.scan.ensures.sound c.self.invariant)
