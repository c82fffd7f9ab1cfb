use Rattle.std.proofs.Common.{◌∙◌, arith}
use Rattle.yd_index.specs.Line.{Begins}
use Rattle.yd_index.proofs.LineLemmas.{below_next}
use Rattle.yd_index.proofs.UncutLemmas.{taken_is}
use Rattle.yd_index.proofs.line.Line.uncut.Goals as goal

pub begun-n-requires : goal.begun-n-requires
begun-n-requires c =
    let b : Begins c.self.inside.entries.items c.self.inside.next c.args.clock = rw (← c.self.view_is) at c.requires in
    omega (arith, below_next c.self.inside.entries.items 0 c.self.inside.next c.args.clock b.entry c.self.invariant b.found, c.self.ranges)

pub overflow_sub-n : goal.overflow_sub-n
overflow_sub-n c =
    let b : Begins c.self.inside.entries.items c.self.inside.next c.args.clock = rw (← c.self.view_is) at c.requires in
    (taken_is c.self.inside.entries.items c.self.inside.next c.begun-n.result c.args.clock c.self.invariant b c.begun-n.ensures.bound c.begun-n.ensures.boundary).0

pub invariant_of-self : goal.invariant_of-self
invariant_of-self c =
    let b : Begins c.self.inside.entries.items c.self.inside.next c.args.clock = rw (← c.self.view_is) at c.requires in
    let taken = taken_is c.self.inside.entries.items c.self.inside.next c.begun-n.result c.args.clock c.self.invariant b c.begun-n.ensures.bound c.begun-n.ensures.boundary in
    rw (c.remove.ensures.done, taken.1) taken.2

pub returns-clause-entries : goal.returns-clause-entries
returns-clause-entries c =
    let b : Begins c.self.inside.entries.items c.self.inside.next c.args.clock = rw (← c.self.view_is) at c.requires in
    rw (← c.self.view_is) (c.remove.ensures.done ∙ (taken_is c.self.inside.entries.items c.self.inside.next c.begun-n.result c.args.clock c.self.invariant b c.begun-n.ensures.bound c.begun-n.ensures.boundary).1)
