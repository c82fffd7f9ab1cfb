use Rattle.yd_arena.specs.declared.lists.TheConstants.{MOST}
use Rattle.yd_arena.proofs.ListsLemmas.{are_lists}
use Rattle.yd_arena.proofs.lists.Lists.are_lists.Goals as goal

pub returns : goal.returns
returns c = rw (← c.self.view_is) (are_lists c.self.inside.chains c.self.inside.stretches.items c.self.inside.marks.items c.self.inside.counter MOST _ c.len.ensures.sound c.self.invariant)
