use Rattle.yd_arena.specs.declared.lists.TheConstants.{MOST}
use Rattle.yd_arena.proofs.ListsLemmas.{are_lists}
use Rattle.yd_arena.proofs.TakingLemmas.{kept_taken}
use Rattle.yd_arena.proofs.lists.Lists.take_out.Goals as goal

pub invariant_of-self : goal.invariant_of-self
invariant_of-self c =
    rw c.shorten.ensures.items (kept_taken c.self.inside.chains c.take_part.new.chains c.self.inside.stretches.items c.self.inside.marks.items c.self.inside.counter MOST c.args.place
    c.take_part.ensures.sound c.self.invariant c.take_part.ensures.taken c.take_part.ensures.count)

pub returns-clause-sound : goal.returns-clause-sound
returns-clause-sound c = rw (← c.self.view_is) (are_lists c.self.inside.chains c.self.inside.stretches.items c.self.inside.marks.items c.self.inside.counter MOST _ c.take_part.ensures.sound c.self.invariant)
