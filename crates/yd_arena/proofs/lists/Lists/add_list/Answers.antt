use Rattle.yd_arena.specs.declared.lists.TheConstants.{MOST}
use Rattle.yd_arena.proofs.ListsLemmas.{kept_same, kept_list}
use Rattle.yd_arena.proofs.lists.Lists.add_list.Goals as goal

pub invariant_of-self : goal.invariant_of-self
invariant_of-self c =
    kept_same c.self.inside.chains c.self.inside.stretches.items c.self.inside.marks.items c.self.inside.counter MOST c.self.invariant c.add_chain.new.self c.in_err-list.ensures.count c.in_err-list.ensures.unchanged

pub invariant_of-self-2 : goal.invariant_of-self-2
invariant_of-self-2 c =
    kept_list c.self.inside.chains c.self.inside.stretches.items c.self.inside.marks.items c.self.inside.counter MOST c.self.invariant c.add_chain.new.self c.in_ok-list.ensures.count c.in_ok-list.ensures.chains
