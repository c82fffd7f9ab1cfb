use Rattle.yd_arena.proofs.lists.Lists.next.Goals as goal

pub returns-clause-loose : goal.returns-clause-loose
returns-clause-loose c = λ out. c.next.ensures.loose (rw (← c.self.view_is) at out)
