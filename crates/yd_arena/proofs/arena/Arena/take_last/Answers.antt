use Rattle.std.proofs.Common.{refl}
use Rattle.yd_arena.proofs.TakingLemmas.{arena_taken, last_within, takes_last}
use Rattle.yd_arena.proofs.arena.Arena.take_last.Goals as goal

pub take_out-requires : goal.take_out-requires
take_out-requires c = last_within c.self.inside.index c.pop-last.new.self c.self.inside.lists.stretches c.args.client.0 c.pop-last.result c.self.invariant c.pop-last.ensures.done

pub invariant_of-self : goal.invariant_of-self
invariant_of-self c = rw c.take_out.ensures.stretches (arena_taken c.self.inside.index c.pop-last.new.self c.self.inside.lists.stretches c.args.client.0 c.pop-last.result c.self.invariant c.pop-last.ensures.done)

pub returns-clause-done : goal.returns-clause-done
returns-clause-done c =
    rw (← c.self.view_is) (takes_last c.self.inside.index c.pop-last.new.self c.self.inside.lists.stretches c.args.client.0 c.pop-last.result c.self.invariant c.pop-last.ensures.done
    (record { lines = c.self.inside.index; linked = c.self.inside.lists }) (record { lines = c.pop-last.new.self; linked = c.take_out.new.self })
    refl refl refl c.take_out.ensures.stretches c.take_out.ensures.lists)
