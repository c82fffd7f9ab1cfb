use Rattle.std.proofs.Common.{◌≡◌, ◌+◌, ◌∙◌, ap, subst, sym}
use Rattle.yd_index.specs.Lines.{next_of, Adds}
use Rattle.yd_arena.proofs.ArenaLemmas.{arena_added}
use Rattle.yd_arena.proofs.arena.Arena.add_loose.Goals as goal

pub invariant_of-self : goal.invariant_of-self
invariant_of-self c =
    rw c.add_loose.ensures.stretches (arena_added c.self.inside.index c.self.inside.lists.stretches c.args.new c.self.invariant (rw (← c.self.view_is) at c.requires.next) c.requires.filled c.add_entry.new.index c.requires.fits
    (subst (λ p. Adds c.self.inside.index c.add_entry.new.index c.args.new.id.client.0 p c.args.new.len) c.len-place.ensures c.add_entry.ensures.done))

pub returns-clause-done : goal.returns-clause-done
returns-clause-done c =
    let next : c.args.new.id.clock ≡ next_of c.self.inside.index c.args.new.id.client.0 = rw (← c.self.view_is) at c.requires.next in
    rw (← c.self.view_is) (record {
      runs = c.add_loose.ensures.stretches;
      lists = c.add_loose.ensures.lists;
      next = c.add_entry.ensures.done.next_is ∙ ap (λ m. m + c.args.new.len) (sym next);
      other_nexts = c.add_entry.ensures.done.other_nexts;
    })
