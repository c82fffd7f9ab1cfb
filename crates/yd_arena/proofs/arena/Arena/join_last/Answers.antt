use Rattle.std.proofs.Common.{◌-◌, ap}
use Rattle.yd_arena.specs.Arena.{Placed}
use Rattle.yd_arena.proofs.UncutLemmas.{joint_begins, joint_fits, still_arena, joins_last}
use Rattle.yd_arena.proofs.arena.Arena.join_last.Goals as goal

pub uncut-requires : goal.uncut-requires
uncut-requires c =
    joint_begins c.self.inside.index c.self.inside.lists c.args.place c.self.invariant c.are_lists.ensures (rw (← c.self.view_is) at c.requires)
    c.stretch.result (c.len-last.result - 1) (ap (λ n. n - 1) c.len-last.ensures) c.stretch.ensures

pub join_last-requires-clause-fits : goal.join_last-requires-clause-fits
join_last-requires-clause-fits c = joint_fits c.self.inside.index c.self.inside.lists c.args.place c.self.invariant c.are_lists.ensures (rw (← c.self.view_is) at c.requires)

pub invariant_of-self : goal.invariant_of-self
invariant_of-self c =
    let old : Placed = record { lines = c.self.inside.index; linked = c.self.inside.lists } in
    let new : Placed = record { lines = c.uncut.new.self; linked = c.join_last.new.self } in
    still_arena old new c.args.place (c.len-last.result - 1) c.stretch.result c.self.invariant (rw (← c.self.view_is) at c.requires) (ap (λ n. n - 1) c.len-last.ensures) c.stretch.ensures
    c.uncut.ensures.done c.join_last.ensures.place c.join_last.ensures.stretches c.join_last.ensures.lists c.join_last.ensures.before c.join_last.ensures.sound

pub returns-clause-done : goal.returns-clause-done
returns-clause-done c =
    let old : Placed = record { lines = c.self.inside.index; linked = c.self.inside.lists } in
    let new : Placed = record { lines = c.uncut.new.self; linked = c.join_last.new.self } in
    rw (← c.self.view_is) (joins_last old new c.args.place (c.len-last.result - 1) c.stretch.result c.self.invariant (rw (← c.self.view_is) at c.requires) (ap (λ n. n - 1) c.len-last.ensures) c.stretch.ensures
    c.uncut.ensures.done c.join_last.ensures.place c.join_last.ensures.stretches c.join_last.ensures.lists c.join_last.ensures.before c.join_last.ensures.sound)
