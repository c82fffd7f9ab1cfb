use Rattle.std.proofs.Common.{◌≡◌, ◌-◌, length, arith}
use Rattle.yd_arena.specs.declared.lists.TheConstants.{MOST}
use Rattle.yd_arena.proofs.ListsLemmas.{are_lists}
use Rattle.yd_arena.proofs.JoiningLemmas.{joint_within, kept_after, puts_after}
use Rattle.yd_arena.proofs.lists.Lists.join_last.Goals as goal

pub returns-clause-before : goal.returns-clause-before
returns-clause-before c = rw (← c.self.view_is) (are_lists c.self.inside.chains c.self.inside.stretches.items c.self.inside.marks.items c.self.inside.counter MOST _ c.take_part.ensures.sound c.self.invariant)

pub join_stretch-requires-clause-inside : goal.join_stretch-requires-clause-inside
join_stretch-requires-clause-inside c =
    joint_within _ c.args.place (are_lists c.self.inside.chains c.self.inside.stretches.items c.self.inside.marks.items c.self.inside.counter MOST _ c.take_part.ensures.sound c.self.invariant)
    (rw (← c.self.view_is) at c.requires.joint)

pub invariant_of-self : goal.invariant_of-self
invariant_of-self c =
    let taken : c.len.result - 1 ≡ length c.self.inside.stretches.items - 1 = omega (arith, c.len.ensures, c.self.inside.stretches.ok.0) in
    kept_after c.self.inside.chains c.take_part.new.chains c.self.inside.stretches.items c.join_stretch.new.stretches.items c.self.inside.marks.items c.self.inside.counter MOST _ c.args.place _ (c.len.result - 1)
    c.take_part.ensures.sound c.self.invariant c.take_part.ensures.taken taken c.join_stretch.ensures.items (rw (← c.self.view_is) at c.requires.joint) c.take_part.ensures.count

pub returns-clause-lists : goal.returns-clause-lists
returns-clause-lists c =
    let taken : c.len.result - 1 ≡ length c.self.inside.stretches.items - 1 = omega (arith, c.len.ensures, c.self.inside.stretches.ok.0) in
    rw (← c.self.view_is) (puts_after c.self.inside.chains c.take_part.new.chains c.self.inside.stretches.items c.join_stretch.new.stretches.items c.self.inside.marks.items c.self.inside.counter MOST _ c.args.place _ (c.len.result - 1)
    c.take_part.ensures.sound c.self.invariant c.take_part.ensures.taken taken c.join_stretch.ensures.items (rw (← c.self.view_is) at c.requires.joint))

pub returns-clause-sound : goal.returns-clause-sound
returns-clause-sound c = are_lists c.take_part.new.chains c.join_stretch.new.stretches.items c.self.inside.marks.items c.self.inside.counter MOST _ c.len-2.ensures.sound (invariant_of-self c)
