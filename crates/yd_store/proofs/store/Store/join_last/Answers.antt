use Rattle.std.proofs.Common.{arith}
use Rattle.std.proofs.lemmas.List.{length-map}
use Rattle.yd_arena.specs.Lists.{AreLists}
use Rattle.yd_arena.specs.Joining.{IsJoint}
use Rattle.yd_arena.proofs.JoiningLemmas.{joint_within}
use Rattle.yd_store.specs.Contents.{told}
use Rattle.yd_store.specs.Store.{Stored}
use Rattle.yd_store.proofs.JoiningLemmas.{store_joined, joins_again, joined_keeps}
use Rattle.yd_store.proofs.store.Store.join_last.Goals as goal

pub join_last-requires : goal.join_last-requires
join_last-requires c =
    let lists : AreLists c.self.inside.arena.linked = rw (← c.self.view_is) at c.joint.ensures.lists in
    let joint : IsJoint c.self.inside.arena.linked c.in-Some.place = rw (← c.self.view_is) at c.in-Some.ensures.joint in
    omega (arith, joint_within c.self.inside.arena.linked c.in-Some.place lists joint, c.self.invariant.told.each, length-map c.self.inside.contents.rows told)

pub invariant_of-self-2 : goal.invariant_of-self-2
invariant_of-self-2 c =
    let old : Stored = record { placed = c.self.inside.arena; marks = c.self.inside.marks; contents = c.self.inside.contents } in
    let new : Stored = record { placed = c.join_last-2.new.self; marks = c.drop_last.new.self; contents = c.join_last.new.self } in
    store_joined old new c.in-Some.place c.self.invariant c.join_last-2.ensures.lists
    c.join_last-2.ensures.done (rw (← c.self.view_is) at c.in-Some.ensures.alike) c.drop_last.ensures.rows c.drop_last.ensures.live (c.in_ok-join_last.ensures.joined c.if-not-branch.false)

pub returns-clause-joined : goal.returns-clause-joined
returns-clause-joined c = λ _.
    let old : Stored = record { placed = c.self.inside.arena; marks = c.self.inside.marks; contents = c.self.inside.contents } in
    let new : Stored = record { placed = c.join_last-2.new.self; marks = c.drop_last.new.self; contents = c.join_last.new.self } in
    rw (← c.self.view_is) (joins_again old new c.in-Some.place c.self.invariant c.join_last-2.ensures.lists
    c.join_last-2.ensures.done (rw (← c.self.view_is) at c.in-Some.ensures.alike) c.drop_last.ensures.rows c.drop_last.ensures.live (c.in_ok-join_last.ensures.joined c.if-not-branch.false))

pub returns-clause-units : goal.returns-clause-units
returns-clause-units c =
    let old : Stored = record { placed = c.self.inside.arena; marks = c.self.inside.marks; contents = c.self.inside.contents } in
    let new : Stored = record { placed = c.join_last-2.new.self; marks = c.drop_last.new.self; contents = c.join_last.new.self } in
    rw (← c.self.view_is) (joined_keeps old new c.in-Some.place c.self.invariant c.join_last-2.ensures.lists
    c.join_last-2.ensures.done (rw (← c.self.view_is) at c.in-Some.ensures.alike) c.drop_last.ensures.rows c.drop_last.ensures.live (c.in_ok-join_last.ensures.joined c.if-not-branch.false))
