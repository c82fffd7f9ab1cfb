use Rattle.std.proofs.Common.{arith, subst}
use Rattle.yd_arena.specs.Joining.{IsJoint}
use Rattle.yd_arena.proofs.JoiningLemmas.{joint_within}
use Rattle.yd_store.proofs.store.Store.joint.Goals as goal

pub mark-run-requires : goal.mark-run-requires
mark-run-requires c =
    let joint : IsJoint c.self.inside.arena.linked c.in_ok-place.place = subst (λ it. IsJoint it c.in_ok-place.place) c.lists.ensures.value c.in_ok-place.ensures in
    omega (arith, c.self.invariant.counted.each, joint_within c.self.inside.arena.linked c.in_ok-place.place c.lists.ensures.lists joint)
