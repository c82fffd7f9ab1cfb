use Rattle.std.proofs.Common.{◌++◌, map, subst}
use Rattle.std.specs.Vec.Iter.{into_iter_items}
use Rattle.yd_ops.specs.View.{struct_value}
use Rattle.yd_merge.specs.Joining.{SaySame, structs_in}
use Rattle.yd_merge.proofs.JoiningLemmas.{same_put}
use Rattle.yd_merge.proofs.joining.join_structs.Goals as goal

pub loop-next-preserved : goal.loop-next-preserved
loop-next-preserved c =
    let before = structs_in c.loop-next.done c.loop-next.last in
    same_put (map struct_value c.args.structs) before (structs_in c.put_behind.new.done c.put_behind.new.last) (map struct_value (into_iter_items c.next-in-loop-next.new.self))
    (struct_value c.in-Some-next.next) c.in_ok-put_behind.ensures
    (subst (λ items. SaySame (map struct_value c.args.structs) (before ++ map struct_value items)) c.in-Some-next.ensures.items c.loop-next.invariant)
