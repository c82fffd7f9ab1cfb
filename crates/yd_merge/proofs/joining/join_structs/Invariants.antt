use Rattle.std.proofs.Common.{◌++◌, map}
use Rattle.std.specs.Vec.Iter.{into_iter_items, into_iter_len}
use Rattle.yd_ops.specs.View.{struct_value}
use Rattle.yd_merge.specs.Joining.{SaySame, structs_in}
use Rattle.yd_merge.proofs.joining.join_structs.Given as goal

abbrev pub invariant-loop-next : goal.invariant-loop-next
invariant-loop-next l = SaySame (map struct_value l.fn.structs) (structs_in l.done l.last ++ map struct_value (into_iter_items l.left))

abbrev pub decreases-loop-next : goal.decreases-loop-next
decreases-loop-next l = into_iter_len l.left
