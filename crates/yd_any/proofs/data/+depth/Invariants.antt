use Rattle.std.proofs.Common.{◌≡◌, drop}
use Rattle.std.specs.Prelude.{nat_le}
use Rattle.serde_json.specs.View.{items_view, members_view}
use Rattle.yd_any.specs.Tree.{depth_of_trees, depth_of_fields}
use Rattle.yd_any.specs.DataTree.{data_trees, data_fields}
use Rattle.yd_any.proofs.data.+depth.Given as goal

abbrev pub invariant-are_within-loop-item : goal.invariant-are_within-loop-item
invariant-are_within-loop-item l = nat_le (depth_of_trees (data_trees (items_view l.item-items))) l.most ≡ nat_le (depth_of_trees (data_trees (items_view (drop l.item-index l.item-items)))) l.most

abbrev pub invariant-members_are_within-loop-member : goal.invariant-members_are_within-loop-member
invariant-members_are_within-loop-member l = nat_le (depth_of_fields (data_fields (members_view l.members.entries))) l.most ≡ nat_le (depth_of_fields (data_fields (members_view l.member-iterator))) l.most
