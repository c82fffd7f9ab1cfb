use Rattle.std.proofs.Common.{◌≡◌, drop}
use Rattle.serde_json.specs.View.{items_view, members_view}
use Rattle.yd_any.specs.Carried.{are_carried, fields_are_carried}
use Rattle.yd_any.specs.DataTree.{data_trees, data_fields}
use Rattle.yd_any.proofs.data.+carried.Given as goal

abbrev pub invariant-are_carried-loop-item : goal.invariant-are_carried-loop-item
invariant-are_carried-loop-item l = are_carried (data_trees (items_view l.item-items)) ≡ are_carried (data_trees (items_view (drop l.item-index l.item-items)))

abbrev pub invariant-members_are_carried-loop-member : goal.invariant-members_are_carried-loop-member
invariant-members_are_carried-loop-member l = fields_are_carried (data_fields (members_view l.members.entries)) ≡ fields_are_carried (data_fields (members_view l.member-iterator))
