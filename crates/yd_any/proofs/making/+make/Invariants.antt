use Rattle.std.proofs.Common.{◌≡◌, ◌++◌, map, take, drop, true}
use Rattle.serde_json.specs.View.{view, items_view, members_view}
use Rattle.yd_any.specs.Valid.{are_json}
use Rattle.yd_any.specs.Carried.{are_carried, fields_are_carried}
use Rattle.yd_any.specs.DataTree.{data_tree, data_trees, data_fields}
use Rattle.yd_any.specs.JsonView.{json_tree, items_trees, entries_fields}
use Rattle.yd_any.proofs.JsonLists.{entry_tree}
use Rattle.yd_any.proofs.DataLemmas.{member_entry, values_are_json}
use Rattle.yd_any.proofs.making.+make.Given as goal

abbrev pub invariant-make_list-loop-item : goal.invariant-make_list-loop-item
invariant-make_list-loop-item l = record {
  left : are_carried (data_trees (items_view (drop l.item-index l.item-items))) ≡ true;
  done : map json_tree l.made.items ≡ map (λ v. data_tree (view v)) (take l.item-index l.item-items);
  json : are_json (items_trees l.made.items) ≡ true;
}

abbrev pub invariant-make_fields-loop-key : goal.invariant-make_fields-loop-key
invariant-make_fields-loop-key l = record {
  left : fields_are_carried (data_fields (members_view l.key-iterator)) ≡ true;
  done : map entry_tree l.made.items ++ map member_entry l.key-iterator ≡ map member_entry l.members.entries;
  json : values_are_json (entries_fields l.made.items) ≡ true;
}
