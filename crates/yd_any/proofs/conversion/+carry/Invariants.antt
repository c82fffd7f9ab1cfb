use Rattle.std.proofs.Common.{◌≡◌, map, take, drop, true}
use Rattle.yd_any.specs.Tree.{no_fields}
use Rattle.yd_any.specs.AnyView.{any_tree, items_trees, entries_fields}
use Rattle.yd_any.specs.JsonView.{json_tree}
use Rattle.yd_any.specs.JsonMap.{map_fields}
use Rattle.yd_any.specs.Carried.{are_carried, fields_are_carried, settled, settled_fields}
use Rattle.yd_any.proofs.conversion.+carry.Given as goal

abbrev pub invariant-carry_list-loop-item : goal.invariant-carry_list-loop-item
invariant-carry_list-loop-item l = record {
  carried : are_carried (items_trees (drop l.item-index l.item-items)) ≡ true;
  done : map json_tree l.carried.items ≡ map (λ v. settled (any_tree v)) (take l.item-index l.item-items);
}

abbrev pub invariant-carry_pairs-loop-entry : goal.invariant-carry_pairs-loop-entry
invariant-carry_pairs-loop-entry l = record {
  carried : fields_are_carried (entries_fields (drop l.entry-index l.entry-items)) ≡ true;
  done : settled_fields (map_fields l.found.entries) (entries_fields (drop l.entry-index l.entry-items)) ≡ settled_fields no_fields (entries_fields l.entry-items);
}
