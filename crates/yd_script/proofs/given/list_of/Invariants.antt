use Rattle.std.proofs.Common.{◌≡◌, map, drop}
use Rattle.serde_json.specs.View.{view}
use Rattle.yd_any.specs.AnyView.{any_trees}
use Rattle.yd_ops.specs.Valid.{AreValidTrees}
use Rattle.yd_script.specs.Given.{trees_in}
use Rattle.yd_script.proofs.GivenLemmas.{trees_with}
use Rattle.yd_script.proofs.given.list_of.Given as goal

-- the values so far, and those that are left, are all
abbrev pub invariant-loop-item : goal.invariant-loop-item
invariant-loop-item l = record {
  read : trees_in (map view l.items) ≡ trees_with (any_trees l.values) (trees_in (map view (drop l.item-index l.items)));
  valid : AreValidTrees (any_trees l.values);
}
