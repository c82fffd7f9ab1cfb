use Rattle.std.proofs.Common.{◌≡◌, drop, option_map}
use Rattle.std.specs.Prelude.{None}
use Rattle.yd_any.specs.Valid.{are_json, fields_are_json}
use Rattle.yd_any.specs.JsonView.{items_trees, entries_fields}
use Rattle.yd_any.proofs.json_validity.+shape.Given as goal

abbrev pub invariant-are_json-loop-item : goal.invariant-are_json-loop-item
invariant-are_json-loop-item l = are_json (items_trees l.item-items) ≡ are_json (items_trees (drop l.item-index l.item-items))

abbrev pub invariant-fields_are_json-loop-entry : goal.invariant-fields_are_json-loop-entry
invariant-fields_are_json-loop-entry l = fields_are_json None (entries_fields l.entry-items) ≡ fields_are_json (option_map (λ k. k.now) l.last) (entries_fields (drop l.entry-index l.entry-items))
