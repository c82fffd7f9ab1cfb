use Rattle.std.proofs.Common.{◌≡◌, ◌++◌, map, refl, arith, ap, ◌∙◌, sym}
use Rattle.std.proofs.lemmas.Bool.{and_parts}
use Rattle.std.proofs.lemmas.Grind.{common_steps}
use Rattle.serde_json.specs.View.{view, members_view}
use Rattle.yd_any.specs.Tree.{with_last, with_last_field, fields_of}
use Rattle.yd_any.specs.Carried.{is_carried, are_carried, fields_are_carried}
use Rattle.yd_any.specs.DataTree.{data_tree, data_fields}
use Rattle.yd_any.specs.JsonView.{json_tree, items_trees, entries_fields}
use Rattle.yd_any.proofs.TreeLemmas.{moved, all_moved}
use Rattle.yd_any.proofs.JsonLists.{entry_tree, items_trees_last, entries_fields_last, json_trees-made, json_fields-made}
use Rattle.yd_any.proofs.DataLemmas.{member_entry, values_are_json, values_json-last, json-last, json-members, data_items_step, data_trees-items, data_fields-members}
use Rattle.yd_any.proofs.making.+make.Goals as goal

pub make_list-loop-item-preserved : goal.make_list-loop-item-preserved
make_list-loop-item-preserved n c =
    let l = c.loop-item in
    let step = data_items_step c.deref-item-items.result.now l.item-index c.item-item.result c.loop-item-test.true c.item-item.is in
    let parts = and_parts (is_carried (data_tree (view c.item-item.result))) _ (ap are_carried (sym step) ∙ l.invariant.left) in
    let longer : items_trees c.push.new.self.items ≡ with_last (items_trees l.made.items) (json_tree c.in_ok-make.field-0) =
    ap items_trees c.in_ok-push.ensures.items ∙ items_trees_last l.made.items c.in_ok-make.field-0 in
    record {
      left = parts.1;
      done = grind (arith, common_steps);
      json = rw longer (json-last (items_trees l.made.items) (json_tree c.in_ok-make.field-0) l.invariant.json c.in_ok-make.ensures.json);
    }

pub make_list-returns-clause-same : goal.make_list-returns-clause-same
make_list-returns-clause-same n c =
    let made = json_trees-made c.loop-item.made in
    let all = data_trees-items c.args.items.now.items in
    grind (arith, common_steps)

pub make_fields-loop-key-preserved : goal.make_fields-loop-key-preserved
make_fields-loop-key-preserved n c =
    let l = c.loop-key in
    let first = c.in-Some.ensures.steps in
    let parts = and_parts (is_carried (data_tree (view c.in-Some.member.now))) _ (ap (λ es. fields_are_carried (data_fields (members_view es))) (sym first) ∙ l.invariant.left) in
    let same : entry_tree (c.in_ok-copy_of.field-0, c.in_ok-make.field-0) ≡ member_entry (c.in-Some.key.now, c.in-Some.member.now) =
    rw (c.in_ok-copy_of.ensures, c.as_str.ensures.value, c.in_ok-make.ensures.same) refl in
    let longer : entries_fields c.push.new.self.items ≡ with_last_field (entries_fields l.made.items) c.in_ok-copy_of.field-0 (json_tree c.in_ok-make.field-0) =
    ap entries_fields c.in_ok-push.ensures.items ∙ entries_fields_last l.made.items (c.in_ok-copy_of.field-0, c.in_ok-make.field-0) in
    record {
      left = parts.1;
      done = ap (λ items. map entry_tree items ++ map member_entry c.next.new.self) c.in_ok-push.ensures.items ∙ moved entry_tree member_entry l.made.items _ _ c.next.new.self l.key-iterator _ same first l.invariant.done;
      json = rw longer (values_json-last (entries_fields l.made.items) c.in_ok-copy_of.field-0 (json_tree c.in_ok-make.field-0) l.invariant.json c.in_ok-make.ensures.json);
    }

pub make_fields-returns-clause-same : goal.make_fields-returns-clause-same
make_fields-returns-clause-same n c =
    let l = c.loop-key in
    json_fields-made l.made ∙ ap fields_of (all_moved entry_tree member_entry l.made.items l.key-iterator _ c.in-None.ensures.steps.0 l.invariant.done) ∙ sym (data_fields-members c.args.members.now.entries)

pub make_fields-returns-clause-json : goal.make_fields-returns-clause-json
make_fields-returns-clause-json n c =
    let l = c.loop-key in
    let same : entries_fields l.made.items ≡ data_fields (members_view c.args.members.now.entries) =
    ap fields_of (all_moved entry_tree member_entry l.made.items l.key-iterator _ c.in-None.ensures.steps.0 l.invariant.done) ∙ sym (data_fields-members c.args.members.now.entries) in
    rw (json_fields-made l.made, same) (json-members c.args.members.now.entries c.iter-key-items.ensures.ordered (ap values_are_json (sym same) ∙ l.invariant.json))
