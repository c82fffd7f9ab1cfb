use Rattle.std.proofs.Common.{◌≡◌, ◌+◌, drop, refl, rules, arith, ap, ◌∙◌, sym}
use Rattle.std.proofs.lemmas.Bool.{and_parts}
use Rattle.std.proofs.lemmas.Grind.{common_steps}
use Rattle.yd_any.specs.AnyView.{any_tree, entries_fields}
use Rattle.yd_any.specs.JsonMap.{map_fields}
use Rattle.yd_any.specs.Carried.{is_carried, fields_are_carried, put, settled, settled_fields}
use Rattle.yd_any.specs.declared.any_value.Any.{the_lemmas}
use Rattle.yd_any.proofs.AnyLists.{entries_step, any_trees-items, any_fields-entries}
use Rattle.yd_any.proofs.JsonLists.{json_trees-made}
use Rattle.yd_any.proofs.JsonMapLemmas.{map_fields-insert_entry, settled_trees-items}
use Rattle.yd_any.proofs.conversion.+carry.Goals as goal

pub carry_list-returns : goal.carry_list-returns
carry_list-returns n c =
    let all = settled_trees-items c.deref-item-items.result.now in
    let trees = any_trees-items c.args.items.now in
    let made = json_trees-made c.loop-item.carried in
    grind (arith, common_steps)

pub carry_pairs-carry-requires : goal.carry_pairs-carry-requires
unfolding Rattle.yd_any.specs.declared.any_value.Any.TheBlock.the_depth
carry_pairs-carry-requires n c =
    let step = entries_step c.deref-entry-items.result.now c.loop-entry.entry-index c.entry-item.result c.loop-entry-test.true c.entry-item.is in
    let parts = and_parts (is_carried (any_tree c.entry-item.result.1)) _ (ap fields_are_carried (sym step) ∙ c.loop-entry.invariant.carried) in
    (search (rules, the_lemmas), parts.0)

pub carry_pairs-loop-entry-preserved : goal.carry_pairs-loop-entry-preserved
carry_pairs-loop-entry-preserved n c =
    let l = c.loop-entry in
    let e = c.entry-item.result in
    let rest = entries_fields (drop (l.entry-index + 1) c.deref-entry-items.result.now) in
    let step = entries_step c.deref-entry-items.result.now l.entry-index e c.loop-entry-test.true c.entry-item.is in
    let parts = and_parts (is_carried (any_tree e.1)) (fields_are_carried rest) (ap fields_are_carried (sym step) ∙ l.invariant.carried) in
    let placed : map_fields c.insert.new.self.entries ≡ put e.0 (settled (any_tree e.1)) (map_fields l.found.entries) =
    ap map_fields c.in_ok-insert.ensures.entries ∙ map_fields-insert_entry l.found.entries c.in_ok-key.key c.in_ok-carry.field-0 ∙ rw (c.in_ok-key.ensures.ok, c.as_str.ensures, c.in_ok-carry.ensures) refl in
    record {
      carried = parts.1;
      done = ap (λ f. settled_fields f rest) placed ∙ ap (settled_fields (map_fields l.found.entries)) (sym step) ∙ l.invariant.done;
    }

pub carry_pairs-returns : goal.carry_pairs-returns
carry_pairs-returns n c =
    let all = any_fields-entries c.args.entries.now in
    grind (arith, common_steps)
