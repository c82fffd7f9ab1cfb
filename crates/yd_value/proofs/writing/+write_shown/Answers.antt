use Rattle.std.proofs.Common.{◌≡◌, ◌++◌, [], false, codes, rules, arith, ap, sym, ◌∙◌}
use Rattle.std.specs.Vec.{vec_len}
use Rattle.std.proofs.lemmas.Bool.{eqb-true}
use Rattle.std.proofs.lemmas.Grind.{common_steps}
use Rattle.std.proofs.lemmas.List.{nil_from_length}
use Rattle.yd_value.specs.View.{shown_tree, shown_fields, entries_fields}
use Rattle.yd_value.specs.Texts.{enclosed, text_of, text_of_fields}
use Rattle.yd_value.specs.declared.shown.Shown.{the_lemmas}
use Rattle.yd_value.proofs.ShownLists.{tree_of_element-parts, shown_fields-entries, shown_tree-Raw4, shown_tree-Raw8}
use Rattle.yd_value.proofs.WritingLemmas.{two_appended, text_of-element}
use Rattle.yd_value.proofs.writing.+write_shown.Goals as goal

pub write_shown-returns-in_ok-write_hex-in-Raw4 : goal.write_shown-returns-in_ok-write_hex-in-Raw4
write_shown-returns-in_ok-write_hex-in-Raw4 n c =
    rw (ap shown_tree c.in-Raw4.is ∙ shown_tree-Raw4 c.in-Raw4.bytes, ← c.as_slice.ensures) (c.in_ok-write_hex-in-Raw4.ensures)

pub write_shown-returns-in_ok-write_hex-in-Raw8 : goal.write_shown-returns-in_ok-write_hex-in-Raw8
write_shown-returns-in_ok-write_hex-in-Raw8 n c =
    rw (ap shown_tree c.in-Raw8.is ∙ shown_tree-Raw8 c.in-Raw8.bytes, ← c.as_slice-in-Raw8.ensures) (c.in_ok-write_hex-in-Raw8.ensures)

pub write_fields-write_shown-requires : goal.write_fields-write_shown-requires
unfolding Rattle.yd_value.specs.declared.shown.Shown.TheBlock.the_depth
write_fields-write_shown-requires n c = search (rules, the_lemmas)

pub write_fields-returns : goal.write_fields-returns
write_fields-returns n c = let all = shown_fields-entries c.args.entries.now in grind (arith, common_steps)

pub write_attributes-returns-then-is_empty : goal.write_attributes-returns-then-is_empty
write_attributes-returns-then-is_empty n c =
    let attributes = c.args.attributes.now in
    let counted : vec_len attributes.items ≡ 0 = eqb-true _ _ (sym c.is_empty.ensures ∙ c.if-is_empty.true) in
    let none : attributes.items.items ≡ [] = nil_from_length _ (omega arith) in
    rw (shown_fields-entries attributes ∙ ap entries_fields none) c.put.ensures

pub write_attributes-returns : goal.write_attributes-returns
write_attributes-returns n c =
    let opening = codes "{\"attributes\":" in
    let fields = codes "{" ++ text_of_fields false (shown_fields c.args.attributes.now) in
    let began = c.args.out.now.text in
    record {
      before = c.in_ok-put-2.ensures.before ∙ c.in_ok-write_fields.ensures.before ∙ c.in_ok-put.ensures.before;
      appended = two_appended began _ _ (opening ++ fields) (codes ",\"children\":")
          (two_appended began _ _ opening fields c.in_ok-put.ensures.appended c.in_ok-write_fields.ensures.appended) c.in_ok-put-2.ensures.appended;
    }

pub write_element-returns : goal.write_element-returns
write_element-returns n c =
    let element = c.args.element.now in
    let front = codes "{\"attributes\":{" ++ (text_of_fields false (shown_fields element.attributes) ++ codes ",\"children\":") in
    let children = text_of (shown_tree element.children) in
    let back = enclosed (codes ",\"name\":\"") element.name (codes "\"}") in
    let named = rw c.as_str.ensures at c.in_ok-enclose.ensures.appended in
    let text = ap text_of (tree_of_element-parts element) ∙ text_of-element (shown_fields element.attributes) (shown_tree element.children) element.name in
    let began = c.args.out.now.text in
    record {
      before = c.in_ok-enclose.ensures.before ∙ c.in_ok-write_shown.ensures.before ∙ c.in_ok-write_attributes.ensures.before;
      appended = two_appended began _ _ front (children ++ back) c.in_ok-write_attributes.ensures.appended
          (two_appended c.write_attributes.new.out.text _ _ children back c.in_ok-write_shown.ensures.appended named)
          ∙ ap (λ l. began ++ l) (sym text);
    }
