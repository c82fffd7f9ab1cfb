use Rattle.std.proofs.Common.{◌∙◌, refl, ap}
use Rattle.yd_any.specs.Tree.{no_fields}
use Rattle.yd_doc.specs.Kept.{received_of, own_document}
use Rattle.yd_shown.specs.Shown.{fields_under, own_list, value_within}
use Rattle.yd_state.specs.Lent.{units_left}
use Rattle.yd_value.specs.View.{shown_fields, shown_tree}
use Rattle.yd_value.specs.declared.shown.Shown.{List as Listed}
use Rattle.yd_modes.proofs.ListLemmas.{list_of, tree_of, same_shown}
use Rattle.yd_modes.proofs.showing.show_tree.Goals as goal

pub returns : goal.returns
returns c =
    let d = own_document c.args.replica.now in
    let show = value_within c.args.most d in
    same_shown c.tree_of.result _ _
    (tree_of show d c.args.parent.now no_fields (shown_fields c.in_ok-attributes.attributes) (shown_tree (Listed c.in_ok-children.children))
    (c.in_ok-attributes.ensures ∙ ap (fields_under show d c.args.parent.now) c.in_ok-lists.ensures.keys)
    (list_of (received_of c.args.replica.now).operations d c.args.parent.now (own_list c.args.parent.now) c.args.most c.in_ok-children.children (units_left c.in_ok-lists.lists.own)
    refl c.lists_of.ensures.whole c.lists_of.ensures.received c.in_ok-lists.ensures.units c.in_ok-children.ensures))
    c.tree_of.ensures
