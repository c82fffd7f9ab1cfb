use Rattle.std.proofs.Common.{◌∙◌, sym, ap, subst}
use Rattle.yd_any.specs.AnyView.{any_trees}
use Rattle.yd_any.specs.Rows.{trees_and}
use Rattle.yd_ops.specs.Valid.{AreValidTrees}
use Rattle.yd_merge.proofs.ValueLemmas.{values_part}
use Rattle.yd_copying.proofs.values.add_items.Goals as goal

pub add_all-requires : goal.add_all-requires
add_all-requires c = subst AreValidTrees (sym (values_part c.args.values.now c.args.from c.args.len)) c.requires.valid

pub returns : goal.returns
returns c = c.in_ok-add_all.ensures ∙ ap (trees_and (any_trees c.args.all.now)) (values_part c.args.values.now c.args.from c.args.len)
