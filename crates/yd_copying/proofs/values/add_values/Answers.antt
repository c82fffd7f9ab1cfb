use Rattle.std.proofs.Common.{◌∙◌, ◌+◌, ◌≤◌, sym, ap, take, drop, subst}
use Rattle.yd_words.specs.Each.{Each}
use Rattle.yd_any.specs.AnyView.{any_trees}
use Rattle.yd_any.specs.Rows.{trees_and, first_trees, other_trees}
use Rattle.yd_any.specs.Tree.{AnyTrees}
use Rattle.yd_ops.specs.Operation.{units_of_content}
use Rattle.yd_ops.specs.Valid.{AreValidTrees}
use Rattle.yd_ops.specs.Value.{len_of}
use Rattle.yd_ops.specs.View.{content_value}
use Rattle.yd_ops.specs.declared.contents.Content.{Content}
use Rattle.yd_grouping.specs.Groupable.{IsValidUnitContent}
use Rattle.yd_merge.proofs.ValueLemmas.{lent_within}
use Rattle.yd_copying.specs.Content.{trees_in}
use Rattle.yd_copying.proofs.ValueLemmas.{trees_part, trees_part_valid}
use Rattle.yd_copying.proofs.values.add_values.Goals as goal

pub add_items-requires-clause-within : goal.add_items-requires-clause-within
add_items-requires-clause-within c = lent_within c.as_slice.result.now (any_trees c.in-Any.values) c.args.piece.now.offset c.args.piece.now.len c.as_slice.ensures
    (subst (λ (content : Content). c.args.piece.now.offset + c.args.piece.now.len ≤ len_of (content_value content)) c.in-Any.is c.requires.within)

pub add_items-requires-clause-valid : goal.add_items-requires-clause-valid
add_items-requires-clause-valid c = subst (λ (ts : AnyTrees). AreValidTrees (first_trees c.args.piece.now.len (other_trees c.args.piece.now.offset ts))) (sym c.as_slice.ensures)
    (trees_part_valid c.args.piece.now.offset c.args.piece.now.len (any_trees c.in-Any.values) c.requires.some
    (subst (λ (content : Content). c.args.piece.now.offset + c.args.piece.now.len ≤ len_of (content_value content)) c.in-Any.is c.requires.within)
    (subst (λ (content : Content). Each IsValidUnitContent (take c.args.piece.now.len (drop c.args.piece.now.offset (units_of_content (content_value content))))) c.in-Any.is c.requires.valid))

pub returns : goal.returns
returns c = c.in_ok-add_items-in-Any.ensures
    ∙ ap (λ (ts : AnyTrees). trees_and (any_trees c.args.all.now) (first_trees c.args.piece.now.len (other_trees c.args.piece.now.offset ts))) c.as_slice.ensures
    ∙ ap (trees_and (any_trees c.args.all.now)) (sym (trees_part c.args.piece.now.offset c.args.piece.now.len (any_trees c.in-Any.values) c.requires.some
    (subst (λ (content : Content). c.args.piece.now.offset + c.args.piece.now.len ≤ len_of (content_value content)) c.in-Any.is c.requires.within)))
    ∙ ap (λ (content : Content). trees_and (any_trees c.args.all.now) (trees_in (take c.args.piece.now.len (drop c.args.piece.now.offset (units_of_content (content_value content)))))) (sym c.in-Any.is)
