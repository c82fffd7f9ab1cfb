use Rattle.std.proofs.Common.{length, map, sym, ap, ◌∙◌, arith}
use Rattle.std.specs.Vec.Iter.{into_iter_items}
use Rattle.yd_any.specs.Tree.{list, tree}
use Rattle.yd_value.specs.View.{shown_tree, shown_trees}
use Rattle.yd_modes.specs.Gathering.{made, told_inserts}
use Rattle.yd_modes.proofs.ListLemmas.{joined_trees, joined_trees-last, joined_trees-none, no_items, shown_tree-List}
use Rattle.yd_modes.proofs.inserts.delta_of.Goals as goal

pub loop-piece-init : goal.loop-piece-init
loop-piece-init c =
    let gives = c.into_iter-piece-iterator.ensures.into_iter_gives in
    record {
      shown = ap (λ ts. joined_trees ts (told_inserts (map made (into_iter_items c.into_iter-piece-iterator.result)))) c.new-inserts.ensures ∙ ap (λ ps. told_inserts (map made ps)) gives.0;
      count = gives.1 ∙ sym c.as_slice-count.ensures.len ∙ ap length (c.as_slice-count.ensures.value ∙ sym gives.0);
    }

pub loop-piece-preserved : goal.loop-piece-preserved
loop-piece-preserved c =
    let old = shown_trees c.loop-piece.inserts in
    let rest = told_inserts (map made (into_iter_items c.next.new.self)) in
    let steps = c.in-Some.ensures.steps in
    record {
      shown = ap (λ ts. joined_trees ts rest) c.in_ok-push.ensures.appended
          ∙ joined_trees-last old (shown_tree c.in_ok-insert.insert) rest
          ∙ ap (λ t. joined_trees old (tree t rest)) c.in_ok-insert.ensures
          ∙ ap (λ ps. joined_trees old (told_inserts (map made ps))) (sym steps.0)
          ∙ c.loop-piece.invariant.shown;
      count = omega (arith, steps.1, c.loop-piece.invariant.count, ap length steps.0);
    }

pub returns : goal.returns
returns c =
    let all = shown_trees c.loop-piece.inserts in
    let none = no_items (into_iter_items c.loop-piece.piece-iterator) (sym c.loop-piece.invariant.count ∙ c.in-None.ensures.steps.0) in
    shown_tree-List c.loop-piece.inserts
    ∙ ap list (sym (joined_trees-none all) ∙ ap (λ ps. joined_trees all (told_inserts (map made ps))) (sym none) ∙ c.loop-piece.invariant.shown)
