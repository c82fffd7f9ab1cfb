use Rattle.std.proofs.Common.{◌≡◌, ◌+◌, map, drop, sym, subst, arith}
use Rattle.serde_json.specs.View.{view}
use Rattle.yd_any.specs.AnyView.{any_tree, any_trees}
use Rattle.yd_any.specs.Tree.{AnyTrees}
use Rattle.yd_ops.specs.Valid.{AreValidTrees}
use Rattle.yd_script.specs.Given.{trees_in}
use Rattle.yd_script.proofs.GivenLemmas.{trees_more, trees_end, trees_with, valid_last}
use Rattle.yd_script.proofs.given.list_of.Goals as goal

pub loop-item-preserved : goal.loop-item-preserved
loop-item-preserved c =
    let l = c.loop-item in
    let all = c.args.items.now in
    let values = any_trees l.values in
    let value = any_tree c.in_ok-value.value in
    record {
      read = subst (λ (ts : AnyTrees). trees_in (map view all) ≡ trees_with ts (trees_in (map view (drop (l.item-index + 1) all)))) (sym c.in_ok-push.ensures.appended)
          (trees_more (trees_in (map view all)) all l.item-index c.item-item.result values value c.loop-item-test.true c.item-item.is l.invariant.read c.in_ok-value.ensures.value);
      valid = subst AreValidTrees (sym c.in_ok-push.ensures.appended) (valid_last values value l.invariant.valid c.in_ok-value.ensures.valid);
    }

pub returns-clause-values : goal.returns-clause-values
returns-clause-values c =
    let l = c.loop-item in
    trees_end (trees_in (map view c.args.items.now)) c.args.items.now l.item-index (any_trees l.values) (omega (arith, c.loop-item-test.false)) l.invariant.read
