use Rattle.std.proofs.Common.{◌∙◌, ◌-◌, arith, ap, sym, Ok}
use Rattle.yd_any.specs.AnyView.{any_tree, any_trees, any_fields}
use Rattle.yd_parts.specs.AnyPlan.{any_plan, inner_plan, field_step, tree_step}
use Rattle.yd_parts.specs.Part.{part_at, last_spot}
use Rattle.yd_parts.proofs.PlanLemmas.{repeated_more, repeated_fails, repeated_done}
use Rattle.yd_parts.proofs.AnyFitsLemmas.{any_read_valid}
use Rattle.yd_parts.proofs.AnyPlanLemmas.{untagged_fails, listed_given, listed_fails, paired_given, paired_fails}
use Rattle.yd_parts.proofs.AnyTreeLemmas.{any_tree-List, any_tree-Pairs}
use Rattle.yd_parts.proofs.FaultLemmas.{passes_on}
use Rattle.yd_parts.proofs.any_reading.+reading.Goals as goal

pub read_list-loop-preserved : goal.read_list-loop-preserved
read_list-loop-preserved t c =
    sym (repeated_more part_at last_spot (tree_step (any_plan (c.args.most - 1))) c.in_ok-count.count c.loop.counter (any_trees c.loop.items) (any_trees c.read_item.new.items) c.loop.parts c.read_item.new.parts c.loop-test.true c.in_ok-read_item.ensures.taken)
    ∙ c.loop.invariant

pub read_list-returns : goal.read_list-returns
read_list-returns t c =
    sym c.loop.invariant
    ∙ repeated_done part_at last_spot (tree_step (any_plan (c.args.most - 1))) c.in_ok-count.count c.loop.counter (any_trees c.loop.items) c.loop.parts c.loop-test.false

pub read_list-returns-in_err-read_item : goal.read_list-returns-in_err-read_item
read_list-returns-in_err-read_item t c =
    passes_on any_trees _ c.read_item.new.parts _ _ _ c.from_residual-in_err-read_item.ensures.1 c.in_err-read_item.ensures.fails
    (λ fault there. sym c.loop.invariant ∙ repeated_fails part_at last_spot (tree_step (any_plan (c.args.most - 1))) c.in_ok-count.count c.loop.counter (any_trees c.loop.items) c.loop.parts fault c.loop-test.true there)

pub read_pairs-loop-preserved : goal.read_pairs-loop-preserved
read_pairs-loop-preserved t c =
    sym (repeated_more part_at last_spot (field_step (any_plan (c.args.most - 1))) c.in_ok-count.count c.loop.counter (any_fields c.loop.entries) (any_fields c.read_entry.new.entries) c.loop.parts c.read_entry.new.parts c.loop-test.true c.in_ok-read_entry.ensures.taken)
    ∙ c.loop.invariant

pub read_pairs-returns : goal.read_pairs-returns
read_pairs-returns t c =
    sym c.loop.invariant
    ∙ repeated_done part_at last_spot (field_step (any_plan (c.args.most - 1))) c.in_ok-count.count c.loop.counter (any_fields c.loop.entries) c.loop.parts c.loop-test.false

pub read_pairs-returns-in_err-read_entry : goal.read_pairs-returns-in_err-read_entry
read_pairs-returns-in_err-read_entry t c =
    passes_on any_fields _ c.read_entry.new.parts _ _ _ c.from_residual-in_err-read_entry.ensures.1 c.in_err-read_entry.ensures.fails
    (λ fault there. sym c.loop.invariant ∙ repeated_fails part_at last_spot (field_step (any_plan (c.args.most - 1))) c.in_ok-count.count c.loop.counter (any_fields c.loop.entries) c.loop.parts fault c.loop-test.true there)

pub read_item-push-requires : goal.read_item-push-requires
read_item-push-requires t c = any_read_valid c.args.most _ _ _ (omega arith) c.in_ok-item.ensures

pub read_entry-push-requires : goal.read_entry-push-requires
read_entry-push-requires t c = any_read_valid c.args.most _ _ _ (omega arith) c.in_ok-item.ensures

pub read_tagged-returns-in_ok-read_list-in-List : goal.read_tagged-returns-in_ok-read_list-in-List
read_tagged-returns-in_ok-read_list-in-List t c =
    listed_given (inner_plan c.args.most) c.args.spot c.args.tag c.args.parts.now c.read_list.new.parts _ c.in-List.is c.in_ok-read_list-in-List.ensures
    ∙ ap (λ value. Ok (value, c.read_list.new.parts)) (sym (any_tree-List c.in_ok-read_list-in-List.field-0))

pub read_tagged-returns-in_err-read_list-in-List : goal.read_tagged-returns-in_err-read_list-in-List
read_tagged-returns-in_err-read_list-in-List t c =
    passes_on any_tree _ c.read_list.new.parts _ _ _ c.from_residual-in_err-read_list-in-List.ensures.1 c.in_err-read_list-in-List.ensures
    (λ fault. listed_fails (inner_plan c.args.most) c.args.spot c.args.tag c.args.parts.now fault c.in-List.is)

pub read_tagged-returns-in_ok-read_pairs-in-Pairs : goal.read_tagged-returns-in_ok-read_pairs-in-Pairs
read_tagged-returns-in_ok-read_pairs-in-Pairs t c =
    paired_given (inner_plan c.args.most) c.args.spot c.args.tag c.args.parts.now c.read_pairs.new.parts _ c.in-Pairs.is c.in_ok-read_pairs-in-Pairs.ensures
    ∙ ap (λ value. Ok (value, c.read_pairs.new.parts)) (sym (any_tree-Pairs c.in_ok-read_pairs-in-Pairs.field-0))

pub read_tagged-returns-in_err-read_pairs-in-Pairs : goal.read_tagged-returns-in_err-read_pairs-in-Pairs
read_tagged-returns-in_err-read_pairs-in-Pairs t c =
    passes_on any_tree _ c.read_pairs.new.parts _ _ _ c.from_residual-in_err-read_pairs-in-Pairs.ensures.1 c.in_err-read_pairs-in-Pairs.ensures
    (λ fault. paired_fails (inner_plan c.args.most) c.args.spot c.args.tag c.args.parts.now fault c.in-Pairs.is)

pub read_within-returns-in-None : goal.read_within-returns-in-None
read_within-returns-in-None t c =
    let failed = untagged_fails c.args.most c.in_ok-byte.byte c.args.parts.now c.byte.new.self c.in_ok-byte.ensures.given (sym c.in-None.ensures) in
    rw (c.refused.ensures, c.spot-spot.ensures) failed
