use Rattle.std.proofs.Common.{◌∙◌, sym, subst}
use Rattle.std.specs.Prelude.{IsTrue}
use Rattle.yd_any.specs.AnyView.{any_tree, any_trees}
use Rattle.yd_any.specs.Valid.{is_valid_any}
use Rattle.yd_merge.proofs.ValueLemmas.{valid_read}
use Rattle.yd_copying.proofs.ValueLemmas.{values_next, values_end}
use Rattle.yd_copying.proofs.values.add_all.Goals as goal

pub copy-requires : goal.copy-requires
copy-requires c = valid_read c.args.values.now c.loop-value.value-index c.value-item.result c.requires c.loop-value-test.true c.value-item.is

pub push-requires : goal.push-requires
push-requires c = subst (λ t. IsTrue (is_valid_any t)) (sym c.in_ok-copy.ensures)
    (valid_read c.args.values.now c.loop-value.value-index c.value-item.result c.requires c.loop-value-test.true c.value-item.is)

pub loop-value-preserved : goal.loop-value-preserved
loop-value-preserved c = values_next c.args.values.now c.loop-value.value-index c.value-item.result (any_trees c.loop-value.all) (any_trees c.push.new.self) (any_tree c.in_ok-copy.field-0)
    c.loop-value-test.true c.value-item.is c.in_ok-copy.ensures c.in_ok-push.ensures.appended ∙ c.loop-value.invariant

pub returns : goal.returns
returns c = values_end c.args.values.now c.loop-value.value-index (any_trees c.loop-value.all) c.loop-value-test.false ∙ c.loop-value.invariant
