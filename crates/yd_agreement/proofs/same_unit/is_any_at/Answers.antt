use Rattle.std.proofs.Common.{◌∙◌}
use Rattle.yd_any.specs.AnyView.{any_tree}
use Rattle.yd_agreement.proofs.ContentLemmas.{any_inside, any_is, no_any}
use Rattle.yd_agreement.proofs.same_unit.is_any_at.Goals as goal

pub value_at-requires : goal.value_at-requires
value_at-requires c = any_inside c.args.content.now c.in-Any.values c.as_slice.result.now c.args.j c.in-Any.is c.as_slice.ensures c.requires

pub returns-in-Any : goal.returns-in-Any
returns-in-Any c = c.is_same_any.ensures ∙ any_is (any_tree c.args.value.now) c.args.content.now c.in-Any.values c.as_slice.result.now c.args.j c.value_at.result.now c.in-Any.is
    c.as_slice.ensures c.requires c.value_at.ensures

pub returns-in_default : goal.returns-in_default
returns-in_default c = no_any c.args.value.now c.args.content.now c.args.j c.in_default.not-Any c.requires
