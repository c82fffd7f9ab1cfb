use Rattle.std.proofs.Common.{◌+◌, drop, sym, ap, ◌∙◌, arith}
use Rattle.std.proofs.lemmas.List.{drop_more}
use Rattle.yd_any.specs.Tree.{field}
use Rattle.yd_any.specs.JsonView.{json_tree}
use Rattle.yd_value.specs.View.{shown_tree, shown_fields}
use Rattle.yd_modes.specs.Marks.{marks_fields}
use Rattle.yd_modes.specs.Roles.{joined_fields}
use Rattle.yd_modes.proofs.MarkLemmas.{joined_last, joined_none, none_left}
use Rattle.yd_modes.proofs.marks.fields_of.Goals as goal

pub loop-mark-preserved : goal.loop-mark-preserved
loop-mark-preserved c =
    let rest = marks_fields (drop (c.loop-mark.mark-index + 1) c.args.marks.now) in
    let old = shown_fields c.loop-mark.fields in
    ap (λ fs. joined_fields fs rest) c.in_ok-push.ensures.appended
    ∙ joined_last old c.in_ok-key.key (shown_tree c.in_ok-value.value) rest
    ∙ ap (λ k. joined_fields old (field k (shown_tree c.in_ok-value.value) rest)) c.in_ok-key.ensures
    ∙ ap (λ t. joined_fields old (field c.mark-item.result.key.now t rest)) c.in_ok-value.ensures
    ∙ ap (λ m. joined_fields old (field m.key.now (json_tree m.value.now) rest)) c.mark-item.is
    ∙ sym (ap (λ ms. joined_fields old (marks_fields ms)) (drop_more c.args.marks.now c.loop-mark.mark-index c.mark-item.result c.loop-mark-test.true))
    ∙ c.loop-mark.invariant

pub returns : goal.returns
returns c =
    sym (joined_none (shown_fields c.loop-mark.fields))
    ∙ ap (joined_fields (shown_fields c.loop-mark.fields)) (sym (none_left c.loop-mark.mark-index c.args.marks.now (omega (arith, c.loop-mark-test.false))))
    ∙ c.loop-mark.invariant
