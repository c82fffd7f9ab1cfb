use Rattle.std.proofs.Common.{◌≡◌, ◌<◌, Some, length, map, sym, ap, ◌∙◌, subst, arith}
use Rattle.std.specs.Prelude.{slice_get}
use Rattle.std.proofs.lemmas.List.{length-map}
use Rattle.std.proofs.lemmas.Result.{IfOk-weaker}
use Rattle.yd_any.specs.AnyView.{any_tree, any_trees}
use Rattle.yd_ops.specs.Value.{len_of}
use Rattle.yd_ops.specs.Operation.{json_unit, units_of_content}
use Rattle.yd_ops.specs.View.{content_value, unit_value}
use Rattle.yd_modes.specs.Roles.{plain_value}
use Rattle.yd_modes.proofs.PlainLemmas.{count_items, any_plain, json_plain, text_plain, deleted_plain, undefined_value}
use Rattle.yd_modes.proofs.plain.plain_at.Goals as goal

pub offset_bounds-as_slice-at : goal.offset_bounds-as_slice-at
offset_bounds-as_slice-at c =
    let r = subst (λ v. c.args.at < len_of (content_value v)) c.in-Any.is c.requires in
    let n = count_items c.as_slice.result.now (any_trees c.in-Any.values) c.as_slice.ensures in
    omega (arith, r, n, c.as_slice.type_inv)

pub bounds-as_slice-at : goal.bounds-as_slice-at
bounds-as_slice-at c =
    let r = subst (λ v. c.args.at < len_of (content_value v)) c.in-Any.is c.requires in
    let n = count_items c.as_slice.result.now (any_trees c.in-Any.values) c.as_slice.ensures in
    omega (arith, r, n)

pub returns-in-Str : goal.returns-in-Str
returns-in-Str c = IfOk-weaker c.plain_text.result _ _ (λ shown h unit there.
    let (u, here, is) = text_plain c.in-Str.units c.args.at unit (subst (λ v. slice_get (units_of_content (content_value v)) c.args.at ≡ Some unit) c.in-Str.is there) in
    h u here ∙ is) c.plain_text.ensures

pub returns-in_ok-shown-in-Any : goal.returns-in_ok-shown-in-Any
returns-in_ok-shown-in-Any c = λ unit there.
    let r = subst (λ v. c.args.at < len_of (content_value v)) c.in-Any.is c.requires in
    let n = count_items c.as_slice.result.now (any_trees c.in-Any.values) c.as_slice.ensures in
    c.in_ok-shown-in-Any.ensures ∙ ap any_tree c.index-as_slice-at.is
    ∙ any_plain c.as_slice.result.now (any_trees c.in-Any.values) c.as_slice.ensures c.args.at c.index-as_slice-at.result (omega (arith, r, n)) unit
    (subst (λ v. slice_get (units_of_content (content_value v)) c.args.at ≡ Some unit) c.in-Any.is there)

pub returns-in-Json : goal.returns-in-Json
returns-in-Json c = IfOk-weaker c.plain_json.result _ _ (λ shown h unit there.
    let r = subst (λ v. c.args.at < len_of (content_value v)) c.in-Json.is c.requires in
    let less : c.args.at < length c.as_slice-in-Json.result.now = omega (arith, r, length-map c.in-Json.units unit_value, ap length c.as_slice-in-Json.ensures) in
    let at = subst (λ v. slice_get (units_of_content (content_value v)) c.args.at ≡ Some unit) c.in-Json.is there in
    h ∙ ap (λ u. plain_value (json_unit (unit_value u))) c.index-as_slice-at-in-Json.is
    ∙ json_plain c.as_slice-in-Json.result.now c.args.at c.index-as_slice-at-in-Json.result less unit
    (subst (λ us. slice_get (map json_unit (map unit_value us)) c.args.at ≡ Some unit) (sym c.as_slice-in-Json.ensures) at)) c.plain_json.ensures

pub returns-in-Deleted : goal.returns-in-Deleted
returns-in-Deleted c = λ unit there. undefined_value
    ∙ deleted_plain _ c.args.at unit (subst (λ v. slice_get (units_of_content (content_value v)) c.args.at ≡ Some unit) c.in-Deleted.is there)
