use Rattle.std.proofs.Common.{ap, ◌∙◌}
use Rattle.yd_grouping.specs.Sameness.{same_content}
use Rattle.yd_ops.specs.View.{content_value}
use Rattle.yd_agreement.specs.Units.{unit_of}
use Rattle.yd_agreement.proofs.ContentLemmas.{any_inside, any_unit_is, deleted_unit_is, json_unit_is, text_unit_is}
use Rattle.yd_agreement.proofs.same_unit.is_same_unit.Goals as goal

pub value_at-requires : goal.value_at-requires
value_at-requires c = any_inside c.args.a.now c.in-Any.values c.as_slice-in-Any.result.now c.args.i c.in-Any.is c.as_slice-in-Any.ensures c.requires.one

pub returns-in-Json : goal.returns-in-Json
returns-in-Json c = c.is_json_at.ensures ∙ ap (λ u. same_content u (unit_of (content_value c.args.b.now) c.args.j))
    (json_unit_is c.args.a.now c.in-Json.units c.as_slice.result.now c.args.i c.index-as_slice-i.result c.in-Json.is c.as_slice.ensures c.requires.one c.index-as_slice-i.is)

pub returns-in-Str : goal.returns-in-Str
returns-in-Str c = c.is_text_at.ensures ∙ ap (λ u. same_content u (unit_of (content_value c.args.b.now) c.args.j))
    (text_unit_is c.args.a.now c.in-Str.units c.args.i c.unit.result c.unwrap_or.result c.in-Str.is c.unit.ensures c.unwrap_or.ensures c.requires.one)

pub returns-in-Any : goal.returns-in-Any
returns-in-Any c = c.is_any_at.ensures ∙ ap (λ u. same_content u (unit_of (content_value c.args.b.now) c.args.j))
    (any_unit_is c.args.a.now c.in-Any.values c.as_slice-in-Any.result.now c.args.i c.value_at.result.now c.in-Any.is c.as_slice-in-Any.ensures c.requires.one
    c.value_at.ensures)

pub returns-in-Deleted : goal.returns-in-Deleted
returns-in-Deleted c = c.is_deleted.ensures ∙ ap (λ u. same_content u (unit_of (content_value c.args.b.now) c.args.j))
    (deleted_unit_is c.args.a.now c.in-Deleted.field-0 c.args.i c.in-Deleted.is c.requires.one)
