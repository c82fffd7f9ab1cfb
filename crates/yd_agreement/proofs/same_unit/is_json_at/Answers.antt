use Rattle.std.proofs.Common.{◌∙◌}
use Rattle.yd_ops.specs.View.{unit_value}
use Rattle.yd_agreement.proofs.ContentLemmas.{json_is, no_json}
use Rattle.yd_agreement.proofs.same_unit.is_json_at.Goals as goal

pub returns-in-Json : goal.returns-in-Json
returns-in-Json c = c.is_same_json_unit.ensures ∙ json_is (unit_value c.args.unit.now) c.args.content.now c.in-Json.units c.as_slice.result.now c.args.j c.index-as_slice-j.result c.in-Json.is
    c.as_slice.ensures c.requires c.index-as_slice-j.is

pub returns-in_default : goal.returns-in_default
returns-in_default c = no_json c.args.unit.now c.args.content.now c.args.j c.in_default.not-Json c.requires
