use Rattle.std.proofs.Common.{◌∙◌}
use Rattle.yd_merge.proofs.ValueLemmas.{json_part, json_valid}
use Rattle.yd_merge.proofs.values.copied_json.Goals as goal

pub all_json-requires : goal.all_json-requires
all_json-requires c = json_valid c.args.units.now c.args.from c.args.len c.requires.valid

pub returns : goal.returns
returns c = c.in_ok-part.ensures ∙ json_part c.args.units.now c.args.from c.args.len
