use Rattle.std.proofs.Common.{◌∙◌}
use Rattle.yd_merge.proofs.ValueLemmas.{values_part, values_valid}
use Rattle.yd_merge.proofs.values.copied_values.Goals as goal

pub all_values-requires : goal.all_values-requires
all_values-requires c = values_valid c.args.values.now c.args.from c.args.len c.requires.valid

pub returns : goal.returns
returns c = c.in_ok-part.ensures ∙ values_part c.args.values.now c.args.from c.args.len
