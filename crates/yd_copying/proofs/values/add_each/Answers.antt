use Rattle.std.proofs.Common.{◌∙◌, sym, ap, map, ◌++◌, subst}
use Rattle.yd_words.specs.Each.{Each}
use Rattle.yd_ops.specs.View.{unit_value}
use Rattle.yd_ops.specs.Valid.{IsValidUnit}
use Rattle.yd_merge.proofs.ValueLemmas.{json_part}
use Rattle.yd_copying.proofs.values.add_each.Goals as goal

pub add_each_of-requires : goal.add_each_of-requires
add_each_of-requires c = subst (Each IsValidUnit) (sym (json_part c.args.units.now c.args.from c.args.len)) c.requires.valid

pub returns : goal.returns
returns c = c.in_ok-add_each_of.ensures ∙ ap (λ vs. map unit_value c.args.all.now ++ vs) (json_part c.args.units.now c.args.from c.args.len)
