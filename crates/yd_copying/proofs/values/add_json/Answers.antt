use Rattle.std.proofs.Common.{◌∙◌, sym, ap, map, ◌++◌, take, drop, subst}
use Rattle.yd_words.specs.Each.{Each}
use Rattle.yd_ops.specs.Operation.{units_of_content}
use Rattle.yd_ops.specs.View.{unit_value, content_value}
use Rattle.yd_ops.specs.Valid.{IsValidUnit}
use Rattle.yd_ops.specs.declared.contents.Content.{Content}
use Rattle.yd_grouping.specs.Groupable.{IsValidUnitContent}
use Rattle.yd_copying.specs.Content.{values_in}
use Rattle.yd_copying.proofs.ValueLemmas.{values_part, values_part_valid}
use Rattle.yd_copying.proofs.values.add_json.Goals as goal

pub add_each-requires-clause-valid : goal.add_each-requires-clause-valid
add_each-requires-clause-valid c = subst (λ us. Each IsValidUnit (take c.args.piece.now.len (drop c.args.piece.now.offset (map unit_value us)))) (sym c.as_slice.ensures)
    (values_part_valid c.args.piece.now.offset c.args.piece.now.len (map unit_value c.in-Json.units)
    (subst (λ (content : Content). Each IsValidUnitContent (take c.args.piece.now.len (drop c.args.piece.now.offset (units_of_content (content_value content))))) c.in-Json.is c.requires.valid))

pub returns : goal.returns
returns c = c.in_ok-add_each-in-Json.ensures
    ∙ ap (λ us. map unit_value c.args.all.now ++ take c.args.piece.now.len (drop c.args.piece.now.offset (map unit_value us))) c.as_slice.ensures
    ∙ ap (λ vs. map unit_value c.args.all.now ++ vs) (sym (values_part c.args.piece.now.offset c.args.piece.now.len (map unit_value c.in-Json.units)))
    ∙ ap (λ (content : Content). map unit_value c.args.all.now ++ values_in (take c.args.piece.now.len (drop c.args.piece.now.offset (units_of_content (content_value content))))) (sym c.in-Json.is)
