use Rattle.std.proofs.Common.{◌∙◌, sym, ap, ◌++◌, take, drop}
use Rattle.yd_ops.specs.Operation.{units_of_content}
use Rattle.yd_ops.specs.View.{content_value}
use Rattle.yd_ops.specs.declared.contents.Content.{Content}
use Rattle.yd_copying.specs.Content.{texts_in}
use Rattle.yd_copying.proofs.ValueLemmas.{text_part}
use Rattle.yd_copying.proofs.values.add_text.Goals as goal

pub returns : goal.returns
returns c = c.in_ok-add_units-in-Str.ensures
    ∙ ap (λ ns. c.args.all.now.items ++ ns) (sym (text_part c.args.piece.now.offset c.args.piece.now.len c.in-Str.units))
    ∙ ap (λ (content : Content). c.args.all.now.items ++ texts_in (take c.args.piece.now.len (drop c.args.piece.now.offset (units_of_content (content_value content))))) (sym c.in-Str.is)
