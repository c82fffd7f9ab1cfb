use Rattle.std.proofs.Common.{[], ◌∷◌}
use Rattle.yd_ops.specs.View.{update_value}
use Rattle.yd_merge.proofs.NamedLemmas.{named_are_spans, named_received, one_noted}
use Rattle.yd_merge.proofs.naming.named_in.Goals as goal

pub of_spans-requires : goal.of_spans-requires
of_spans-requires c = named_are_spans (update_value c.args.update.now ∷ []) c.note_update.new.spans.items (c.requires, tt)
    (one_noted (update_value c.args.update.now) c.new-spans.result.items c.note_update.new.spans.items c.new-spans.ensures.items c.in_ok-note_update.ensures)

pub returns : goal.returns
returns c = named_received (update_value c.args.update.now ∷ []) c.note_update.new.spans.items c.in_ok-named.named (c.requires, tt)
    (one_noted (update_value c.args.update.now) c.new-spans.result.items c.note_update.new.spans.items c.new-spans.ensures.items c.in_ok-note_update.ensures)
    c.in_ok-named.ensures.maximal c.in_ok-named.ensures.ids
