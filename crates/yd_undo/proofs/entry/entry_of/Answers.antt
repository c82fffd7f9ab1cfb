use Rattle.std.proofs.Common.{◌++◌, sym, ap, ◌∙◌, subst}
use Rattle.yd_words.specs.Each.{Each}
use Rattle.yd_ids.specs.Id.{IsSpan}
use Rattle.yd_ids.specs.Set.{set_of}
use Rattle.yd_ops.specs.View.{update_value}
use Rattle.yd_undo.specs.Entry.{blocks_ids}
use Rattle.yd_undo.proofs.EntryLemmas.{blocks_spans, not_noted}
use Rattle.yd_undo.proofs.entry.entry_of.Goals as goal

pub of_spans-requires : goal.of_spans-requires
of_spans-requires c = subst (Each IsSpan) (sym (c.in_ok-add_update.ensures ∙ ap (λ ss. ss ++ blocks_ids (update_value c.args.update.now).blocks) c.new-spans.ensures.items))
    (blocks_spans (update_value c.args.update.now).blocks c.requires.blocks)

pub returns : goal.returns
returns c = λ i. record {
  inserted = (c.in_ok-inserted.ensures.exact ∙ ap set_of (c.in_ok-add_update.ensures ∙ ap (λ ss. ss ++ blocks_ids (update_value c.args.update.now).blocks) c.new-spans.ensures.items)) i;
  deleted = not_noted c.args.update.now.deletes c.args.noted.now c.in_ok-deleted.deleted c.requires.deletes c.in_ok-deleted.ensures.maximal c.in_ok-deleted.ensures.ids i;
}
