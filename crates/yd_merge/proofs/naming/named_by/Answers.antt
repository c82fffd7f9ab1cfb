use Rattle.std.proofs.Common.{◌∙◌, map, refl, arith}
use Rattle.yd_ops.specs.Valid.{IsValidUpdate}
use Rattle.yd_ops.specs.View.{update_value}
use Rattle.yd_ops.proofs.EachLemmas.{each_read}
use Rattle.yd_merge.specs.Named.{all_named, named_spans}
use Rattle.yd_merge.proofs.NamedLemmas.{all_noted, named_are_spans, named_received, note_next}
use Rattle.yd_merge.proofs.naming.named_by.Goals as goal

pub note_update-requires : goal.note_update-requires
note_update-requires c = each_read update_value IsValidUpdate c.args.updates.now c.loop-update.update-index c.update-item.result c.requires c.loop-update-test.true c.update-item.is

pub loop-update-preserved : goal.loop-update-preserved
loop-update-preserved c = note_next (λ us. all_named (map update_value us)) (λ u. named_spans (update_value u)) c.args.updates.now c.loop-update.update-index c.update-item.result
    c.loop-update.spans.items c.note_update.new.spans.items (λ rest. refl) c.loop-update-test.true c.update-item.is c.in_ok-note_update.ensures
    ∙ c.loop-update.invariant

pub of_spans-requires : goal.of_spans-requires
of_spans-requires c = named_are_spans (map update_value c.args.updates.now) c.loop-update.spans.items c.requires
    (all_noted c.args.updates.now c.loop-update.update-index c.loop-update.spans.items (omega (arith, c.loop-update-test.false)) c.loop-update.invariant)

pub returns : goal.returns
returns c = named_received (map update_value c.args.updates.now) c.loop-update.spans.items c.in_ok-named.named c.requires
    (all_noted c.args.updates.now c.loop-update.update-index c.loop-update.spans.items (omega (arith, c.loop-update-test.false)) c.loop-update.invariant)
    c.in_ok-named.ensures.maximal c.in_ok-named.ensures.ids
