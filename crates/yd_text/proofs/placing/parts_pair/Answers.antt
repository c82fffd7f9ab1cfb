use Rattle.std.proofs.Common.{◌∙◌, arith}
use Rattle.yd_editing.specs.TextEdit.{counted_units}
use Rattle.yd_doc.specs.Kept.{received_of, own_document}
use Rattle.yd_text.proofs.HalfLemmas.{none_parted, index_parts}
use Rattle.yd_text.proofs.placing.parts_pair.Goals as goal

pub returns-then-index-eq0 : goal.returns-then-index-eq0
returns-then-index-eq0 c = none_parted (counted_units (own_document c.args.replica.now) c.args.list.now) c.args.index c.if-index-eq0.true

pub returns : goal.returns
returns c =
    let r = c.args.replica.now in
    c.are_halves.ensures ∙ index_parts (received_of r).operations c.received_is_sound.ensures.written c.received_is_sound.ensures.paired (own_document r) c.args.list.now
    c.list-view.ensures.received c.args.index (omega (arith, c.if-index-eq0.false)) c.unit_at-before.result c.unit_at-behind.result
    c.unit_at-before.ensures.unit c.unit_at-behind.ensures.unit
