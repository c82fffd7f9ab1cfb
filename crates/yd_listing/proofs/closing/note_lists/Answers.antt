use Rattle.std.proofs.Common.{◌<◌, sym, subst}
use Rattle.yd_ids.specs.declared.id.Span.{Span}
use Rattle.yd_names.specs.Items.{IsFirstItem}
use Rattle.yd_listing.proofs.NotingLemmas.{span_begins, behind_smaller, first_is_id, span_goes_on, span_ends}
use Rattle.yd_listing.proofs.closing.note_lists.Goals as goal

pub loop-item-init : goal.loop-item-init
loop-item-init c = span_begins c.args.kept.now c.args.deleted.now c.args.span c.args.queue.now c.requires

pub first_item-requires : goal.first_item-requires
first_item-requires c = c.loop-item.invariant.is_span

pub note_item-requires : goal.note_item-requires
note_item-requires c = first_is_id c.loop-item.rest c.in-Some.item c.loop-item.invariant.is_span
    (subst (IsFirstItem c.args.kept.now.names c.loop-item.rest) c.in-Some.is c.first_item.ensures).0

pub loop-item-preserved : goal.loop-item-preserved
loop-item-preserved c = span_goes_on c.args.kept.now c.args.deleted.now c.args.span c.loop-item.rest c.args.queue.now c.loop-item.queue c.loop-item.invariant c.in-Some.item
    c.note_item.new.queue c.span_behind-rest.result (subst (IsFirstItem c.args.kept.now.names c.loop-item.rest) c.in-Some.is c.first_item.ensures)
    c.in_ok-note_item.ensures c.span_behind-rest.ensures

pub loop-item-smaller : goal.loop-item-smaller
loop-item-smaller c = subst (λ (s : Span). s.len < c.loop-item.rest.len) (sym c.span_behind-rest.ensures) (behind_smaller c.loop-item.rest c.in-Some.item
    (subst (IsFirstItem c.args.kept.now.names c.loop-item.rest) c.in-Some.is c.first_item.ensures).0)

pub returns : goal.returns
returns c = span_ends c.args.kept.now c.args.deleted.now c.args.span c.loop-item.rest c.args.queue.now c.loop-item.queue c.loop-item.invariant
    (subst (IsFirstItem c.args.kept.now.names c.loop-item.rest) c.in_default.is c.first_item.ensures)
