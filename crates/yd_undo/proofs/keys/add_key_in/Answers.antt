use Rattle.std.proofs.Common.{◌∙◌, sym, ap, subst}
use Rattle.yd_state.specs.Lent.{units_left}
use Rattle.yd_doc.specs.Kept.{received_of, own_document}
use Rattle.yd_copying.specs.Content.{content_of}
use Rattle.yd_copying.specs.Piece.{pieces_units}
use Rattle.yd_remaking.specs.Parts.{IsFound, IsGroupAt}
use Rattle.yd_remaking.proofs.AroundLemmas.{group_around, valid_around}
use Rattle.yd_undo.specs.Remade.{seen_of, units_in}
use Rattle.yd_undo.proofs.KeyLemmas.{no_key_added, key_added}
use Rattle.yd_undo.proofs.RemadeLemmas.{hold_valid}
use Rattle.yd_undo.proofs.keys.add_key_in.Goals as goal

pub group_at-requires-clause-valid : goal.group_at-requires-clause-valid
group_at-requires-clause-valid c = valid_around c.args.id (units_in (seen_of c.args.replica.now) c.args.list.now) (units_left c.list_around.result) c.list_around.ensures.around
    (hold_valid (own_document c.args.replica.now) c.args.list.now (received_of c.args.replica.now).operations c.received_can_be_grouped.ensures.valid c.list_around.ensures.received)

pub returns-in-None : goal.returns-in-None
returns-in-None c = no_key_added (seen_of c.args.replica.now) c.args.deleted.now c.args.list.now c.args.id c.args.steps.now (sym c.is_made.ensures ∙ c.if-not-is_made.false)
    (subst (IsGroupAt (units_in (seen_of c.args.replica.now) c.args.list.now) c.args.id 1) c.in-None.is
    (group_around c.args.id (units_in (seen_of c.args.replica.now) c.args.list.now) (units_left c.list_around.result) c.list_around.ensures.around 1 _ c.in_ok-group_at.ensures))

pub returns-in_ok-push-in-Some : goal.returns-in_ok-push-in-Some
returns-in_ok-push-in-Some c = key_added (seen_of c.args.replica.now) c.args.deleted.now c.args.list.now c.in_ok-list-in-Some.list c.args.id c.last_of-after.result c.in-Some.group
    c.in_ok-content-in-Some.content c.args.steps.now c.push.new.self (sym c.is_made.ensures ∙ c.if-not-is_made.false) found
    (c.in_ok-content-in-Some.ensures.content ∙ ap (λ ps. content_of (pieces_units ps)) c.deref.ensures.value) c.in_ok-list-in-Some.ensures c.last_of-after.ensures
    c.in_ok-push-in-Some.ensures.appended
  where
    found : IsFound (units_in (seen_of c.args.replica.now) c.args.list.now) c.args.id 1 c.in-Some.group
    found = subst (IsGroupAt (units_in (seen_of c.args.replica.now) c.args.list.now) c.args.id 1) c.in-Some.is
        (group_around c.args.id (units_in (seen_of c.args.replica.now) c.args.list.now) (units_left c.list_around.result) c.list_around.ensures.around 1 _ c.in_ok-group_at.ensures)
