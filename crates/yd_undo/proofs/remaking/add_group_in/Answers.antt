use Rattle.std.proofs.Common.{◌∙◌, sym, ap, subst}
use Rattle.yd_state.specs.Lent.{units_left}
use Rattle.yd_doc.specs.Kept.{received_of, own_document}
use Rattle.yd_copying.specs.Content.{content_of}
use Rattle.yd_copying.specs.Piece.{pieces_units}
use Rattle.yd_remaking.specs.Parts.{IsFound, IsGroupAt}
use Rattle.yd_remaking.proofs.AroundLemmas.{group_around, valid_around}
use Rattle.yd_undo.specs.Remade.{seen_of, units_in}
use Rattle.yd_undo.proofs.RemadeLemmas.{hold_valid, none_added, none_taken, group_added, group_taken, group_some, group_within}
use Rattle.yd_undo.proofs.remaking.add_group_in.Goals as goal

pub group_at-requires-clause-valid : goal.group_at-requires-clause-valid
group_at-requires-clause-valid c = valid_around c.args.id (units_in (seen_of c.args.replica.now) c.args.list.now) (units_left c.list_around.result) c.list_around.ensures.around
    (hold_valid (own_document c.args.replica.now) c.args.list.now (received_of c.args.replica.now).operations c.received_can_be_grouped.ensures.valid c.list_around.ensures.received)

-- what is found is the group of the list
found : (c : goal.After-drop-group-in-Some) → IsFound (units_in (seen_of c.args.replica.now) c.args.list.now) c.args.id c.args.most c.in-Some.group
found c = subst (IsGroupAt (units_in (seen_of c.args.replica.now) c.args.list.now) c.args.id c.args.most) c.in-Some.is
    (group_around c.args.id (units_in (seen_of c.args.replica.now) c.args.list.now) (units_left c.list_around.result) c.list_around.ensures.around c.args.most _ c.in_ok-group_at.ensures)

pub returns-in-None-clause-added : goal.returns-in-None-clause-added
returns-in-None-clause-added c = none_added (seen_of c.args.replica.now) c.args.list.now c.args.id c.args.most c.args.steps.now (sym c.has_key.ensures ∙ c.if-has_key.false)
    (sym c.is_place.ensures ∙ c.if-not-is_place.false)
    (subst (IsGroupAt (units_in (seen_of c.args.replica.now) c.args.list.now) c.args.id c.args.most) c.in-None.is
    (group_around c.args.id (units_in (seen_of c.args.replica.now) c.args.list.now) (units_left c.list_around.result) c.list_around.ensures.around c.args.most _ c.in_ok-group_at.ensures))

pub returns-in-None-clause-taken : goal.returns-in-None-clause-taken
returns-in-None-clause-taken c = none_taken (seen_of c.args.replica.now) c.args.list.now c.args.id c.args.most (sym c.has_key.ensures ∙ c.if-has_key.false)
    (sym c.is_place.ensures ∙ c.if-not-is_place.false)
    (subst (IsGroupAt (units_in (seen_of c.args.replica.now) c.args.list.now) c.args.id c.args.most) c.in-None.is
    (group_around c.args.id (units_in (seen_of c.args.replica.now) c.args.list.now) (units_left c.list_around.result) c.list_around.ensures.around c.args.most _ c.in_ok-group_at.ensures))

pub returns-in_ok-push-in-Some-clause-added : goal.returns-in_ok-push-in-Some-clause-added
returns-in_ok-push-in-Some-clause-added c = group_added (seen_of c.args.replica.now) c.args.list.now c.in_ok-list-in-Some.list c.args.id c.args.most c.in-Some.group
    c.in_ok-content-in-Some.content c.args.steps.now c.push.new.self (sym c.has_key.ensures ∙ c.if-has_key.false) (sym c.is_place.ensures ∙ c.if-not-is_place.false) (found c)
    (c.in_ok-content-in-Some.ensures.content ∙ ap (λ ps. content_of (pieces_units ps)) c.deref.ensures.value) c.in_ok-list-in-Some.ensures c.in_ok-push-in-Some.ensures.appended

pub returns-in_ok-push-in-Some-clause-taken : goal.returns-in_ok-push-in-Some-clause-taken
returns-in_ok-push-in-Some-clause-taken c = group_taken (seen_of c.args.replica.now) c.args.list.now c.args.id c.args.most c.in-Some.group (sym c.has_key.ensures ∙ c.if-has_key.false)
    (sym c.is_place.ensures ∙ c.if-not-is_place.false) (found c)

pub returns-in_ok-push-in-Some-clause-some : goal.returns-in_ok-push-in-Some-clause-some
returns-in_ok-push-in-Some-clause-some c = group_some (units_in (seen_of c.args.replica.now) c.args.list.now) c.args.id c.args.most c.in-Some.group (found c)

pub returns-in_ok-push-in-Some-clause-bound : goal.returns-in_ok-push-in-Some-clause-bound
returns-in_ok-push-in-Some-clause-bound c = group_within (units_in (seen_of c.args.replica.now) c.args.list.now) c.args.id c.args.most c.in-Some.group c.requires (found c)
