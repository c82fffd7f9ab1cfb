-- Lines of each kind: what a call answers is how the line ends.
use Rattle.std.proofs.Common.{◌≡◌, ℕ, List, [], ◌∷◌, ◌++◌, Option, Some, None, Result, Ok, Err, inl, inr, refl, sym, ap, ◌∙◌, subst}
use Rattle.std.specs.Prelude.{ℤ, IfErr, IfOk}
use Rattle.yd_ids.specs.declared.id.Client.{Client}
use Rattle.yd_ops.specs.declared.lists.List.{List as DocList}
use Rattle.yd_ops.specs.declared.lists.Parent.{Parent}
use Rattle.yd_ops.specs.declared.updates.Update.{Update}
use Rattle.yd_ops.specs.Value.{UpdateValue}
use Rattle.yd_ops.specs.View.{update_value}
use Rattle.yd_ops.specs.Received.{Received, received_after}
use Rattle.yd_meaning.specs.Document.{Document}
use Rattle.yd_editing.specs.Basis.{Basis, basis_over}
use Rattle.yd_editing.specs.Made.{update_of_edit}
use Rattle.yd_editing.specs.Refused.{refusal_of}
use Rattle.yd_editing.specs.Step.{Step, Refusal}
use Rattle.yd_making.specs.Steps.{IsCause}
use Rattle.yd_making.specs.declared.fault.EditFault.{EditFault}
use Rattle.yd_making.specs.declared.fault.EditFault.TheVariants as edits
use Rattle.yd_doc.specs.Editing.{own_basis}
use Rattle.yd_doc.specs.Kept.{Kept, received_of}
use Rattle.yd_position.specs.declared.position.Position.{Position}
use Rattle.yd_places.specs.Place.{position_of}
use Rattle.yd_undo.specs.declared.entry.Entry.{Entry}
use Rattle.yd_undo.specs.Remade.{seen_of}
use Rattle.yd_undo.specs.Stacks.{Stacks, IsUndone, IsUndoCause}
use Rattle.yd_undo.specs.Steps.{undo_steps}
use Rattle.yd_script.specs.Line.{Change, Line}
use Rattle.yd_script.specs.Lines.{Numbered}
use Rattle.yd_script.specs.Reading.{line_in}
use Rattle.yd_playing.specs.Answer.{PlaysAs}
use Rattle.yd_playing.specs.Desk.{Desk, with_mark, with_update}
use Rattle.yd_playing.specs.Ended.{asked_ends, change_ends, edit_ends, line_ends, mark_ends, place_ends, text_ends, undo_ends}
use Rattle.yd_playing.specs.Stopped.{IsUnread, refused_by}
use Rattle.yd_playing.specs.declared.desk.Mark.{Mark}
use Rattle.yd_causes.specs.declared.cause.LineCause.TheVariants.{BadLine, NoTarget, NoMark, Edit}
use Rattle.yd_playing.specs.declared.fault.PlayFault.{PlayFault}
use Rattle.yd_playing.specs.declared.fault.PlayFault.TheVariants.{NoMemory, Refused}

-- ---- edits

module _ (basis : Basis) (desk : Desk) (number : ℕ) (stacks : UpdateValue → Stacks) (steps : List Step) (refusal : Option Refusal) where
  -- an edit that is made
  edit_made : (u : UpdateValue) → refusal ≡ None → u ≡ update_of_edit basis steps → edit_ends basis desk stacks steps refusal ≡ Ok (with_update desk u (stacks u))
  edit_made u accepted made = ap (edit_ends basis desk stacks steps) accepted ∙ ap (λ v. Ok (with_update desk v (stacks v))) (sym made)

  -- and what is left of it
  pub edit_done : (update : Update) (r : Received) (marks : List Mark) (s : Stacks) → refusal ≡ None → update_value update ≡ update_of_edit basis steps →
      r ≡ received_after desk.received (update_value update) → marks ≡ desk.marks → s ≡ stacks (update_value update) →
      PlaysAs (edit_ends basis desk stacks steps refusal) number desk.received (record { received = r; marks = marks; stacks = s }) (Ok (Some update))
  edit_done update r marks s accepted made received kept left = edit_made (update_value update) accepted made
      ∙ (λ i. Ok (record { updates = update_value update ∷ []; desk = record { received = sym received i; marks = sym kept i; stacks = sym left i } }))

  -- no memory was there to note it
  pub edit_unnoted : (u : UpdateValue) (after : Desk) (fault : PlayFault) → refusal ≡ None → u ≡ update_of_edit basis steps → after.received ≡ received_after desk.received u →
      fault ≡ NoMemory → PlaysAs (edit_ends basis desk stacks steps refusal) number desk.received after (Err fault)
  edit_unnoted u after fault accepted made received is = subst (λ f. PlaysAs (edit_ends basis desk stacks steps refusal) number desk.received after (Err f)) (sym is)
      (tt, inr (with_update desk u (stacks u), edit_made u accepted made, received))

  -- an edit that is made, and then noted
  pub edit_noted : (update : Update) (r : Received) (marks : List Mark) (s : Stacks) (result : Result (Option Update) PlayFault) → refusal ≡ None →
      update_value update ≡ update_of_edit basis steps → r ≡ received_after desk.received (update_value update) → marks ≡ desk.marks → IfOk result (λ kept. kept ≡ Some update) →
      IfOk result (λ kept. s ≡ stacks (update_value update)) → IfErr result (λ fault. fault ≡ NoMemory) →
      PlaysAs (edit_ends basis desk stacks steps refusal) number desk.received (record { received = r; marks = marks; stacks = s }) result
  edit_noted update r marks s (Ok made) accepted is received kept same left memory =
      subst (λ (m : Option Update). PlaysAs (edit_ends basis desk stacks steps refusal) number desk.received (record { received = r; marks = marks; stacks = s }) (Ok m)) (sym same)
      (edit_done update r marks s accepted is received kept left)
  edit_noted update r marks s (Err fault) accepted is received kept same left memory =
      edit_unnoted (update_value update) (record { received = r; marks = marks; stacks = s }) fault accepted is received memory

  -- an edit that is refused
  pub edit_refused : (fault : EditFault) (after : Desk) → IsCause fault refusal → after.received ≡ desk.received →
      PlaysAs (edit_ends basis desk stacks steps refusal) number desk.received after (Err (refused_by number fault))
  edit_refused edits.NoMemory after is same = (tt, inl same)
  edit_refused (edits.NoPlace id) after is same = ((refl, ap (edit_ends basis desk stacks steps) is), inl same)
  edit_refused (edits.NotHeld id) after is same = ((refl, ap (edit_ends basis desk stacks steps) is), inl same)
  edit_refused (edits.ClockFull clock) after is same = ((refl, ap (edit_ends basis desk stacks steps) is), inl same)
  edit_refused (edits.InsidePair place) after is same = ((refl, ap (edit_ends basis desk stacks steps) is), inl same)
  edit_refused (edits.OwnWaiting clock) after is same = ((refl, ap (edit_ends basis desk stacks steps) is), inl same)
  edit_refused (edits.PastEnd length) after is same = ((refl, ap (edit_ends basis desk stacks steps) is), inl same)
  edit_refused edits.NoKey after is same = ((refl, ap (edit_ends basis desk stacks steps) is), inl same)
  edit_refused edits.Nothing after is same = absurd is

-- ---- undos

module _ (old new : Kept) (marks : List Mark) (before : Stacks) (number : ℕ) (stacks : UpdateValue → Stacks) where
  abbrev desk_before : Desk
  desk_before = record { received = received_of old; marks = marks; stacks = before }

  pub undo_done : (entry : Option Entry) (update : Update) (s : Stacks) → IsUndone entry old new (update_value update) → s ≡ stacks (update_value update) →
      PlaysAs (undo_ends (own_basis old) desk_before stacks entry) number (received_of old) (record { received = received_of new; marks = marks; stacks = s }) (Ok (Some update))
  undo_done None update s is left = absurd is
  undo_done (Some e) update s is left =
      edit_done (own_basis old) desk_before number stacks (undo_steps (seen_of old) e) (refusal_of (own_basis old) (undo_steps (seen_of old) e))
      update (received_of new) marks s is.accepted is.made is.received refl left

  pub undo_refused : (entry : Option Entry) (fault : EditFault) (after : Desk) → IsUndoCause fault entry old → after.received ≡ received_of old →
      PlaysAs (undo_ends (own_basis old) desk_before stacks entry) number (received_of old) after (Err (refused_by number fault))
  undo_refused None fault after is same = subst (λ f. PlaysAs (undo_ends (own_basis old) desk_before stacks None) number (received_of old) after (Err (refused_by number f))) (sym is)
      ((refl, refl), inl same)
  undo_refused (Some e) fault after is same =
      edit_refused (own_basis old) desk_before number stacks (undo_steps (seen_of old) e) (refusal_of (own_basis old) (undo_steps (seen_of old) e)) fault after is same

-- ---- marks

module _ (basis : Basis) (desk : Desk) (number : ℕ) (name : List ℕ) (list : DocList) (index : ℕ) (assoc : ℤ) (refusal : Option Refusal) where
  pub mark_done : (position : Position) (marks : List Mark) → refusal ≡ None → position ≡ position_of basis.document list index assoc →
      marks ≡ desk.marks ++ record { name = name; position = position } ∷ [] →
      PlaysAs (place_ends basis desk name list index assoc refusal) number desk.received (record { received = desk.received; marks = marks; stacks = desk.stacks }) (Ok None)
  mark_done position marks accepted is kept = ap (place_ends basis desk name list index assoc) accepted
      ∙ ap (λ (p : Position). Ok (with_mark desk (record { name = name; position = p }))) (sym is)
      ∙ ap (λ ms. Ok (record { updates = []; desk = record { received = desk.received; marks = ms; stacks = desk.stacks } })) (sym kept)

  pub mark_refused : (fault : EditFault) (after : Desk) → IsCause fault refusal → after.received ≡ desk.received →
      PlaysAs (place_ends basis desk name list index assoc refusal) number desk.received after (Err (refused_by number fault))
  mark_refused edits.NoMemory after is same = (tt, inl same)
  mark_refused (edits.NoPlace id) after is same = ((refl, ap (place_ends basis desk name list index assoc) is), inl same)
  mark_refused (edits.NotHeld id) after is same = ((refl, ap (place_ends basis desk name list index assoc) is), inl same)
  mark_refused (edits.ClockFull clock) after is same = ((refl, ap (place_ends basis desk name list index assoc) is), inl same)
  mark_refused (edits.InsidePair place) after is same = ((refl, ap (place_ends basis desk name list index assoc) is), inl same)
  mark_refused (edits.OwnWaiting clock) after is same = ((refl, ap (place_ends basis desk name list index assoc) is), inl same)
  mark_refused (edits.PastEnd length) after is same = ((refl, ap (place_ends basis desk name list index assoc) is), inl same)
  mark_refused edits.NoKey after is same = ((refl, ap (place_ends basis desk name list index assoc) is), inl same)
  mark_refused edits.Nothing after is same = absurd is

-- ---- targets that lead nowhere

module _ (basis : Basis) (desk after : Desk) (number step : ℕ) (found : Result Parent ℕ) (fault : PlayFault) (misled : Err step ≡ found)
    (is : fault ≡ Refused number (NoTarget step)) (same : after.received ≡ desk.received) where
  pub change_misled : (change : Change) → PlaysAs (change_ends basis desk change found) number desk.received after (Err fault)
  change_misled change = subst (λ f. PlaysAs (change_ends basis desk change found) number desk.received after (Err f)) (sym is)
      ((refl, ap (change_ends basis desk change) (sym misled)), inl same)

  pub mark_misled : (name : List ℕ) (index : ℕ) (assoc : ℤ) → PlaysAs (mark_ends basis desk name index assoc found) number desk.received after (Err fault)
  mark_misled name index assoc = subst (λ f. PlaysAs (mark_ends basis desk name index assoc found) number desk.received after (Err f)) (sym is)
      ((refl, ap (mark_ends basis desk name index assoc) (sym misled)), inl same)

-- ---- texts

-- a text that is a line ends as the line does
pub text_is : (client : Client) (desk : Desk) (text : List ℕ) (document : Document) (line : Line) → line_in text ≡ Some line →
    text_ends client document desk text ≡ line_ends (basis_over client document desk.received) desk line
text_is client desk text document line asked = ap (asked_ends (basis_over client document desk.received) desk) asked

-- another one is refused
pub unread_refused : (client : Client) (document : Document) (desk : Desk) (line : Numbered) (fault : PlayFault) (after : Desk) → IsUnread line fault → after.received ≡ desk.received →
    PlaysAs (text_ends client document desk line.text) line.number desk.received after (Err fault)
unread_refused client document desk line NoMemory after is same = (tt, inl same)
unread_refused client document desk line (Refused number BadLine) after is same = ((is.0, ap (asked_ends (basis_over client document desk.received) desk) is.1), inl same)
unread_refused client document desk line (Refused number (NoTarget step)) after is same = absurd is
unread_refused client document desk line (Refused number NoMark) after is same = absurd is
unread_refused client document desk line (Refused number (Edit fault)) after is same = absurd is
