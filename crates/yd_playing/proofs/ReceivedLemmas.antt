-- What is received behind lines that are played: what was, and their updates.
use Rattle.std.proofs.Common.{◌≡◌, ℕ, List, [], ◌∷◌, ◌++◌, Option, Some, None, Result, Ok, Err, inl, inr, refl, sym, ap, ◌∙◌, subst}
use Rattle.std.specs.Prelude.{ℤ, option_and_then}
use Rattle.yd_ids.specs.declared.id.Client.{Client}
use Rattle.yd_ops.specs.declared.lists.List.{List as DocList}
use Rattle.yd_ops.specs.declared.lists.Parent.{Parent}
use Rattle.yd_units.specs.Text.{units_of}
use Rattle.yd_ops.specs.Value.{UpdateValue, string}
use Rattle.yd_ops.specs.Received.{IsWritten, Received, groups_of, received_after, received_more}
use Rattle.yd_ops.proofs.TurnLemmas.{groups_written}
use Rattle.yd_editing.specs.Basis.{Basis, basis_over}
use Rattle.yd_shown.specs.Shown.{own_list}
use Rattle.yd_editing.specs.Refused.{refusal_of}
use Rattle.yd_editing.specs.Step.{Step, Refusal}
use Rattle.yd_editing.specs.TextEdit.{counted_units, end_refusal, insert_refusal, insert_steps}
use Rattle.yd_undo.specs.declared.entry.Entry.{Entry}
use Rattle.yd_undo.specs.Stacks.{Stacks, after_note, after_undo, after_redo, newest_entry}
use Rattle.yd_undo.specs.Steps.{undo_steps}
use Rattle.yd_script.specs.Line.{Change, Line, changes, mark, insert_at, undo, redo}
use Rattle.yd_script.specs.Lines.{Numbered}
use Rattle.yd_script.specs.Reading.{line_in}
use Rattle.yd_playing.specs.Asked.{change_refusal, change_steps}
use Rattle.yd_playing.specs.Desk.{Desk, Played, marked}
use Rattle.yd_playing.specs.Ended.{MayEnd, asked_ends, change_ends, edit_ends, insertion_ends, line_ends, mark_ends, place_ends, place_over, seen_over, undo_ends}
use Rattle.yd_playing.specs.Led.{led}
use Rattle.yd_playing.specs.Played.{LinesMayEnd}
use Rattle.yd_causes.specs.declared.cause.LineCause.{LineCause}

-- ---- one line

module _ (basis : Basis) (desk : Desk) (played : Played) where
  abbrev IsReceived : Type 0
  IsReceived = played.desk.received ≡ received_more desk.received played.updates

  from_same : (p : Played) → p.desk.received ≡ received_more desk.received p.updates → ◌≡◌ {A = Result Played LineCause} (Ok p) (Ok played) → IsReceived
  from_same p is e = let same : p ≡ played = cc in subst (λ (q : Played). q.desk.received ≡ received_more desk.received q.updates) same is

  from_none : (cause : LineCause) → ◌≡◌ {A = Result Played LineCause} (Err cause) (Ok played) → IsReceived
  from_none cause e = absurd cc

  of_edit : (stacks : UpdateValue → Stacks) (steps : List Step) (refusal : Option Refusal) → edit_ends basis desk stacks steps refusal ≡ Ok played → IsReceived
  of_edit stacks steps None e = from_same _ refl e
  of_edit stacks steps (Some refusal) e = from_none _ e

  of_change : (change : Change) (found : Result Parent ℕ) → change_ends basis desk change found ≡ Ok played → IsReceived
  of_change change (Err step) e = from_none _ e
  of_change change (Ok parent) e = of_edit (after_note desk.stacks) (change_steps basis.document parent change) (change_refusal basis parent change) e

  of_place : (name : List ℕ) (list : DocList) (index : ℕ) (assoc : ℤ) (refusal : Option Refusal) → place_ends basis desk name list index assoc refusal ≡ Ok played → IsReceived
  of_place name list index assoc None e = from_same _ refl e
  of_place name list index assoc (Some refusal) e = from_none _ e

  of_mark : (name : List ℕ) (index : ℕ) (assoc : ℤ) (found : Result Parent ℕ) → mark_ends basis desk name index assoc found ≡ Ok played → IsReceived
  of_mark name index assoc (Err step) e = from_none _ e
  of_mark name index assoc (Ok parent) e = of_place name (own_list parent) index assoc (end_refusal (counted_units basis.document (own_list parent)) index) e

  of_insertion : (text : List ℕ) (place : Option (DocList × ℕ)) → insertion_ends basis desk text place ≡ Ok played → IsReceived
  of_insertion text None e = from_none _ e
  of_insertion text (Some (list, index)) e =
      of_edit (after_note desk.stacks) (insert_steps basis.document list index (string (units_of text))) (insert_refusal basis list index (string (units_of text))) e

  of_undo : (stacks : UpdateValue → Stacks) (entry : Option Entry) → undo_ends basis desk stacks entry ≡ Ok played → IsReceived
  of_undo stacks None e = from_none _ e
  of_undo stacks (Some entry) e = of_edit stacks (undo_steps (seen_over basis desk.received) entry) (refusal_of basis (undo_steps (seen_over basis desk.received) entry)) e

  of_line : (line : Line) → line_ends basis desk line ≡ Ok played → IsReceived
  of_line (changes target change) e = of_change change (led basis target) e
  of_line (mark name target index assoc) e = of_mark name index assoc (led basis target) e
  of_line (insert_at name text) e = of_insertion text (option_and_then (place_over (seen_over basis desk.received)) (marked name desk.marks)) e
  of_line undo e = of_undo (after_undo desk.stacks) (newest_entry desk.stacks.undo) e
  of_line redo e = of_undo (after_redo desk.stacks) (newest_entry desk.stacks.redo) e

  of_asked : (line : Option Line) → asked_ends basis desk line ≡ Ok played → IsReceived
  of_asked None e = from_none _ e
  of_asked (Some line) e = of_line line e

-- ---- lines

more_received : (r : Received) (us vs : List UpdateValue) → received_more r (us ++ vs) ≡ received_more (received_more r us) vs
more_received r [] vs = refl
more_received r (u ∷ us) vs = more_received (received_after r u) us vs

-- ---- lemmas for callers

-- what is received behind a line
pub line_received : (client : Client) (desk : Desk) (text : List ℕ) (played : Played) → MayEnd client desk text (Ok played) →
    played.desk.received ≡ received_more desk.received played.updates
line_received client desk text played (document, own, e) = of_asked (basis_over client document desk.received) desk played (line_in text) e

-- and behind all
pub lines_received : (client : Client) (lines : List Numbered) (desk : Desk) (played : Played) → LinesMayEnd client desk lines (Ok played) →
    played.desk.received ≡ received_more desk.received played.updates
lines_received client [] desk played e =
    let same : ◌≡◌ {A = Played} played (record { updates = []; desk = desk }) = cc in subst (λ (q : Played). q.desk.received ≡ received_more desk.received q.updates) (sym same) refl
lines_received client (line ∷ lines) desk played (inl (cause, first, e)) = absurd cc
lines_received client (line ∷ lines) desk played (inr (first, Err stop, plays, more, e)) = absurd cc
lines_received client (line ∷ lines) desk played (inr (first, Ok rest, plays, more, e)) =
    let same : ◌≡◌ {A = Played} played (record { updates = first.updates ++ rest.updates; desk = rest.desk }) = cc in
    subst (λ (q : Played). q.desk.received ≡ received_more desk.received q.updates) (sym same)
    (lines_received client lines first.desk rest more
    ∙ ap (λ (s : Received). received_more s rest.updates) (line_received client desk line.text first plays)
    ∙ sym (more_received desk.received first.updates rest.updates))

-- what is received stays in the order of writing
pub more_written : (r : Received) (us : List UpdateValue) → IsWritten r.operations → IsWritten (received_more r us).operations
more_written r [] written = written
more_written r (u ∷ us) written = more_written (received_after r u) us (groups_written (groups_of u) r.operations written)
