-- How a line of a script ends: what it leaves, or why it is refused (own).
use Rattle.std.specs.Prelude.{◌≡◌, ℕ, ℤ, List, Option, Some, None, option_and_then, Result, Ok, Err, if◌then◌else◌}
use Rattle.yd_units.specs.Text.{units_of}
use Rattle.yd_ids.specs.declared.id.Client.{Client}
use Rattle.yd_ops.specs.declared.lists.List.{List as DocList}
use Rattle.yd_ops.specs.declared.lists.Parent.{Parent}
use Rattle.yd_ops.specs.declared.lists.Parent.TheVariants as parents
use Rattle.yd_ops.specs.Value.{UpdateValue, string}
use Rattle.yd_ops.specs.Received.{Received}
use Rattle.yd_meaning.specs.Document.{Document}
use Rattle.yd_meaning.specs.Replica.{IsReplicaDocument}
use Rattle.yd_shown.specs.Shown.{own_list}
use Rattle.yd_editing.specs.Basis.{Basis, basis_over}
use Rattle.yd_editing.specs.Made.{update_of_edit}
use Rattle.yd_editing.specs.Refused.{refusal_of}
use Rattle.yd_editing.specs.Step.{Step, Refusal}
use Rattle.yd_editing.specs.TextEdit.{counted_units, end_refusal, insert_steps, insert_refusal}
use Rattle.yd_making.specs.Standing.{list_where, stands_in}
use Rattle.yd_making.specs.Steps.{fault_of}
use Rattle.yd_making.specs.declared.fault.EditFault.TheVariants.{Nothing}
use Rattle.yd_position.specs.declared.position.Position.{Position}
use Rattle.yd_position.specs.declared.position.Target.{Target as Pointed}
use Rattle.yd_position.specs.declared.position.Target.TheVariants as pointed
use Rattle.yd_places.specs.Place.{place_in, position_of, whole_place}
use Rattle.yd_undo.specs.declared.entry.Entry.{Entry}
use Rattle.yd_undo.specs.Remade.{Seen}
use Rattle.yd_undo.specs.Stacks.{Stacks, newest_entry, after_note, after_undo, after_redo}
use Rattle.yd_undo.specs.Steps.{undo_steps}
use Rattle.yd_script.specs.Line.{Change, Line, changes, mark, insert_at, undo, redo}
use Rattle.yd_script.specs.Reading.{line_in}
use Rattle.yd_playing.specs.Asked.{change_steps, change_refusal}
use Rattle.yd_playing.specs.Desk.{Desk, Played, marked, with_mark, with_update}
use Rattle.yd_playing.specs.Led.{led}
use Rattle.yd_causes.specs.declared.cause.LineCause.{LineCause}
use Rattle.yd_causes.specs.declared.cause.LineCause.TheVariants.{BadLine, NoTarget, NoMark, Edit}

-- ---- what a line reads

-- what an undo reads: the basis of its edit, and the list that each unit is in
abbrev pub seen_over : Basis → Received → Seen
seen_over basis r = record { basis = basis; list_of = list_where (stands_in r) }

-- the list of what a position points at, and the index there
abbrev pub place_of_target : Seen → Pointed → ℤ → Option (DocList × ℕ)
place_of_target seen (pointed.Unit id) assoc = place_in seen.basis.document (seen.list_of id) id assoc
place_of_target seen (pointed.Root name) assoc = Some (whole_place seen.basis.document (parents.Root name) assoc)
place_of_target seen (pointed.Item id) assoc = if seen.basis.has_type id then Some (whole_place seen.basis.document (parents.Item id) assoc) else None

-- the place of a position
abbrev pub place_over : Seen → Position → Option (DocList × ℕ)
place_over seen p = place_of_target seen p.target p.assoc

-- ---- each kind of line

module _ (basis : Basis) (desk : Desk) where
  -- an edit of these steps, by its refusal, and by what its update leaves on the stacks
  abbrev pub edit_ends : (UpdateValue → Stacks) → List Step → Option Refusal → Result Played LineCause
  edit_ends stacks steps None = Ok (with_update desk (update_of_edit basis steps) (stacks (update_of_edit basis steps)))
  edit_ends stacks steps (Some refusal) = Err (Edit (fault_of refusal))

  -- a change where its target leads; its update is noted
  abbrev pub change_ends : Change → Result Parent ℕ → Result Played LineCause
  change_ends change (Err step) = Err (NoTarget step)
  change_ends change (Ok parent) = edit_ends (after_note desk.stacks) (change_steps basis.document parent change) (change_refusal basis parent change)

  -- a mark at an index of a list, by its refusal
  abbrev pub place_ends : List ℕ → DocList → ℕ → ℤ → Option Refusal → Result Played LineCause
  place_ends name list index assoc None = Ok (with_mark desk (record { name = name; position = position_of basis.document list index assoc }))
  place_ends name list index assoc (Some refusal) = Err (Edit (fault_of refusal))

  -- a mark where its target leads
  abbrev pub mark_ends : List ℕ → ℕ → ℤ → Result Parent ℕ → Result Played LineCause
  mark_ends name index assoc (Err step) = Err (NoTarget step)
  mark_ends name index assoc (Ok parent) = place_ends name (own_list parent) index assoc (end_refusal (counted_units basis.document (own_list parent)) index)

  -- an insertion at the place of a mark, where there is one; its update is noted
  abbrev pub insertion_ends : List ℕ → Option (DocList × ℕ) → Result Played LineCause
  insertion_ends text None = Err NoMark
  insertion_ends text (Some (list, index)) = edit_ends (after_note desk.stacks) (insert_steps basis.document list index (string (units_of text)))
      (insert_refusal basis list index (string (units_of text)))

  -- an undo of the newest entry, where there is one
  abbrev pub undo_ends : (UpdateValue → Stacks) → Option Entry → Result Played LineCause
  undo_ends stacks None = Err (Edit Nothing)
  undo_ends stacks (Some e) = edit_ends stacks (undo_steps (seen_over basis desk.received) e) (refusal_of basis (undo_steps (seen_over basis desk.received) e))

  -- each line
  abbrev pub line_ends : Line → Result Played LineCause
  line_ends (changes target change) = change_ends change (led basis target)
  line_ends (mark name target index assoc) = mark_ends name index assoc (led basis target)
  line_ends (insert_at name text) = insertion_ends text (option_and_then (place_over (seen_over basis desk.received)) (marked name desk.marks))
  line_ends undo = undo_ends (after_undo desk.stacks) (newest_entry desk.stacks.undo)
  line_ends redo = undo_ends (after_redo desk.stacks) (newest_entry desk.stacks.redo)

  -- a text that is a line, or none
  abbrev pub asked_ends : Option Line → Result Played LineCause
  asked_ends None = Err BadLine
  asked_ends (Some line) = line_ends line

-- ---- a text

-- how a text ends that is played by a client over a document
abbrev pub text_ends : Client → Document → Desk → List ℕ → Result Played LineCause
text_ends client document desk text = asked_ends (basis_over client document desk.received) desk (line_in text)

-- a text may end so: over a document that a replica may have of what is received
abbrev pub MayEnd : Client → Desk → List ℕ → Result Played LineCause → Type 0
MayEnd client desk text ends = (document : Document) × IsReplicaDocument document desk.received × (text_ends client document desk text ≡ ends)
