-- The two stacks of entries, the newest last, and the ids of which a deletion was noted or made (own).
use Rattle.std.specs.Prelude.{◌≡◌, ◌<◌, ◌≤◌, ℕ, ◌+◌, ◌-◌, List, [], ◌∷◌, ◌++◌, Option, Some, None, length, drop}
use Rattle.yd_ids.specs.declared.id.Span.{Span}
use Rattle.yd_ids.specs.Set.{union_of}
use Rattle.yd_ops.specs.Value.{UpdateValue}
use Rattle.yd_making.specs.declared.fault.EditFault.{EditFault}
use Rattle.yd_making.specs.declared.fault.EditFault.TheVariants.{Nothing}
use Rattle.yd_making.specs.Steps.{IsCause}
use Rattle.yd_editing.specs.Refused.{refusal_of}
use Rattle.yd_doc.specs.Editing.{IsEdit}
use Rattle.yd_doc.specs.Kept.{Kept}
use Rattle.yd_undo.specs.declared.entry.Entry.{Entry}
use Rattle.yd_undo.specs.Entry.{undo_entry}
use Rattle.yd_undo.specs.Remade.{seen_of}
use Rattle.yd_undo.specs.Steps.{undo_steps}

-- how many entries are kept, what was noted as deleted, and the entries to undo and to do again
pub record Stacks : Type 0 where
  pub depth : ℕ
  pub noted : List Span
  pub undo : List Entry
  pub redo : List Entry

-- there is room for one entry, and no more entries than are kept
pub record AreStacks (s : Stacks) : Type 0 where
  pub some : 0 < s.depth
  pub bound : length s.undo + length s.redo ≤ s.depth

-- the newest so many
abbrev pub newest : ℕ → List Entry → List Entry
newest depth entries = drop (length entries - depth) entries

-- after an update is noted: its entry is the newest, the oldest beyond the depth is dropped and stays noted, and there is nothing to do again
abbrev pub after_note : Stacks → UpdateValue → Stacks
after_note s update = record {
  depth = s.depth;
  noted = union_of s.noted update.deletes;
  undo = newest s.depth (s.undo ++ undo_entry s.noted update ∷ []);
  redo = [];
}

-- ---- undo and redo

-- the newest entry, and the others
abbrev pub newest_entry : List Entry → Option Entry
newest_entry [] = None
newest_entry (e ∷ []) = Some e
newest_entry (e ∷ f ∷ es) = newest_entry (f ∷ es)

abbrev pub older_entries : List Entry → List Entry
older_entries [] = []
older_entries (e ∷ []) = []
older_entries (e ∷ f ∷ es) = e ∷ older_entries (f ∷ es)

-- after an undo that made an update: this becomes an entry to do again, also where it is empty
abbrev pub after_undo : Stacks → UpdateValue → Stacks
after_undo s update = record {
  depth = s.depth;
  noted = union_of s.noted update.deletes;
  undo = older_entries s.undo;
  redo = s.redo ++ undo_entry s.noted update ∷ [];
}

-- the stacks exchanged
abbrev pub exchanged : Stacks → Stacks
exchanged s = record { depth = s.depth; noted = s.noted; undo = s.redo; redo = s.undo }

-- after a redo that made an update
abbrev pub after_redo : Stacks → UpdateValue → Stacks
after_redo s update = exchanged (after_undo (exchanged s) update)

-- the update is the edit that undoes the newest entry, and the replica has taken it
abbrev pub IsUndone : Option Entry → Kept → Kept → UpdateValue → Type 0
IsUndone None old new update = ⊥
IsUndone (Some e) old new update = IsEdit old new (undo_steps (seen_of old) e) update

-- a fault is want of memory, or says that there is no entry, or why the edit is refused
abbrev pub IsUndoCause : EditFault → Option Entry → Kept → Type 0
IsUndoCause fault None old = fault ≡ Nothing
IsUndoCause fault (Some e) old = IsCause fault (refusal_of (seen_of old).basis (undo_steps (seen_of old) e))
