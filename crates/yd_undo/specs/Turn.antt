-- What an undo prepares of its newest entry, before anything changes (own).
use Rattle.std.specs.Prelude.{◌≡◌, List, Option, Some, None}
use Rattle.yd_ids.specs.declared.id.Span.{Span}
use Rattle.yd_ids.specs.Set.{union_of}
use Rattle.yd_ops.specs.Value.{UpdateValue}
use Rattle.yd_ops.specs.View.{update_value}
use Rattle.yd_doc.specs.Editing.{IsPrepared}
use Rattle.yd_doc.specs.Kept.{Kept}
use Rattle.yd_undo.specs.declared.entry.Entry.{Entry}
use Rattle.yd_undo.specs.declared.turn.Turn.{Turn}
use Rattle.yd_undo.specs.Entry.{undo_entry}
use Rattle.yd_undo.specs.Remade.{seen_of}
use Rattle.yd_undo.specs.Steps.{undo_steps}

-- the update is the one that undoes the entry, and the replica has not taken it
abbrev pub IsReady : Option Entry → Kept → UpdateValue → Type 0
IsReady None r update = ⊥
IsReady (Some e) r update = IsPrepared r (undo_steps (seen_of r) e) update

-- what is kept of the update is its entry, and what is noted with its deletions
pub record IsTurn (noted : List Span) (turn : Turn) : Type 0 where
  pub entry_is : turn.entry ≡ undo_entry noted (update_value turn.update)
  pub noted_is : turn.noted ≡ union_of noted (update_value turn.update).deletes
