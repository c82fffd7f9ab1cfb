-- What the lines of a script work on: what is received, the places that are kept under names, and the entries of an undo (own).
use Rattle.std.specs.Prelude.{ℕ, List, [], ◌∷◌, ◌++◌, Option, Some, None, if◌then◌else◌}
use Rattle.std.specs.Str.{bytes_eq}
use Rattle.yd_ops.specs.Value.{UpdateValue}
use Rattle.yd_ops.specs.Received.{Received, received_after}
use Rattle.yd_doc.specs.Kept.{Kept, received_of}
use Rattle.yd_position.specs.declared.position.Position.{Position}
use Rattle.yd_playing.specs.declared.desk.Mark.{Mark}
use Rattle.yd_playing.specs.declared.desk.Desk.{Desk as DeskKept}
use Rattle.yd_undo.specs.Stacks.{Stacks}

-- what is received, the marks, the newest last, and what can be undone and done again
pub record Desk : Type 0 where
  pub received : Received
  pub marks : List Mark
  pub stacks : Stacks

-- the desk of a replica, with what is kept beside it
abbrev pub desk_of : Kept → DeskKept → Desk
desk_of r kept = record { received = received_of r; marks = kept.marks.items; stacks = kept.undo }

-- how many entries are kept
abbrev pub undo_depth : ℕ
undo_depth = 100

-- the desk at the first line: no mark, and nothing to undo
abbrev pub first_desk : Received → Desk
first_desk r = record { received = r; marks = []; stacks = record { depth = undo_depth; noted = []; undo = []; redo = [] } }

-- ---- marks

-- the position of the newest of marks with a name, where this was found before them
abbrev pub marked_behind : Option Position → List ℕ → List Mark → Option Position
marked_behind found name [] = found
marked_behind found name (m ∷ ms) = marked_behind (if bytes_eq m.name name then Some m.position else found) name ms

-- the position that is kept under a name
abbrev pub marked : List ℕ → List Mark → Option Position
marked name marks = marked_behind None name marks

-- ---- what a line leaves

-- the updates that were made, and the desk then
pub record Played : Type 0 where
  pub updates : List UpdateValue
  pub desk : Desk

-- a place is kept, and no update is made
abbrev pub with_mark : Desk → Mark → Played
with_mark desk mark = record { updates = []; desk = record { received = desk.received; marks = desk.marks ++ mark ∷ []; stacks = desk.stacks } }

-- the update is made and received, and these are the stacks then
abbrev pub with_update : Desk → UpdateValue → Stacks → Played
with_update desk update stacks = record { updates = update ∷ []; desk = record { received = received_after desk.received update; marks = desk.marks; stacks = stacks } }
