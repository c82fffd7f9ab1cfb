-- Where units that become held stand, by where their origins and the item of their list do (own).
use Rattle.std.specs.Prelude.{ℕ, Bool, true, false, ◌||◌, List, Option, Some, None, if◌then◌else◌}
use Rattle.yd_ids.specs.declared.id.Id.{Id}
use Rattle.yd_meaning.specs.Held.{item_carried}
use Rattle.yd_entries.specs.declared.entry.Entry.{Entry}
use Rattle.yd_entries.specs.Entries.{carried_of}
use Rattle.yd_received.specs.Received.{ReceivedValue}
use Rattle.yd_held.specs.declared.placing.Stand.{Stand}
use Rattle.yd_held.specs.declared.placing.Stand.TheVariants.{Absent, Lost, In}
use Rattle.yd_held.specs.Numbered.{number_of}

-- whether it is lost
abbrev pub is_lost : Stand → Bool
is_lost Absent = false
is_lost Lost = true
is_lost (In n) = false

-- in the list with a number, or lost where there is none
abbrev pub stand_at : Option ℕ → Stand
stand_at None = Lost
stand_at (Some n) = In n

-- where an id stands, if there is one
abbrev pub stand_of : List Entry → Option Id → Stand
stand_of taken None = Absent
stand_of taken (Some x) = stand_at (number_of taken x)

-- the one, or the other where it is absent
abbrev pub first_stand : Stand → Stand → Stand
first_stand Absent other = other
first_stand Lost other = Lost
first_stand (In n) other = In n

-- lost where one of the three is, else as the left origin, else as the right one
abbrev pub joined : Stand → Stand → Stand → Stand
joined left right item = if is_lost left || (is_lost right || is_lost item) then Lost else first_stand left right

-- where units stand: what is gone is lost
abbrev pub stand_for : ReceivedValue → Entry → Stand
stand_for r t = if t.is_gone then Lost else joined (stand_of r.entries t.left) (stand_of r.entries t.right) (stand_of r.entries (item_carried (carried_of r.runs t)))
