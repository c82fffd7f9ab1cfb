-- Changes of rows, undone: what the rows were before.
use Rattle.std.specs.Prelude.{ℕ, List, [], ◌∷◌, Option, Some, None}
use Rattle.yd_sync.specs.declared.seat.Seat.{Seat}
use Rattle.yd_sync.specs.Table.{Row, raised}
use Rattle.yd_aware.specs.declared.taking.Change.{Change}
use Rattle.yd_aware.specs.declared.taking.Was.{Was}
use Rattle.yd_aware.specs.declared.taking.Was.TheVariants.{Absent, Seated, At}
use Rattle.yd_aware.specs.Rows.{changed, without_row}

-- the rows with what a client had
abbrev pub given_back : ℕ → Was → List Row → List Row
given_back client Absent rows = without_row client rows
given_back client (Seated seat) rows = changed client (λ other. seat) rows
given_back client (At clock) rows = raised client clock rows

-- the rows before a change
abbrev pub undone : Change → List Row → List Row
undone change rows = given_back change.client change.was rows

-- the rows before all of them, the last of which came last
abbrev pub restored : List Change → List Row → List Row
restored [] rows = rows
restored (change ∷ changes) rows = undone change (restored changes rows)

-- what a client had, by the seat that stood there
abbrev pub was_of : Option Seat → Was
was_of None = Absent
was_of (Some seat) = Seated seat
