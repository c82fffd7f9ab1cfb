-- Rows one by one: what a client has, and a change of it.
use Rattle.std.specs.Prelude.{ℕ, suc, ◌+◌, Bool, false, ◌&&◌, List, [], ◌∷◌, Option, Some, None, is_some, if◌then◌else◌, nat_eq, nat_le}
use Rattle.yd_sync.specs.declared.seat.Seat.{Seat}
use Rattle.yd_sync.specs.Standing.{Standing, absent}
use Rattle.yd_sync.specs.Table.{Row}

-- what is known of a client
abbrev pub seat_in : List Row → ℕ → Option Seat
seat_in [] client = None
seat_in (row ∷ rest) client = if nat_eq row.0 client then Some row.1 else seat_in rest client

-- the clock and state that are known so
abbrev pub standing_of_seat : Option Seat → Standing
standing_of_seat None = absent
standing_of_seat (Some seat) = record { clock = seat.clock; state = seat.state }

-- the rows with another seat for a client that has one
abbrev pub changed : ℕ → (Seat → Seat) → List Row → List Row
changed client change [] = []
changed client change (row ∷ rest) = if nat_eq row.0 client then (row.0, change row.1) ∷ rest else row ∷ changed client change rest

-- the rows without that of a client
abbrev pub without_row : ℕ → List Row → List Row
without_row client [] = []
without_row client (row ∷ rest) = if nat_eq row.0 client then rest else row ∷ without_row client rest

-- the seat without its state
abbrev pub emptied_seat : Seat → Seat
emptied_seat seat = record { clock = seat.clock; state = None; moment = seat.moment; source = seat.source }

-- the rows without the state of a client
abbrev pub ended_at : ℕ → List Row → List Row
ended_at client rows = changed client emptied_seat rows

-- a clock, where there is a state at it
abbrev pub clock_where_stated : Standing → Option ℕ
clock_where_stated standing = if is_some standing.state then Some standing.clock else None

-- when a client's clock and state were taken or set
abbrev pub moment_of_seat : Option Seat → ℕ
moment_of_seat None = 0
moment_of_seat (Some seat) = seat.moment

-- the seat, set again at a moment
abbrev pub renewed_seat : ℕ → Seat → Seat
renewed_seat now seat = record { clock = suc seat.clock; state = seat.state; moment = now; source = 0 }

-- the seat has a state, which was taken or set 15,000 ms or more before now
abbrev pub is_seat_due : ℕ → Seat → Bool
is_seat_due now seat = is_some seat.state && nat_le (seat.moment + 15000) now

-- the same of a client that may have none
abbrev pub is_due_of : ℕ → Option Seat → Bool
is_due_of now None = false
is_due_of now (Some seat) = is_seat_due now seat
