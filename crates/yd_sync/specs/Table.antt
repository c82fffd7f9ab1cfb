-- Who is there: of each client the clock and state that were last taken, and what entries, time and one's own state make of
-- it (y-protocols, awareness; the rule for one's own client and what is answered are own).
use Rattle.std.specs.Prelude.{◌≡◌, ℕ, suc, ◌+◌, ◌-◌, ◌^◌, Bool, true, false, ◌&&◌, not, List, [], ◌∷◌, ◌++◌, Option, Some, None, is_some, is_none, if◌then◌else◌, nat_eq, nat_lt, nat_le}
use Rattle.yd_words.specs.Each.{Each}
use Rattle.yd_ids.specs.declared.id.Client.{Client}
use Rattle.yd_sync.specs.declared.entry.AwareEntry.{AwareEntry}
use Rattle.yd_sync.specs.declared.seat.Seat.{Seat}
use Rattle.yd_sync.specs.Standing.{Standing, absent, is_newer, standing_of_entry}

-- ---- the table

-- a client's number, and what is known of it
abbrev pub Row : Type 0
Row = ℕ × Seat

-- clients ascend
abbrev pub AreRows : List Row → Type 0
AreRows [] = Unit {0}
AreRows (row ∷ rest) = Each (λ later. nat_lt row.0 later.0 ≡ true) rest × AreRows rest

-- the clock and state of a client
abbrev pub standing_in : List Row → ℕ → Standing
standing_in [] client = absent
standing_in (row ∷ rest) client = if nat_eq row.0 client then record { clock = row.1.clock; state = row.1.state } else standing_in rest client

-- when a client's clock and state were taken or set
abbrev pub moment_in : List Row → ℕ → ℕ
moment_in [] client = 0
moment_in (row ∷ rest) client = if nat_eq row.0 client then row.1.moment else moment_in rest client

-- the table with a row in its place
abbrev pub seated : Row → List Row → List Row
seated row [] = row ∷ []
seated row (first ∷ rest) =
    if nat_lt row.0 first.0 then row ∷ first ∷ rest
    else if nat_eq row.0 first.0 then row ∷ rest
    else first ∷ seated row rest

-- the table with another clock for a client that is in it
abbrev pub raised : ℕ → ℕ → List Row → List Row
raised client clock [] = []
raised client clock (row ∷ rest) = if nat_eq row.0 client then (row.0, record row.1 { clock = clock }) ∷ rest else row ∷ raised client clock rest

-- ---- entries that come

-- the client is one's own
abbrev pub is_own : Option Client → ℕ → Bool
is_own None client = false
is_own (Some own) client = nat_eq own.0 client

-- an entry would end one's own state
abbrev pub ends_own : Option Client → List Row → AwareEntry → Bool
ends_own own table e = is_own own e.client.0 && (is_none e.state && is_some (standing_in table e.client.0).state)

-- an entry is newer than what the table has
abbrev pub is_newer_in : List Row → AwareEntry → Bool
is_newer_in table e = is_newer (standing_in table e.client.0) (standing_of_entry e)

-- an entry is taken
abbrev pub is_taken : Option Client → List Row → AwareEntry → Bool
is_taken own table e = is_newer_in table e && not (ends_own own table e)

-- the row that an entry makes which came at a moment from a source
abbrev pub row_of : ℕ → ℕ → AwareEntry → Row
row_of now source e = (e.client.0, record { clock = e.clock; state = e.state; moment = now; source = source })

-- the table after an entry that came at a moment from a source; one that would end one's own state raises the own clock
-- above it, as far as clocks go
abbrev pub after_entry : Option Client → ℕ → ℕ → AwareEntry → List Row → List Row
after_entry own now source e table =
    if is_newer_in table e
    then (if ends_own own table e
    then (if nat_lt e.clock (2 ^ 53 - 1) then raised e.client.0 (suc e.clock) table else table)
    else seated (row_of now source e) table)
    else table

-- the table after more of them, one after another
abbrev pub after_entries : Option Client → ℕ → ℕ → List AwareEntry → List Row → List Row
after_entries own now source [] table = table
after_entries own now source (e ∷ es) table = after_entries own now source es (after_entry own now source e table)

-- the entry, where it is to be answered
abbrev pub where_so : Bool → AwareEntry → List AwareEntry
where_so true e = e ∷ []
where_so false e = []

-- the entries that are taken, in their order
abbrev pub taken_of : Option Client → ℕ → ℕ → List AwareEntry → List Row → List AwareEntry
taken_of own now source [] table = []
taken_of own now source (e ∷ es) table = where_so (is_taken own table e) e ++ taken_of own now source es (after_entry own now source e table)

-- ---- states that end

-- the row without its state
abbrev pub emptied : Row → Row
emptied row = (row.0, record row.1 { state = None })

-- the table without the states that pass a test
abbrev pub without_states : (Row → Bool) → List Row → List Row
without_states test [] = []
without_states test (row ∷ rest) = (if test row then emptied row else row) ∷ without_states test rest

-- the entry of a row, and the one that tells that its state ended
abbrev pub entry_of : Row → AwareEntry
entry_of row = record { client = record { 0 = row.0 }; clock = row.1.clock; state = row.1.state }

-- the entries that tell which states ended, clients ascending
abbrev pub ended_of : (Row → Bool) → List Row → List AwareEntry
ended_of test [] = []
ended_of test (row ∷ rest) = where_so (test row) (entry_of (emptied row)) ++ ended_of test rest

-- a state of another that was last taken 30,000 ms or more before now
abbrev pub is_old : Option Client → ℕ → Row → Bool
is_old own now row = not (is_own own row.0) && (is_some row.1.state && nat_le (row.1.moment + 30000) now)

-- a state that was last taken from a source
abbrev pub is_from : ℕ → Row → Bool
is_from source row = nat_eq row.1.source source && is_some row.1.state

-- the state of a client
abbrev pub is_of : ℕ → Row → Bool
is_of client row = nat_eq row.0 client && is_some row.1.state

-- all states, clients ascending
abbrev pub states_of : List Row → List AwareEntry
states_of [] = []
states_of (row ∷ rest) = where_so (is_some row.1.state) (entry_of row) ++ states_of rest

-- ---- one's own state

-- the table after one's own state was set at a moment
abbrev pub after_local : Client → Option (List ℕ) → ℕ → List Row → List Row
after_local own state now table = seated (own.0, record { clock = suc (standing_in table own.0).clock; state = state; moment = now; source = 0 }) table

-- the own entry, where there is an own client
abbrev pub own_entry : Option Client → List Row → List AwareEntry
own_entry None table = []
own_entry (Some own) table = record { client = own; clock = (standing_in table own.0).clock; state = (standing_in table own.0).state } ∷ []

-- one's own state is there, and was set 15,000 ms or more before now
abbrev pub is_due : Option Client → ℕ → List Row → Bool
is_due None now table = false
is_due (Some own) now table = is_some (standing_in table own.0).state && nat_le (moment_in table own.0 + 15000) now
