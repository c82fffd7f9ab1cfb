-- What waits of a client, entry by entry.
use Rattle.std.specs.Prelude.{◌≡◌, ℕ, Bool, ◌&&◌, ◌||◌, not, List, [], ◌∷◌, Option, Some, None, nat_eq, nat_lt, if◌then◌else◌}
use Rattle.yd_entries.specs.declared.entry.Entry.{Entry}
use Rattle.yd_entries.specs.Entries.{is_held}

-- the clock of the first of the client's entries that waits; entries come in the order of writing
abbrev pub first_clock : ℕ → List Entry → Option ℕ
first_clock client [] = None
first_clock client (t ∷ ts) = if nat_eq t.id.client.0 client && not (is_held t) then Some t.id.clock else first_clock client ts

-- whether an entry is of a greater client, or of the client and begins below a clock
abbrev pub is_passed : ℕ → ℕ → Entry → Bool
is_passed client reached t = nat_lt client t.id.client.0 || (nat_eq t.id.client.0 client && nat_lt t.id.clock reached)

-- the clock of an entry, if there is one and it is the client's
abbrev pub clock_if_of : ℕ → Option Entry → Option ℕ
clock_if_of client None = None
clock_if_of client (Some t) = if nat_eq t.id.client.0 client then Some t.id.clock else None

-- if the entry is the client's, it is held where it begins below a clock, and waits else
abbrev pub IsHeldBelow : ℕ → ℕ → Entry → Type 0
IsHeldBelow client reached t = t.id.client.0 ≡ client → is_held t ≡ nat_lt t.id.clock reached
