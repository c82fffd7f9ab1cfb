-- The lines of several clients (own).
use Rattle.std.specs.Prelude.{◌≡◌, ◌≢◌, ◌<◌, ◌≤◌, ◌+◌, ◌++◌, ℕ, suc, nat_eq, List, [], ◌∷◌, Option, Some, None, if◌then◌else◌, length, HoldsAt}
use Rattle.yd_ids.specs.declared.id.Id.{Id}
use Rattle.yd_index.specs.declared.line.Entry.{Entry}
use Rattle.yd_index.specs.Line.{Lined, entry_in, with_cut, without_cut}

-- the clients ascend from a number on
abbrev pub AreLines : ℕ → List Lined → Type 0
AreLines low [] = Unit {0}
AreLines low (line ∷ lines) = (low ≤ line.client) × AreLines (suc line.client) lines

-- the line is the client's
abbrev pub IsLineOf : ℕ → Lined → Type 0
IsLineOf client line = line.client ≡ client

-- the line is another client's
abbrev pub IsOther : ℕ → Lined → Type 0
IsOther client line = line.client ≢ client

-- the line of a client
abbrev pub line_of : List Lined → ℕ → Option Lined
line_of [] client = None
line_of (line ∷ lines) client = if nat_eq line.client client then Some line else line_of lines client

-- the entries of a client that may have no line
abbrev pub entries_in : Option Lined → List Entry
entries_in None = []
entries_in (Some line) = line.entries

-- its next clock
abbrev pub next_in : Option Lined → ℕ
next_in None = 0
next_in (Some line) = line.next

-- its room
abbrev pub room_in : Option Lined → ℕ
room_in None = 0
room_in (Some line) = line.room

-- the entries of a client, none where it has no line
abbrev pub entries_of : List Lined → ℕ → List Entry
entries_of lines client = entries_in (line_of lines client)

-- its next clock, 0 where it has no line
abbrev pub next_of : List Lined → ℕ → ℕ
next_of lines client = next_in (line_of lines client)

-- how many more of its entries cannot fail
abbrev pub room_of : List Lined → ℕ → ℕ
room_of lines client = room_in (line_of lines client)

-- the entry that an id stands in
abbrev pub entry_at : List Lined → Id → Option Entry
entry_at lines id = entry_in (entries_of lines id.client.0) (next_of lines id.client.0) id.clock

-- a client's entries and next clock become these, and those of all others are the old ones
pub record Changes (old new : List Lined) (client : ℕ) (entries : List Entry) (next : ℕ) : Type 0 where
  pub entries_are : entries_of new client ≡ entries
  pub next_is : next_of new client ≡ next
  pub other_entries : (k : ℕ) → k ≢ client → entries_of new k ≡ entries_of old k
  pub other_nexts : (k : ℕ) → k ≢ client → next_of new k ≡ next_of old k

-- a client's entries and next clock, and all others, are the old ones
abbrev pub Stays : List Lined → List Lined → ℕ → Type 0
Stays old new client = Changes old new client (entries_of old client) (next_of old client)

-- a client has a run more, at a place and of so many units
abbrev pub Adds : List Lined → List Lined → ℕ → ℕ → ℕ → Type 0
Adds old new client place len =
    Changes old new client (entries_of old client ++ record { clock = next_of old client; place = place } ∷ []) (next_of old client + len)

-- the run with an id is cut in front of it, and the second part has a place
abbrev pub Cuts : List Lined → List Lined → Id → ℕ → Type 0
Cuts old new id place =
    Changes old new id.client.0 (with_cut (entries_of old id.client.0) (next_of old id.client.0) id.clock place) (next_of old id.client.0)

-- the run with an id is one with the run before it again
abbrev pub Uncuts : List Lined → List Lined → Id → Type 0
Uncuts old new id = Changes old new id.client.0 (without_cut (entries_of old id.client.0) id.clock) (next_of old id.client.0)

-- a client's last entry is taken out, and the clock where it began is the next one
pub record Pops (old new : List Lined) (client : ℕ) (last : Entry) : Type 0 where
  pub entries_are : entries_of old client ≡ entries_of new client ++ last ∷ []
  pub next_is : next_of new client ≡ last.clock
  pub other_entries : (k : ℕ) → k ≢ client → entries_of new k ≡ entries_of old k
  pub other_nexts : (k : ℕ) → k ≢ client → next_of new k ≡ next_of old k

-- all entries and next clocks are the old ones, and there is no less room
pub record KeepsLines (old new : List Lined) : Type 0 where
  pub entries : (k : ℕ) → entries_of new k ≡ entries_of old k
  pub nexts : (k : ℕ) → next_of new k ≡ next_of old k
  pub rooms : (k : ℕ) → room_of old k ≤ room_of new k

-- the client's line stands at the place, and but for a line that was made all is as before
pub record IsSeat (old new : List Lined) (at client : ℕ) : Type 0 where
  pub kept : KeepsLines old new
  pub lines : AreLines 0 new
  pub inside : at < length new
  pub found : HoldsAt (IsLineOf client) new at
