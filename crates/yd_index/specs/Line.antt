-- The index of a client: entries that fill the clocks from 0 on, and what is found there (own).
use Rattle.std.specs.Prelude.{◌≡◌, ◌<◌, ℕ, nat_eq, nat_lt, List, [], ◌∷◌, Option, Some, None, if◌then◌else◌}
use Rattle.yd_index.specs.declared.line.Entry.{Entry}

-- whose entries they are, the entries, the clock behind the last run, and how many more cannot fail
pub record Lined : Type 0 where
  pub client : ℕ
  pub entries : List Entry
  pub next : ℕ
  pub room : ℕ

-- the clock where the first entry begins, or the next one where there is none
abbrev pub begin : List Entry → ℕ → ℕ
begin [] next = next
begin (e ∷ es) next = e.clock

-- the entries fill the clocks to the next one, without a gap
abbrev pub Fills : ℕ → List Entry → ℕ → Type 0
Fills clock [] next = clock ≡ next
Fills clock (e ∷ es) next = (e.clock ≡ clock) × (clock < begin es next) × Fills (begin es next) es next

-- the entry that a clock stands in
abbrev pub entry_in : List Entry → ℕ → ℕ → Option Entry
entry_in [] next clock = None
entry_in (e ∷ es) next clock = if nat_lt clock (begin es next) then Some e else entry_in es next clock

-- the entries with one more that begins at a clock
abbrev pub with_cut : List Entry → ℕ → ℕ → ℕ → List Entry
with_cut [] next clock place = []
with_cut (e ∷ es) next clock place =
    if nat_lt clock (begin es next) then e ∷ record { clock = clock; place = place } ∷ es
    else e ∷ with_cut es next clock place

-- the entries without the one that begins at a clock
abbrev pub without_cut : List Entry → ℕ → List Entry
without_cut [] clock = []
without_cut (e ∷ es) clock = if nat_eq e.clock clock then es else e ∷ without_cut es clock

-- the clock stands in an entry and is not its first
pub record IsInside (entries : List Entry) (next clock : ℕ) : Type 0 where
  pub entry : Entry
  pub found : entry_in entries next clock ≡ Some entry
  pub behind_first : entry.clock < clock

-- an entry begins at the clock, which is not the first of all
pub record Begins (entries : List Entry) (next clock : ℕ) : Type 0 where
  pub entry : Entry
  pub found : entry_in entries next clock ≡ Some entry
  pub begins : entry.clock ≡ clock
  pub later : 0 < clock

-- all but the room is as before
pub record IsSame (old new : Lined) : Type 0 where
  pub client : new.client ≡ old.client
  pub entries : new.entries ≡ old.entries
  pub next : new.next ≡ old.next
