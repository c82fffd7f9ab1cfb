-- Two entries of one client, and what remains of both (y-protocols, awareness: the greater clock stands, and no state wins at one clock).
use Rattle.std.specs.Prelude.{◌≡◌, ℕ, Bool, ◌&&◌, ◌||◌, List, [], ◌∷◌, Option, Some, None, is_some, is_none, if◌then◌else◌, nat_eq, nat_lt}
use Rattle.yd_sync.specs.declared.entry.AwareEntry.{AwareEntry}

-- a clock, and the text of a state where there is one
pub record Standing : Type 0 where
  pub clock : ℕ
  pub state : Option (List ℕ)

-- a client that nothing was heard of
abbrev pub absent : Standing
absent = record { clock = 0; state = None }

-- an entry, as it stands for its client
abbrev pub standing_of_entry : AwareEntry → Standing
standing_of_entry e = record { clock = e.clock; state = e.state }

-- the other takes the place of what is held: its clock is greater, or it ends a state at its clock
abbrev pub is_newer : Standing → Standing → Bool
is_newer held other = nat_lt held.clock other.clock || (nat_eq held.clock other.clock && (is_none other.state && is_some held.state))

-- what remains of both
abbrev pub join : Standing → Standing → Standing
join held other = if is_newer held other then other else held

-- what remains of more, one after another
abbrev pub join_all : Standing → List Standing → Standing
join_all held [] = held
join_all held (other ∷ others) = join_all (join held other) others

-- the two have not one clock and two states
abbrev pub AgreeOn : Standing → Standing → Type 0
AgreeOn a b = (s t : List ℕ) → a.clock ≡ b.clock → a.state ≡ Some s → b.state ≡ Some t → s ≡ t

-- the clocks and states that entries have of a client
abbrev pub standings : ℕ → List AwareEntry → List Standing
standings client [] = []
standings client (e ∷ es) = if nat_eq e.client.0 client then standing_of_entry e ∷ standings client es else standings client es
