-- A state vector: clients and the clocks that they have reached, in order of the clients (Yjs, state vector).
use Rattle.std.specs.Prelude.{◌≡◌, ◌≢◌, ℕ, max, ◌<◌, List, [], ◌∷◌, if◌then◌else◌, nat_eq, nat_lt}
use Rattle.yd_words.specs.Each.{Each}
use Rattle.yd_ids.specs.declared.id.Client.{Client}
use Rattle.yd_ids.specs.Id.{IsClient, IsClock}

-- the clock of a client, which is 0 for one that the vector does not have
abbrev pub clock_of : List (Client × ℕ) → ℕ → ℕ
clock_of [] client = 0
clock_of (entry ∷ rest) client = if nat_eq entry.0.0 client then entry.1 else clock_of rest client

-- clients ascend, and each has a clock above 0
abbrev pub IsVector : List (Client × ℕ) → Type 0
IsVector [] = Unit {0}
IsVector (entry ∷ rest) = IsClient entry.0 × (0 < entry.1) × IsClock entry.1 × Each (λ later. entry.0.0 < later.0.0) rest × IsVector rest

-- the entry's client and clock are below 2^53
pub record IsEntry (entry : Client × ℕ) : Type 0 where
  pub client : IsClient entry.0
  pub clock : IsClock entry.1

-- the entry is the client's
abbrev pub IsOf : ℕ → Client × ℕ → Type 0
IsOf client entry = entry.0.0 ≡ client

-- the entry is another's
abbrev pub IsOther : ℕ → Client × ℕ → Type 0
IsOther client entry = entry.0.0 ≢ client

-- the client's clock is the greater of both, and every other client keeps its clock
pub record RaisesOnly (old new : List (Client × ℕ)) (client clock : ℕ) : Type 0 where
  pub this_client : clock_of new client ≡ max (clock_of old client) clock
  pub other_clients : (other : ℕ) → other ≢ client → clock_of new other ≡ clock_of old other

-- the vector with a client's clock raised to this one, where clock 0 raises none
abbrev pub with_clock : Client × ℕ → List (Client × ℕ) → List (Client × ℕ)
with_clock entry [] = if nat_eq entry.1 0 then [] else entry ∷ []
with_clock entry (first ∷ rest) =
    if nat_eq entry.1 0 then first ∷ rest
    else if nat_lt entry.0.0 first.0.0 then entry ∷ first ∷ rest
    else if nat_eq entry.0.0 first.0.0 then (first.0, max first.1 entry.1) ∷ rest
    else first ∷ with_clock entry rest

-- the greater clocks of two vectors, one client after another
abbrev pub maximum_of : List (Client × ℕ) → List (Client × ℕ) → List (Client × ℕ)
maximum_of [] others = others
maximum_of (entry ∷ rest) others = maximum_of rest (with_clock entry others)

-- the vector of clients and clocks, which may come in any order and again, one entry after another
abbrev pub vector_of_entries : List (Client × ℕ) → List (Client × ℕ)
vector_of_entries [] = []
vector_of_entries (entry ∷ rest) = with_clock entry (vector_of_entries rest)

-- the greatest clock that entries have of a client, or 0
abbrev pub greatest_clock : List (Client × ℕ) → ℕ → ℕ
greatest_clock [] client = 0
greatest_clock (entry ∷ rest) client = if nat_eq entry.0.0 client then max entry.1 (greatest_clock rest client) else greatest_clock rest client

-- the vector has the greatest clock of each client
abbrev pub HasGreatest : List (Client × ℕ) → List (Client × ℕ) → Type 0
HasGreatest vector entries = (client : ℕ) → clock_of vector client ≡ greatest_clock entries client
