-- The next units of clients: those at the clock up to which the client's units are held (own).
use Rattle.std.specs.Prelude.{◌≡◌, ◌-◌, ℕ, false, List, Some, length, slice_get}
use Rattle.yd_words.specs.Each.{Each}
use Rattle.yd_ids.specs.declared.id.Client.{Client}
use Rattle.yd_ids.specs.Vector.{clock_of}
use Rattle.yd_entries.specs.declared.entry.Entry.{Entry}
use Rattle.yd_entries.specs.Entries.{is_held}
use Rattle.yd_words.specs.Member.{IsIn}

-- the client stands last
abbrev pub StandsLast : Client → List Client → Type 0
StandsLast client clients = slice_get clients (length clients - 1) ≡ Some client

-- the client is among those that are to be tried, as are all that were
pub record Tries (client : Client) (old new : List Client) : Type 0 where
  pub here : IsIn client new
  pub stay : (other : Client) → IsIn other old → IsIn other new

-- the units are the client's next ones
pub record IsNext (vector : List (Client × ℕ)) (client : Client) (t : Entry) : Type 0 where
  pub of_client : t.id.client ≡ client
  pub at_clock : t.id.clock ≡ clock_of vector client.0

-- units at their client's clock wait
abbrev pub AreWaiting : List (Client × ℕ) → List Entry → Type 0
AreWaiting vector taken = Each (λ t. t.id.clock ≡ clock_of vector t.id.client.0 → is_held t ≡ false) taken
