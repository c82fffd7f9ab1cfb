-- The past of units that were taken, as a vector: of each client the clock up to which its ids are of the past (own).
use Rattle.std.specs.Prelude.{◌≡◌, ◌⊎◌, ◌<◌, ℕ, ◌≤◌, Bool, true, false, ◌&&◌, ◌||◌, nat_eq, nat_lt, List, [], ◌++◌, Some, slice_get, length}
use Rattle.std.proofs.Math.ListN.{get_or}
use Rattle.yd_words.specs.Member.{IsIn}
use Rattle.yd_ids.specs.declared.id.Client.{Client}
use Rattle.yd_ids.specs.declared.id.Id.{Id}
use Rattle.yd_meaning.specs.Held.{held_set, id_before, given, item_carried}
use Rattle.yd_meaning.specs.Order.{IsPast}
use Rattle.yd_entries.specs.declared.entry.Entry.{Entry}
use Rattle.yd_entries.specs.Entries.{carried_of, covers, is_held}
use Rattle.yd_received.specs.Received.{ReceivedValue, IsReceived, taken_of, held_of, is_below}

-- all that can be held of what was received is held
pub record IsHeldWhole (r : ReceivedValue) : Type 0 where
  pub in_order : IsReceived r
  pub held : held_of r ≡ held_set (taken_of r)

-- what the first of the units needs
abbrev pub entry_needs : ReceivedValue → Entry → List Id
entry_needs r t = id_before t.id.client t.id.clock ++ (given t.left ++ (given t.right ++ given (item_carried (carried_of r.runs t))))

-- ---- vectors of pasts

-- clocks of clients
abbrev pub Clocks : Type 0
Clocks = List (Client × ℕ)

-- what is below the clocks is of the past of the first of the units
abbrev pub OnlyPast : ReceivedValue → Entry → Clocks → Type 0
OnlyPast r t clocks = (y : Id) → is_below clocks y ≡ true → IsPast (held_of r) t.id y

-- so it is of all units that are held, where each entry has its clocks
pub record AreSound (r : ReceivedValue) (pasts : List Clocks) : Type 0 where
  pub size : length pasts ≡ length r.entries
  pub each : (at : ℕ) (t : Entry) → slice_get r.entries at ≡ Some t → is_held t ≡ true → OnlyPast r t (get_or pasts at [])

-- the id is below the clocks, and so is what is below the clocks of the units that it is one of
pub record FindsNeed (r : ReceivedValue) (pasts : List Clocks) (need : Id) (clocks : Clocks) : Type 0 where
  pub at : ℕ
  pub entry : Entry
  pub there : slice_get r.entries at ≡ Some entry
  pub covers_it : covers entry need ≡ true
  pub need_below : is_below clocks need ≡ true
  pub past_below : (y : Id) → is_below (get_or pasts at []) y ≡ true → is_below clocks y ≡ true

-- so it is of all that the first of the units needs
abbrev pub IsClosed : ReceivedValue → List Clocks → Entry → Clocks → Type 0
IsClosed r pasts t clocks = (z : Id) → IsIn z (entry_needs r t) → FindsNeed r pasts z clocks

-- and of all units that are held
abbrev pub AreClosed : ReceivedValue → List Clocks → Type 0
AreClosed r pasts = (at : ℕ) (t : Entry) → slice_get r.entries at ≡ Some t → is_held t ≡ true → IsClosed r pasts t (get_or pasts at [])

-- the clocks of each entry have the past of the first of its units, and no more
pub record ArePasts (r : ReceivedValue) (pasts : List Clocks) : Type 0 where
  pub sound : AreSound r pasts
  pub closed : AreClosed r pasts

-- ---- steps

-- clocks were raised, so that nothing is below them no more
abbrev pub Grows : Clocks → Clocks → Type 0
Grows old new = (y : Id) → is_below old y ≡ true → is_below new y ≡ true

-- a client's clock was raised up to this one, and no other; where it says so, nothing changed
pub record RaisesTo (client clock : ℕ) (old new : Clocks) (grew : Bool) : Type 0 where
  pub grows : Grows old new
  pub raised : (y : Id) → y.client.0 ≡ client → y.clock < clock → is_below new y ≡ true
  pub only : (y : Id) → is_below new y ≡ true → (is_below old y ≡ true) ⊎ ((y.client.0 ≡ client) × (y.clock < clock))
  pub same : grew ≡ false → new ≡ old

-- clocks were joined to others
pub record Joins (other old new : Clocks) (grew : Bool) : Type 0 where
  pub grows : Grows old new
  pub joined : Grows other new
  pub only : (y : Id) → is_below new y ≡ true → (is_below old y ≡ true) ⊎ (is_below other y ≡ true)
  pub same : grew ≡ false → new ≡ old

-- what is new is the id, a smaller clock of its client, or below the clocks of the units that it is one of
pub record NotesNeed (r : ReceivedValue) (pasts : List Clocks) (need : Id) (old new : Clocks) (grew : Bool) : Type 0 where
  pub grows : Grows old new
  pub found : FindsNeed r pasts need new
  pub only : (y : Id) → is_below new y ≡ true →
      (is_below old y ≡ true) ⊎ (((y.client.0 ≡ need.client.0) × (y.clock ≤ need.clock)) ⊎ (is_below (get_or pasts found.at []) y ≡ true))
  pub same : grew ≡ false → new ≡ old

-- the clocks of units got what is of their past of what some ids need, of those that they need
pub record NotesNeeds (r : ReceivedValue) (pasts : List Clocks) (t : Entry) (needs : List Id) (old new : Clocks) (grew : Bool) : Type 0 where
  pub grows : Grows old new
  pub found : (z : Id) → IsIn z needs → FindsNeed r pasts z new
  pub only : OnlyPast r t new
  pub same : grew ≡ false → new ≡ old

-- the entries before a place were passed: where nothing changed, they are closed
pub record IsPassed (r : ReceivedValue) (pasts : List Clocks) (count : ℕ) (grew : Bool) : Type 0 where
  pub sound : AreSound r pasts
  pub closed : grew ≡ false → (at : ℕ) (t : Entry) → at < count → slice_get r.entries at ≡ Some t → is_held t ≡ true → IsClosed r pasts t (get_or pasts at [])

-- one entry was passed: where nothing changed, it is closed
pub record PassesEntry (r : ReceivedValue) (old new : List Clocks) (at : ℕ) (grew : Bool) : Type 0 where
  pub sound : AreSound r new
  pub same : grew ≡ false → new ≡ old
  pub closed : grew ≡ false → (t : Entry) → slice_get r.entries at ≡ Some t → is_held t ≡ true → IsClosed r new t (get_or new at [])

-- whether an id is told to be of the past of a unit, by the clocks of its entry: it is below them, or a smaller clock of the
-- unit's client
abbrev pub is_told : Clocks → Id → Id → Bool
is_told clocks x y = is_below clocks y || (nat_eq y.client.0 x.client.0 && nat_lt y.clock x.clock)
