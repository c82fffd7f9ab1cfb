-- Entries that become held one after another, and the clocks that are reached meanwhile; and what is held once less is told (own).
use Rattle.std.specs.Prelude.{◌≡◌, ◌⊎◌, ◌<◌, ◌≤◌, ◌+◌, ℕ, Bool, true, false, List, [], ◌∷◌, Some, slice_get, nat_eq, if◌then◌else◌}
use Rattle.yd_words.specs.Member.{IsIn}
use Rattle.yd_ids.specs.declared.id.Id.{Id}
use Rattle.yd_ids.specs.Vector.{clock_of}
use Rattle.yd_ops.specs.declared.runs.Run.{Run}
use Rattle.yd_ops.specs.Operation.{Operation, text_unit}
use Rattle.yd_meaning.specs.Held.{is_gone, is_lost}
use Rattle.yd_meaning.specs.Staying.{AreSeenAlike, StaysHeld}
use Rattle.yd_entries.specs.declared.entry.Entry.{Entry}
use Rattle.yd_entries.specs.Entries.{operations_of_taken, is_held, is_listed, covers, carried_of}
use Rattle.yd_entries.specs.Staying.{IsLess}
use Rattle.yd_received.specs.Received.{ReceivedValue, held_of, listed_of}
use Rattle.yd_held.specs.Held.{HeldValue}
use Rattle.yd_held.specs.Readiness.{IsOriginOf}

-- the clocks of clients, once the units of an entry are reached
abbrev pub clocks_with : Entry → (ℕ → ℕ) → ℕ → ℕ
clocks_with t clocks client = if nat_eq client t.id.client.0 then t.id.clock + t.len else clocks client

-- an entry that is held is the next one: it begins at its client's clock, and what it stands on is below the clocks
pub record IsNextHeld (runs : List Run) (clocks : ℕ → ℕ) (t : Entry) : Type 0 where
  pub held : is_held t ≡ true
  pub begins : t.id.clock ≡ clocks t.id.client.0
  pub origins : (x : Id) → IsOriginOf x t.left t.right (carried_of runs t) → x.clock < clocks x.client.0

-- the entries with these numbers are the next ones in turn, from some clocks up to others
abbrev pub AreHeldInTurn : List Run → List Entry → (ℕ → ℕ) → List ℕ → (ℕ → ℕ) → Type 0
AreHeldInTurn runs taken clocks [] after = (client : ℕ) → after client ≡ clocks client
AreHeldInTurn runs taken clocks (at ∷ order) after =
    (t : Entry) × (slice_get taken at ≡ Some t) × IsNextHeld runs clocks t × AreHeldInTurn runs taken (clocks_with t clocks) order after

-- what was held is held as it was, and from there on entries became held in turn
pub record HoldsInTurn (order : List ℕ) (old new : HeldValue) : Type 0 where
  pub stays : (o : Operation) → IsIn o (held_of old.received) → IsIn o (held_of new.received)
  pub turn : AreHeldInTurn new.received.runs new.received.entries (clock_of old.vector) order (clock_of new.vector)

-- ---- what is held once less is told

-- an operation as it is held after another one of its id: it is gone, or neither is and they differ in nothing but what they
-- hold; and U+FFFD stands for a text unit
pub record IsToldAs (o q : Operation) : Type 0 where
  pub id : q.id ≡ o.id
  pub alike : (is_gone q ≡ true) ⊎ ((is_gone o ≡ false) × (is_gone q ≡ false) × AreSeenAlike o q)
  pub text : q.content ≡ text_unit 0xFFFD → (unit : ℕ) × (o.content ≡ text_unit unit)

-- an entry with one of the numbers has the id
abbrev pub IsToldAnew : ReceivedValue → List ℕ → Id → Type 0
IsToldAnew r told x = (at : ℕ) × IsIn at told × (t : Entry) × (slice_get r.entries at ≡ Some t) × (covers t x ≡ true)

-- the entry with a number was held before, and is gone, or all of it is deleted or U+FFFD; where it is gone it is lost
pub record IsHeldLess (old new : HeldValue) (at : ℕ) : Type 0 where
  pub entry : Entry
  pub there : slice_get new.received.entries at ≡ Some entry
  pub held : is_held entry ≡ true
  pub was : entry.id.clock + entry.len ≤ clock_of old.vector entry.id.client.0
  pub less : (q : Operation) → IsIn q (operations_of_taken new.received.runs entry) → (is_gone q ≡ true) ⊎ IsLess q
  pub lost : entry.is_gone ≡ true → is_listed entry ≡ false

-- what was held is held as it was or less, and where not as it was an entry with one of the first numbers has it; and from
-- there on entries with the other numbers became held in turn
pub record HoldsOn (told order : List ℕ) (old new : HeldValue) : Type 0 where
  pub stays : StaysHeld (held_of old.received) (held_of new.received)
  pub each : (o : Operation) → IsIn o (held_of old.received) →
      (q : Operation) × IsIn q (held_of new.received) × IsToldAs o q × ((q ≡ o) ⊎ IsToldAnew new.received told o.id)
  pub less : (at : ℕ) → IsIn at told → IsHeldLess old new at
  pub turn : AreHeldInTurn new.received.runs new.received.entries (clock_of old.vector) order (clock_of new.vector)

-- of which entries less is told, and in which order entries became held: those that were not; or, where all was held anew, of
-- none, and each
abbrev pub TellsOrder : Bool → List ℕ → List ℕ → HeldValue → HeldValue → Type 0
TellsOrder false told order old new = HoldsOn told order old new
TellsOrder true told order old new = (told ≡ []) × AreHeldInTurn new.received.runs new.received.entries (λ client. 0) order (clock_of new.vector)

-- a unit that was in a list is lost
pub record LosesOne (old new : HeldValue) : Type 0 where
  pub unit : Operation
  pub was : IsIn unit (listed_of old.received)
  pub lost : is_lost (held_of new.received) unit.id ≡ true
