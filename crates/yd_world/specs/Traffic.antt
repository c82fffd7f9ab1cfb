-- What a board tells: the events to come, and what was sent and closed (own).
use Rattle.std.specs.Prelude.{◌≡◌, ◌≢◌, ℕ, List, [], ◌∷◌, ◌++◌, true, false, Option, Some, None, Result, Ok, Err}
use Rattle.yd_world.specs.declared.fault.Outage.{Outage}
use Rattle.yd_world.specs.declared.fault.Outage.TheVariants.{NoMemory, Failed}
use Rattle.yd_world.specs.declared.event.Event.{Event}
use Rattle.yd_world.specs.declared.board.Sent.{Sent}
use Rattle.yd_world.specs.declared.board.Sent.TheVariants.{Message, Close}

-- a board as it is told
pub record Traffic : Type 0 where
  pub coming : List Event
  pub sent : List Sent

-- nothing of it changed
abbrev pub Keeps : Option Traffic → Option Traffic → Type 0
Keeps None new = Unit {0}
Keeps (Some old) None = ⊥
Keeps (Some old) (Some new) = new ≡ old

-- Ok takes the first of the events to come, and an error takes none
abbrev pub TakesEvent : {E : Type 0} → Option Traffic → Option Traffic → Result Event E → Type 0
TakesEvent None new result = Unit {0}
TakesEvent (Some old) None result = ⊥
TakesEvent (Some old) (Some new) (Ok event) = (old.coming ≡ event ∷ new.coming) × (new.sent ≡ old.sent)
TakesEvent (Some old) (Some new) (Err e) = new ≡ old

-- one more thing was sent or closed
abbrev pub Adds : Option Traffic → Option Traffic → Sent → Type 0
Adds None new sent = Unit {0}
Adds (Some old) None sent = ⊥
Adds (Some old) (Some new) sent = (new.coming ≡ old.coming) × (new.sent ≡ old.sent ++ sent ∷ [])

-- a send is told with whether it failed, and want of memory changes nothing
abbrev pub Sends : {X : Type 0} → Option Traffic → Option Traffic → ℕ → List ℕ → Result X Outage → Type 0
Sends old new to bytes (Ok x) = Adds old new (Message (record { 0 = to }) bytes false)
Sends old new to bytes (Err Failed) = Adds old new (Message (record { 0 = to }) bytes true)
Sends old new to bytes (Err NoMemory) = Keeps old new

-- the same of a close with its reason
abbrev pub Closes : {X E : Type 0} → Option Traffic → Option Traffic → ℕ → List ℕ → Result X E → Type 0
Closes old new to reason (Ok x) = Adds old new (Close (record { 0 = to }) reason)
Closes old new to reason (Err e) = Keeps old new

-- the board tells, and an event is to come
abbrev pub HasEvent : Option Traffic → Type 0
HasEvent None = ⊥
HasEvent (Some traffic) = traffic.coming ≢ []

-- the call did its work, or found no memory
abbrev pub IsNoFault : {X : Type 0} → Result X Outage → Type 0
IsNoFault (Ok x) = Unit {0}
IsNoFault (Err NoMemory) = Unit {0}
IsNoFault (Err Failed) = ⊥
