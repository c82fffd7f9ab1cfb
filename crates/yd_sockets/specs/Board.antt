-- What is known of a board over sockets, and what its calls do to it (own).
use Rattle.std.specs.Prelude.{◌≡◌, ◌≤◌, ◌+◌, ◌==◌, ◌⊎◌, ℕ, Bool, true, false, List, [], ◌∷◌, ◌++◌, Result, Ok, Err, Some, slice_get}
use Rattle.std.specs.List.{count_by, remove}
use Rattle.yd_world.specs.declared.board.Way.{Way}
use Rattle.yd_world.specs.declared.board.Way.TheVariants.{Listen, Call}
use Rattle.yd_world.specs.declared.event.Event.{Event}
use Rattle.yd_world.specs.declared.event.What.{What}
use Rattle.yd_world.specs.declared.event.What.TheVariants.{Opened, Received, Closed, Idle}
use Rattle.yd_world.specs.declared.fault.Outage.{Outage}
use Rattle.yd_world.specs.declared.fault.Outage.TheVariants.{NoMemory, Failed}
use Rattle.yd_world.specs.Plan.{one_more}
use Rattle.yd_sockets.specs.Address.{NamesLocal}
use Rattle.yd_sockets.specs.Numbers.{IsNowhere, IsOpen}

-- whether it was started, the number of its next session, the open ones as they came, the moment
-- of its last event, the faults of `start` and `next`, and to whom sends failed
pub record BoardState : Type 0 where
  pub is_started : Bool
  pub next_session : ℕ
  pub sessions : List ℕ
  pub moment : ℕ
  pub faults : ℕ
  pub failed_sends : List ℕ

-- it was not started, and nothing happened
abbrev pub not_started : BoardState
not_started = record { is_started = false; next_session = 0; sessions = []; moment = 0; faults = 0; failed_sends = [] }

-- a server's sessions are numbered from 1, and that of a client is 0
abbrev pub first_session : Way → ℕ
first_session Listen = 1
first_session Call = 0

-- how many of the sends that failed went to the session
abbrev pub failures_to : List ℕ → ℕ → ℕ
failures_to failed session = count_by (λ to. to == session) failed

-- it starts for the first time, at an address of this machine
abbrev pub Starts : BoardState → BoardState → List ℕ → Way → Type 0
Starts old new text way = (old.is_started ≡ false) × NamesLocal text
    × (new ≡ record old { is_started = true; next_session = first_session way })

-- an open session is open no more, and all others stay
abbrev pub Ends : ℕ → BoardState → BoardState → Type 0
Ends session old new = (at : ℕ) × (slice_get old.sessions at ≡ Some session)
    × (new ≡ record old { sessions = remove old.sessions at })

-- a new session gets the next number; what is received or closed is of an open session
abbrev pub Happens : BoardState → BoardState → What → Type 0
Happens old new (Opened session) = (session.0 ≡ old.next_session)
    × (new ≡ record old { next_session = old.next_session + 1; sessions = old.sessions ++ session.0 ∷ [] })
Happens old new (Received session bytes) = IsOpen session.0 old.sessions × (new ≡ old)
Happens old new (Closed session) = Ends session.0 old new
Happens old new Idle = new ≡ old

-- what happens comes at a moment that is not before the last one
abbrev pub HappensAt : BoardState → BoardState → Event → Type 0
HappensAt old new event = (old.moment ≤ event.now)
    × Happens (record old { moment = event.now }) new event.what

-- one fault more where the call failed, and nothing else; want of memory leaves all as it was
abbrev pub CountsFault : {X : Type 0} → BoardState → BoardState → Result X Outage → Type 0
CountsFault old new (Ok x) = new.faults ≡ old.faults
CountsFault old new (Err Failed) = new ≡ record old { faults = one_more old.faults }
CountsFault old new (Err NoMemory) = new ≡ old

-- a send that failed is noted, and changes nothing else
abbrev pub NotesSend : {X : Type 0} → BoardState → BoardState → ℕ → Result X Outage → Type 0
NotesSend old new to (Ok x) = new ≡ old
NotesSend old new to (Err Failed) = new ≡ record old { failed_sends = old.failed_sends ++ to ∷ [] }
NotesSend old new to (Err NoMemory) = new ≡ old

-- an open session is open no more, and one that is not open changes nothing
abbrev pub ClosesSession : BoardState → BoardState → ℕ → Type 0
ClosesSession old new to = (IsNowhere to old.sessions × (new ≡ old)) ⊎ Ends to old new
