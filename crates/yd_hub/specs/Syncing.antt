-- The loop of a client that comes in step with a hub once, over what a board tells (own).
use Rattle.std.specs.Prelude.{◌≡◌, ℕ, zero, suc, Bool, true, false, ◌&&◌, List, [], ◌∷◌, ◌++◌, map, length, Result, Ok, Err, if◌then◌else◌, nat_eq}
use Rattle.yd_world.specs.declared.board.Sent.{Sent}
use Rattle.yd_world.specs.declared.board.Sent.TheVariants.{Message as Told}
use Rattle.yd_world.specs.declared.event.What.{What}
use Rattle.yd_world.specs.declared.event.What.TheVariants.{Opened, Received as Heard, Closed, Idle}
use Rattle.yd_world.specs.Traffic.{Traffic}
use Rattle.yd_sync.specs.declared.fault.MessageFault.{MessageFault}
use Rattle.yd_sync.specs.Message.{MessageValue}
use Rattle.yd_hub.specs.Answers.{AreAnswersOf, TellsNews}
use Rattle.yd_hub.specs.Peer.{PeerEventValue, PeerState, Refusal, bad, clock_full, edited, opened, peer_after, peer_answer, received, stated, tick}
use Rattle.yd_hub.specs.Carrying.{later_fails, next_fails}
use Rattle.yd_hub.specs.Serving.{Turn}

-- what came of messages to session 0
pub record Said : Type 0 where
  pub told : List Sent
  pub failed : Bool

-- the event that a peer gets, if it is of session 0 and no close; and whether it is the close
pub data PeerTurn : Type 0 where
  of_other : PeerTurn
  of_close : PeerTurn
  of_event : PeerEventValue → PeerTurn

-- what the peer gets of what happened
abbrev pub peer_turn : ℕ → What → PeerTurn
peer_turn now (Opened s) = if nat_eq s.0 0 then of_event (opened now) else of_other
peer_turn now (Heard s bytes) = if nat_eq s.0 0 then of_event (received bytes now) else of_other
peer_turn now (Closed s) = if nat_eq s.0 0 then of_close else of_other
peer_turn now Idle = of_event (tick now)

-- why the loop ended: it came in step, or its session or its turns ended; a message was refused; or the board failed
pub data Ending : Type 0 where
  done : Ending
  refused : ℕ → MessageFault → Ending
  no_link : Ending

-- what came of the loop: the peer, the events that it got, how many the board told, what the board was told, and the ending
pub record Synced : Type 0 where
  pub peer : PeerState
  pub events : List PeerEventValue
  pub taken : ℕ
  pub told : List Sent
  pub ending : Ending

-- the loop ended before another event
abbrev pub ended : PeerState → Ending → Synced
ended peer ending = record { peer = peer; events = []; taken = 0; told = []; ending = ending }

-- before it one more event was taken, which the peer got or not
abbrev pub behind : List PeerEventValue → List Sent → Synced → Synced
behind events told synced = record { peer = synced.peer; events = events ++ synced.events; taken = suc synced.taken; told = told ++ synced.told; ending = synced.ending }

-- a step 2 was applied and a step 1 answered
abbrev pub is_in_step : PeerState → Bool
is_in_step peer = peer.taken_step2 && peer.answered_step1

-- one message more was received
abbrev pub counted : PeerEventValue → ℕ → ℕ
counted (opened now) count = count
counted (received bytes now) count = suc count
counted (tick now) count = count
counted (edited update) count = count
counted (stated state now) count = count

-- how many messages were received
abbrev pub messages_in : List PeerEventValue → ℕ
messages_in [] = 0
messages_in (event ∷ events) = counted event (messages_in events)

-- the status that an ending gives
abbrev pub status_by : Ending → Bool → ℕ
status_by done true = 0
status_by done false = 8
status_by (refused count fault) taken_step2 = 1
status_by no_link taken_step2 = 6

-- and that of a loop
abbrev pub status_of : Synced → ℕ
status_of synced = status_by synced.ending synced.peer.taken_step2

-- how bytes are read, and how messages are written
module _ (read : List ℕ → Result MessageValue MessageFault) (write : MessageValue → List ℕ) where
  -- no more messages are sent after one that fails
  abbrev pub said : List MessageValue → List Bool → Said
  said [] fails = record { told = []; failed = false }
  said (message ∷ messages) fails =
      if next_fails fails then record { told = Told (record { 0 = 0 }) (write message) true ∷ []; failed = true }
      else (let later = said messages (later_fails fails) in record { told = Told (record { 0 = 0 }) (write message) false ∷ later.told; failed = later.failed })

  -- after a peer's event: a refused message ends the loop, and a failed send does as Closed
  abbrev pub event_done : ℕ → PeerState → PeerEventValue → Result (List MessageValue) Refusal → List Bool → (PeerState → Synced) → Synced
  event_done count peer event (Ok messages) fails rest =
      let sent = said messages fails in
      behind (event ∷ []) sent.told (if sent.failed then ended (peer_after read peer event) done else rest (peer_after read peer event))
  event_done count peer event (Err (bad fault)) fails rest = behind (event ∷ []) [] (ended (peer_after read peer event) (refused count fault))
  event_done count peer event (Err clock_full) fails rest = behind (event ∷ []) [] (rest (peer_after read peer event))

  -- one turn, and what comes after it
  abbrev pub turn_done : ℕ → PeerState → Turn → PeerTurn → (ℕ → PeerState → Synced) → Synced
  turn_done count peer turn of_other rest = behind [] [] (rest count peer)
  turn_done count peer turn of_close rest = behind [] [] (ended peer done)
  turn_done count peer turn (of_event event) rest = event_done (counted event count) peer event (peer_answer read turn.answers peer event) turn.fails (λ p. rest (counted event count) p)

  -- so many turns at most; the events are those that the board told, and where none is left it failed
  abbrev pub synced : ℕ → ℕ → PeerState → List Turn → Synced
  synced zero count peer turns = ended peer done
  synced (suc n) count peer [] = if is_in_step peer then ended peer done else ended peer no_link
  synced (suc n) count peer (turn ∷ turns) =
      if is_in_step peer then ended peer done
      else turn_done count peer turn (peer_turn turn.event.now turn.event.what) (λ k p. synced n k p turns)

  -- ---- over what a board tells

  -- what the peer is after a turn
  abbrev pub peer_after_turn : PeerState → PeerTurn → PeerState
  peer_after_turn peer of_other = peer
  peer_after_turn peer of_close = peer
  peer_after_turn peer (of_event event) = peer_after read peer event

  -- in each turn the answers are those of a replica that received what the peer has
  abbrev pub IsPeerAnswered : PeerState → List Turn → Type 0
  IsPeerAnswered peer [] = Unit {0}
  IsPeerAnswered peer (turn ∷ turns) = AreAnswersOf peer.received turn.answers × TellsNews peer.received turn.answers
      × IsPeerAnswered (peer_after_turn peer (peer_turn turn.event.now turn.event.what)) turns

  -- a board that tells led a peer to this: the turns are of just the events that it gave and the sends that failed; where the
  -- loop wanted one more, the board failed
  pub record HasSynced (turns : ℕ) (old new : Traffic) (peer : PeerState) (result : Synced) (told : List Turn) : Type 0 where
    pub coming : old.coming ≡ map (λ (turn : Turn). turn.event) told ++ new.coming
    pub sent : new.sent ≡ old.sent ++ result.told
    pub answered : IsPeerAnswered peer told
    pub is : result ≡ synced turns 0 peer told
    pub all_taken : result.taken ≡ length told
