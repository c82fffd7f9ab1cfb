-- The laws of sends that fail, and of the loops of server and client, as statements. How bytes are read, messages written and closes explained is any function.
use Rattle.std.specs.Prelude.{◌≡◌, ◌≤◌, ◌↔◌, ℕ, Bool, false, List, [], ◌∷◌, ◌++◌}
use Rattle.yd_words.specs.Each.{Each}
use Rattle.yd_ops.specs.Received.{received_more}
use Rattle.yd_sync.specs.declared.fault.MessageFault.{MessageFault}
use Rattle.yd_sync.specs.Message.{MessageValue}
use Rattle.yd_hub.specs.declared.action.CloseCause.{CloseCause}
use Rattle.yd_hub.specs.Actions.{ActionValue, IsOrder}
use Rattle.yd_hub.specs.Answers.{AreAnswersOf, TellsNews}
use Rattle.yd_hub.specs.Hub.{HubState, hub_after, hub_after_all, updates_taken}
use Rattle.yd_hub.specs.HubLaw.{Reading}
use Rattle.yd_hub.specs.Peer.{PeerState, has_heard, is_step2, peer_after_all}
use Rattle.yd_hub.specs.Carrying.{EndsOnce, IsEndedIn, Settled, carried, carried_out, flags_of}
use Rattle.yd_hub.specs.Serving.{AreAnswered, Turn, events_of_turn, events_served, hub_served, told_served, turn_after}
use Rattle.yd_hub.specs.Syncing.{done, messages_in, refused, status_of, synced}

-- how messages are written
abbrev pub Writing : Type 0
Writing = MessageValue → List ℕ

-- why sessions are closed
abbrev pub Reasons : Type 0
Reasons = CloseCause → List ℕ

-- ---- sends that fail

-- all that comes of what the hub ordered: its received set stays; each session whose send failed got its Closed; each session
-- is closed at most once, at once where its send failed, and nothing is for it afterwards; and it is not open at the end
pub record IsCarriedOut (hub : HubState) (result : Settled) : Type 0 where
  pub received : result.hub.received ≡ hub.received
  pub failed : result.outcome.failed ≡ []
  pub once : EndsOnce result.outcome.told
  pub ended : Each (IsEndedIn result.hub.sessions) result.outcome.told

-- so it is, where there is at most one close, and sends to open sessions
abbrev pub ActionsAreCarriedOut : Type 0
ActionsAreCarriedOut = (write : Writing) (reason : Reasons) (hub : HubState)
    (actions : List ActionValue) (fails : List Bool) → IsOrder hub.sessions actions →
    IsCarriedOut hub (carried_out write reason hub actions fails)

-- what the board was told says all of it: with these outcomes of the sends, and whatever outcomes behind them, it comes out the
-- same; and actions may be carried out in two parts
pub record ToldSaysAll : Type 0 where
  pub carried_again : (write : Writing) (reason : Reasons) (actions : List ActionValue) (failed : List ℕ) (fails more : List Bool) →
      carried write reason actions failed (flags_of (carried write reason actions failed fails).told ++ more) ≡ record (carried write reason actions failed fails) { fails = more }
  pub in_parts : (write : Writing) (reason : Reasons) (actions others : List ActionValue) (failed : List ℕ) (fails : List Bool) →
      carried write reason (actions ++ others) failed fails ≡ (let first = carried write reason actions failed fails in let second = carried write reason others first.failed first.fails in
      record { told = first.told ++ second.told; failed = second.failed; fails = second.fails })
  pub again : (write : Writing) (reason : Reasons) (hub : HubState) (actions : List ActionValue) (fails more : List Bool) →
      carried_out write reason hub actions (flags_of (carried_out write reason hub actions fails).outcome.told ++ more)
      ≡ record (carried_out write reason hub actions fails) { outcome = record ((carried_out write reason hub actions fails).outcome) { fails = more } }

-- ---- loops

-- a hub that serves is where the list of its events leaves it: those of the board, and Closed of the sessions that failed, each
-- behind the event in which it failed
pub record ServingIsARun : Type 0 where
  pub state : (read : Reading) (write : Writing) (reason : Reasons) (hub : HubState)
      (turns : List Turn) → hub_served read write reason hub turns
      ≡ hub_after_all read hub (events_served read write reason hub turns)
  pub received : (read : Reading) (write : Writing) (reason : Reasons) (hub : HubState)
      (turns : List Turn) → (hub_served read write reason hub turns).received
      ≡ received_more hub.received
      (updates_taken read hub (events_served read write reason hub turns))
  pub turn : (read : Reading) (write : Writing) (reason : Reasons) (hub : HubState) (turn : Turn) →
      IsCarriedOut (hub_after read hub turn.event) (turn_after read write reason hub turn)

-- a peer that comes in step is where the list of its events leaves it, and takes at most so many events of the board
pub record SyncIsARun : Type 0 where
  pub state : (read : Reading) (write : Writing) (turns count : ℕ) (peer : PeerState) (told : List Turn) →
      (synced read write turns count peer told).peer ≡ peer_after_all read peer (synced read write turns count peer told).events
  pub taken : (read : Reading) (write : Writing) (turns count : ℕ) (peer : PeerState) (told : List Turn) → (synced read write turns count peer told).taken ≤ turns

-- status 8 comes just where the loop ended otherwise than at a refused message or a failed board, and no step 2 was among the
-- messages received; and a refused message is named by how many were received
pub record SyncStatus : Type 0 where
  pub eight : (read : Reading) (write : Writing) (turns : ℕ) (peer : PeerState) (told : List Turn) → peer.taken_step2 ≡ false →
      status_of (synced read write turns 0 peer told) ≡ 8
      ↔ ((synced read write turns 0 peer told).ending ≡ done) × (has_heard is_step2 read (synced read write turns 0 peer told).events ≡ false)
  pub number : (read : Reading) (write : Writing) (turns : ℕ) (peer : PeerState) (told : List Turn) (count : ℕ) (fault : MessageFault) →
      (synced read write turns 0 peer told).ending ≡ refused count fault → count ≡ messages_in (synced read write turns 0 peer told).events

-- one turn more, as a loop makes it
pub record ServingGoesOn : Type 0 where
  pub hub : (read : Reading) (write : Writing) (reason : Reasons) (old : HubState) (turns : List Turn) (turn : Turn) →
      hub_served read write reason old (turns ++ turn ∷ []) ≡ (turn_after read write reason (hub_served read write reason old turns) turn).hub
  pub events : (read : Reading) (write : Writing) (reason : Reasons) (old : HubState) (turns : List Turn) (turn : Turn) →
      events_served read write reason old (turns ++ turn ∷ []) ≡ events_served read write reason old turns ++ events_of_turn read write reason (hub_served read write reason old turns) turn
  pub told : (read : Reading) (write : Writing) (reason : Reasons) (old : HubState) (turns : List Turn) (turn : Turn) →
      told_served read write reason old (turns ++ turn ∷ []) ≡ told_served read write reason old turns ++ (turn_after read write reason (hub_served read write reason old turns) turn).outcome.told
  pub answered : (read : Reading) (write : Writing) (reason : Reasons) (old : HubState) (turns : List Turn) (turn : Turn) → AreAnswered read write reason old turns →
      AreAnswersOf (hub_served read write reason old turns).received turn.answers → TellsNews (hub_served read write reason old turns).received turn.answers →
      AreAnswered read write reason old (turns ++ turn ∷ [])
