-- What a step of a hub does.
use Rattle.std.specs.Prelude.{◌≡◌, ℕ, List, [], ◌∷◌}
use Rattle.yd_ids.specs.declared.id.Client.{Client}
use Rattle.yd_ops.specs.Value.{UpdateValue}
use Rattle.yd_world.specs.declared.event.Event.{Event}
use Rattle.yd_world.specs.declared.event.What.TheVariants.{Received as Heard}
use Rattle.yd_sync.specs.Message.{MessageValue, step1}
use Rattle.yd_sync.specs.MessageReading.{message_reading}
use Rattle.yd_sync.specs.Table.{states_of}
use Rattle.yd_doc.specs.Kept.{Kept, received_of}
use Rattle.yd_hub.specs.Actions.{ActionValue, entries_to, send}
use Rattle.yd_hub.specs.Hub.{HubState, actions_of_message, actions_of_news, actions_of_opened, actions_of_what, after_message, after_what, hub_actions, hub_after}
use Rattle.yd_machines.specs.declared.hub.Hub.{Hub}
use Rattle.yd_machines.specs.Asked.{IsVectorOf, answers_in}

-- the replica of a hub
abbrev pub replica_of_hub : Hub → Kept
replica_of_hub hub = hub.replica

-- a hub, as the laws see it
abbrev pub hub_state : Hub → HubState
hub_state hub = record {
  received = received_of hub.replica;
  sessions = hub.sessions;
  table = hub.presence;
}

-- a hub that begins: its replica has received this, no session is open, and it knows of nobody
abbrev pub first_hub : Kept → HubState
first_hub replica = record { received = received_of replica; sessions = []; table = [] }

-- a step took an event: the hub is what the event makes of it, and these are the actions that it
-- orders, as the replica answers before it
pub record TakesHubEvent (replica : Kept) (old new : HubState) (event : Event) (actions : List ActionValue) : Type 0 where
  pub vector : List (Client × ℕ)
  pub counts : IsVectorOf replica vector
  pub after : new ≡ hub_after message_reading old event
  pub orders : hub_actions message_reading (answers_in replica vector) old event ≡ actions

-- one that comes is asked with a state vector that counts what is held, and told who is there
pub record Welcomes (replica : Kept) (hub : HubState) (session : ℕ) (actions : List ActionValue) : Type 0 where
  pub vector : List (Client × ℕ)
  pub counts : IsVectorOf replica vector
  pub orders : actions
      ≡ send session (step1 vector) ∷ entries_to (states_of hub.table) (session ∷ [])

-- a session came: these are the actions that this orders
pub record Opens (replica : Kept) (hub : HubState) (session : ℕ) (actions : List ActionValue) : Type 0 where
  pub vector : List (Client × ℕ)
  pub counts : IsVectorOf replica vector
  pub orders : actions_of_opened (answers_in replica vector) hub session ≡ actions

-- bytes came from a session, and were taken, with whatever state vector the replica has
pub record Hears (replica : Kept) (old new : HubState) (now session : ℕ) (bytes : List ℕ) (actions : List ActionValue) : Type 0 where
  pub after : new ≡ after_what message_reading old now (Heard (record { 0 = session }) bytes)
  pub orders : (vector : List (Client × ℕ)) → actions_of_what message_reading
      (answers_in replica vector) old now (Heard (record { 0 = session }) bytes) ≡ actions

-- a message came from an open session, and was taken
pub record HubTakes (replica : Kept) (old new : HubState) (now session : ℕ) (message : MessageValue) (actions : List ActionValue) : Type 0 where
  pub after : new ≡ after_message old now session message
  pub orders : (vector : List (Client × ℕ)) →
      actions_of_message (answers_in replica vector) old now session message ≡ actions

-- an update came, and these actions tell the others of it, where it is news
abbrev pub IsNewsTo : Kept → HubState → ℕ → UpdateValue → List ActionValue → Type 0
IsNewsTo replica hub session update actions = (vector : List (Client × ℕ)) →
    actions_of_news (answers_in replica vector) hub session update ≡ actions
