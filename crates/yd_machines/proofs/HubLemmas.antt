-- A hub, part by part: what a step changes of it, and what it orders.
use Rattle.std.proofs.Common.{◌≡◌, ℕ, ◌<◌, ◌≤◌, Bool, true, false, List, [], ◌∷◌, length, Result, Ok, Err, sym, ap, ◌∙◌, subst, arith, tests, nat_lt}
use Rattle.std.specs.Prelude.{◌↔◌, IfOk, IsTrue, OnOk, if◌then◌else◌}
use Rattle.yd_ids.specs.declared.id.Client.{Client}
use Rattle.yd_ops.specs.Value.{UpdateValue}
use Rattle.yd_state.specs.Brings.{BringsUnknown}
use Rattle.yd_sync.specs.declared.fault.MessageFault.{MessageFault}
use Rattle.yd_sync.specs.Message.{MessageValue, change, step1, step2}
use Rattle.yd_sync.specs.MessageReading.{message_reading}
use Rattle.yd_sync.specs.Table.{states_of}
use Rattle.yd_world.specs.declared.event.Session.{Session}
use Rattle.yd_world.specs.declared.event.What.TheVariants.{Received as Heard}
use Rattle.yd_hub.specs.declared.action.CloseCause.TheVariants.{Bad, TooManySessions}
use Rattle.yd_hub.specs.Actions.{close, entries_to, send, to_each}
use Rattle.yd_hub.specs.Answers.{Answers}
use Rattle.yd_hub.specs.Hub.{HubState, actions_if_open, actions_of_closed, actions_of_message, actions_of_news, actions_of_opened, actions_of_what, after_closed, after_message, after_opened, after_update, after_what, closed_if_open}
use Rattle.yd_hub.specs.Sessions.{is_open, most_sessions, with_session, without}
use Rattle.yd_hub.proofs.NewsLemmas.{unknown_says}
use Rattle.yd_doc.specs.Kept.{Kept, own_deletes, received_of}
use Rattle.yd_hub.specs.declared.action.ActionList.{ActionList}
use Rattle.yd_hub.specs.Orders.{ordered}
use Rattle.yd_machines.specs.declared.fault.NoMemory.{NoMemory}
use Rattle.yd_machines.specs.Asked.{answers_in}
use Rattle.yd_machines.specs.HubStep.{HubTakes, IsNewsTo}

-- ---- a session that comes

few : (sessions : List ℕ) → length sessions < 1024 → nat_lt (length sessions) most_sessions ≡ true
few sessions lt = less (length sessions) 1024 lt
  where
    less : (m n : ℕ) → m < n → nat_lt m n ≡ true
    less m n f = grind (arith, tests)

many : (sessions : List ℕ) → 1024 ≤ length sessions → nat_lt (length sessions) most_sessions ≡ false
many sessions le = not_less (length sessions) 1024 le
  where
    not_less : (m n : ℕ) → n ≤ m → nat_lt m n ≡ false
    not_less m n f = grind (arith, tests)

pub there_after : (hub : HubState) (session : ℕ) → is_open hub.sessions session ≡ true → hub ≡ after_opened hub session
there_after hub session there = rw there

pub there_orders : (answers : Answers) (hub : HubState) (session : ℕ) → is_open hub.sessions session ≡ true → actions_of_opened answers hub session ≡ []
there_orders answers hub session there = rw there

pub many_after : (hub : HubState) (session : ℕ) → is_open hub.sessions session ≡ false → 1024 ≤ length hub.sessions → hub ≡ after_opened hub session
many_after hub session new le = rw (new, many hub.sessions le)

pub many_orders : (answers : Answers) (hub : HubState) (session : ℕ) → is_open hub.sessions session ≡ false → 1024 ≤ length hub.sessions →
    actions_of_opened answers hub session ≡ close session TooManySessions ∷ []
many_orders answers hub session new le = rw (new, many hub.sessions le)

pub few_after : (hub : HubState) (session : ℕ) → is_open hub.sessions session ≡ false → length hub.sessions < 1024 →
    record hub { sessions = with_session session hub.sessions } ≡ after_opened hub session
few_after hub session new lt = rw (new, few hub.sessions lt)

pub few_orders : (answers : Answers) (hub : HubState) (session : ℕ) → is_open hub.sessions session ≡ false → length hub.sessions < 1024 →
    actions_of_opened answers hub session ≡ send session (step1 answers.vector) ∷ entries_to (states_of hub.table) (session ∷ [])
few_orders answers hub session new lt = rw (new, few hub.sessions lt)

-- ---- a session that ends

pub closed_after : (hub : HubState) (session : ℕ) → is_open hub.sessions session ≡ true → after_closed hub session ≡ closed_if_open hub session
closed_after hub session there = rw there

pub closed_orders : (hub : HubState) (session : ℕ) → is_open hub.sessions session ≡ true → actions_of_closed hub session ≡ actions_if_open hub session
closed_orders hub session there = rw there

pub gone_after : (hub : HubState) (session : ℕ) → is_open hub.sessions session ≡ false → hub ≡ closed_if_open hub session
gone_after hub session gone = rw gone

pub gone_orders : (hub : HubState) (session : ℕ) → is_open hub.sessions session ≡ false → [] ≡ actions_if_open hub session
gone_orders hub session gone = rw gone

-- ---- bytes that come

module _ (hub : HubState) (now : ℕ) (s : Session) (bytes : List ℕ) where
  pub unheard_after : is_open hub.sessions s.0 ≡ false → hub ≡ after_what message_reading hub now (Heard s bytes)
  unheard_after new = rw new

  pub unheard_orders : (answers : Answers) → is_open hub.sessions s.0 ≡ false → actions_of_what message_reading answers hub now (Heard s bytes) ≡ []
  unheard_orders answers new = rw new

  pub heard_after : (message : MessageValue) → is_open hub.sessions s.0 ≡ true → message_reading bytes ≡ Ok message →
      after_message hub now s.0 message ≡ after_what message_reading hub now (Heard s bytes)
  heard_after message there e = rw (there, e)

  pub heard_orders : (answers : Answers) (message : MessageValue) → is_open hub.sessions s.0 ≡ true → message_reading bytes ≡ Ok message →
      actions_of_what message_reading answers hub now (Heard s bytes) ≡ actions_of_message answers hub now s.0 message
  heard_orders answers message there e = rw (there, e)

  pub refused_after : (fault : MessageFault) → is_open hub.sessions s.0 ≡ true → message_reading bytes ≡ Err fault →
      after_closed hub s.0 ≡ after_what message_reading hub now (Heard s bytes)
  refused_after fault there e = rw (there, e)

  pub refused_orders : (answers : Answers) (fault : MessageFault) → is_open hub.sessions s.0 ≡ true → message_reading bytes ≡ Err fault →
      actions_of_what message_reading answers hub now (Heard s bytes) ≡ close s.0 (Bad fault) ∷ actions_of_closed hub s.0
  refused_orders answers fault there e = rw (there, e)

-- ---- an update that comes

-- it is news exactly where the replica says that it brings something
news_is : (replica : Kept) (vector : List (Client × ℕ)) (update : UpdateValue) (brings : Bool) → IsTrue brings ↔ BringsUnknown update (received_of replica) (own_deletes replica) →
    (answers_in replica vector).is_news update ≡ brings
news_is replica vector update brings says = unknown_says (received_of replica) (own_deletes replica) update brings says

pub news_orders : (replica : Kept) (hub : HubState) (session : ℕ) (update : UpdateValue) (brings : Bool) → IsTrue brings ↔ BringsUnknown update (received_of replica) (own_deletes replica) →
    brings ≡ true → (vector : List (Client × ℕ)) → actions_of_news (answers_in replica vector) hub session update ≡ to_each (change update) (without session hub.sessions)
news_orders replica hub session update brings says e vector =
    ap (λ t. if t then to_each (change update) (without session hub.sessions) else []) (news_is replica vector update brings says ∙ e)

pub no_news_orders : (replica : Kept) (hub : HubState) (session : ℕ) (update : UpdateValue) (brings : Bool) → IsTrue brings ↔ BringsUnknown update (received_of replica) (own_deletes replica) →
    brings ≡ false → (vector : List (Client × ℕ)) → actions_of_news (answers_in replica vector) hub session update ≡ []
no_news_orders replica hub session update brings says e vector =
    ap (λ t. if t then to_each (change update) (without session hub.sessions) else []) (news_is replica vector update brings says ∙ e)

-- an update of a step 2 was taken
pub takes_step2 : (replica : Kept) (old new : HubState) (now session : ℕ) (update : UpdateValue) (message : MessageValue) (result : Result ActionList NoMemory) → message ≡ step2 update →
    OnOk result (new ≡ after_update old update) → IfOk result (λ actions. IsNewsTo replica old session update (ordered actions)) →
    IfOk result (λ actions. HubTakes replica old new now session message (ordered actions))
takes_step2 replica old new now session update message (Ok actions) e after orders =
    subst (λ (m : MessageValue). HubTakes replica old new now session m (ordered actions)) (sym e) (record { after = after; orders = orders })
takes_step2 replica old new now session update message (Err fault) e after orders = tt

-- an update of a change was taken
pub takes_change : (replica : Kept) (old new : HubState) (now session : ℕ) (update : UpdateValue) (message : MessageValue) (result : Result ActionList NoMemory) → message ≡ change update →
    OnOk result (new ≡ after_update old update) → IfOk result (λ actions. IsNewsTo replica old session update (ordered actions)) →
    IfOk result (λ actions. HubTakes replica old new now session message (ordered actions))
takes_change replica old new now session update message (Ok actions) e after orders =
    subst (λ (m : MessageValue). HubTakes replica old new now session m (ordered actions)) (sym e) (record { after = after; orders = orders })
takes_change replica old new now session update message (Err fault) e after orders = tt
