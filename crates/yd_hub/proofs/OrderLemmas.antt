-- What the hub orders: at most one close, and sends to open sessions.
use Rattle.std.proofs.Common.{◌≡◌, ℕ, true, false, ◌||◌, List, [], ◌∷◌, length, None, Result, Ok, Err, inl, inr, sym, ap, ◌∙◌, subst, arith, tests, true≢false, nat_eq, nat_lt}
use Rattle.yd_words.specs.Each.{Each}
use Rattle.yd_world.specs.declared.event.Event.{Event}
use Rattle.yd_world.specs.declared.event.What.{What}
use Rattle.yd_world.specs.declared.event.What.TheVariants.{Opened, Received as Heard, Closed, Idle}
use Rattle.yd_sync.specs.Message.{MessageValue, step1, step2, change, aware, auth, query}
use Rattle.yd_sync.specs.declared.fault.MessageFault.{MessageFault}
use Rattle.yd_sync.specs.Table.{taken_of, ended_of, is_old, is_from, states_of}
use Rattle.yd_sync.proofs.PresenceLemmas.{tested}
use Rattle.yd_hub.specs.Sessions.{is_open, with_session, without, most_sessions}
use Rattle.yd_hub.specs.Actions.{ActionValue, send, close, IsSendTo, IsOrder}
use Rattle.yd_hub.specs.Answers.{Answers}
use Rattle.yd_hub.specs.Hub.{HubState, after_message, after_reading, after_what, hub_after, actions_of_closed, actions_of_message, actions_of_reading, actions_of_what, hub_actions}
use Rattle.yd_hub.proofs.OpenLemmas.{with_itself, without_closed, without_itself}
use Rattle.yd_hub.proofs.CarryingLemmas.{AreWithin, sends_to_each, sends_entries}

pub others_within : (s : ℕ) (ss : List ℕ) → AreWithin (without s ss) ss
others_within s ss t e = elim (tested (is_open ss t)) [ inl there ↦ there | inr none ↦ absurd (true≢false (sym e ∙ without_closed s t ss none)) ]

itself_within : (s : ℕ) (ss : List ℕ) → is_open ss s ≡ true → AreWithin (s ∷ []) ss
itself_within s ss there t e = elim (tested (nat_eq s t)) [
  | inl same ↦ subst (λ u. is_open ss u ≡ true) (number same) there
  | inr other ↦ absurd (true≢false (sym e ∙ ap (λ u. u || false) other))
]
  where
    number : nat_eq s t ≡ true → s ≡ t
    number same = grind (arith, tests)

-- actions that only send
in_order : (sessions : List ℕ) (actions : List ActionValue) → Each (IsSendTo sessions) actions → IsOrder sessions actions
in_order sessions [] all = tt
in_order sessions (send to message ∷ actions) all = all
in_order sessions (close to cause ∷ actions) all = absurd all.0

message_order : (answers : Answers) (hub : HubState) (now session : ℕ) (message : MessageValue) → is_open hub.sessions session ≡ true →
    Each (IsSendTo (after_message hub now session message).sessions) (actions_of_message answers hub now session message)
message_order answers hub now session (step1 vector) there = (there, tt)
message_order answers hub now session (step2 update) there = elim (tested (answers.is_news update)) [
  | inl e ↦ rw e (sends_to_each (change update) (without session hub.sessions) hub.sessions (others_within session hub.sessions))
  | inr e ↦ rw e tt
]
message_order answers hub now session (change update) there = elim (tested (answers.is_news update)) [
  | inl e ↦ rw e (sends_to_each (change update) (without session hub.sessions) hub.sessions (others_within session hub.sessions))
  | inr e ↦ rw e tt
]
message_order answers hub now session (aware es) there = sends_entries (taken_of None now session es hub.table) (without session hub.sessions) hub.sessions (others_within session hub.sessions)
message_order answers hub now session (auth bytes) there = tt
message_order answers hub now session query there = (there, tt)

closed_order : (hub : HubState) (session : ℕ) → Each (IsSendTo (without session hub.sessions)) (actions_of_closed hub session)
closed_order hub session = sends_entries (ended_of (is_from session) hub.table) (without session hub.sessions) (without session hub.sessions) (λ s e. e)

reading_order : (answers : Answers) (hub : HubState) (now session : ℕ) (reading : Result MessageValue MessageFault) → is_open hub.sessions session ≡ true →
    IsOrder (after_reading hub now session reading).sessions (actions_of_reading answers hub now session reading)
reading_order answers hub now session (Ok message) there =
    in_order (after_message hub now session message).sessions (actions_of_message answers hub now session message) (message_order answers hub now session message there)
reading_order answers hub now session (Err fault) there = (without_itself session hub.sessions, closed_order hub session)

module _ (read : List ℕ → Result MessageValue MessageFault) where
  what_order : (answers : Answers) (hub : HubState) (now : ℕ) (what : What) → IsOrder (after_what read hub now what).sessions (actions_of_what read answers hub now what)
  what_order answers hub now (Opened s) = elim (tested (is_open hub.sessions s.0)) [
    | inl there ↦ rw there tt
    | inr new ↦ elim (tested (nat_lt (length hub.sessions) most_sessions)) [
      | inl few ↦ rw (new, few) (
        with_itself s.0 hub.sessions,
        sends_entries (states_of hub.table) (s.0 ∷ []) (with_session s.0 hub.sessions) (itself_within s.0 (with_session s.0 hub.sessions) (with_itself s.0 hub.sessions)),
      )
      | inr full ↦ rw (new, full) (new, tt)
    ]
  ]
  what_order answers hub now (Heard s bytes) = elim (tested (is_open hub.sessions s.0)) [
    | inl there ↦ rw there (reading_order answers hub now s.0 (read bytes) there)
    | inr other ↦ rw other tt
  ]
  what_order answers hub now (Closed s) = elim (tested (is_open hub.sessions s.0)) [
    | inl there ↦ rw there (in_order (without s.0 hub.sessions) (actions_of_closed hub s.0) (closed_order hub s.0))
    | inr other ↦ rw other tt
  ]
  what_order answers hub now Idle = in_order hub.sessions (actions_of_what read answers hub now Idle)
      (sends_entries (ended_of (is_old None now) hub.table) hub.sessions hub.sessions (λ s e. e))

  pub hub_orders : (answers : Answers) (hub : HubState) (event : Event) → IsOrder (hub_after read hub event).sessions (hub_actions read answers hub event)
  hub_orders answers hub event = what_order answers hub event.now event.what
