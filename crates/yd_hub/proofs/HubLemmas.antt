-- What the hub receives, and that its sessions are few and in order.
use Rattle.std.proofs.Common.{◌≡◌, ℕ, suc, ◌≤◌, true, List, [], ◌∷◌, ◌++◌, length, None, Result, Ok, Err, inl, inr, refl, sym, ap, ◌∙◌, arith, tests, nat_lt}
use Rattle.yd_ops.specs.Value.{UpdateValue}
use Rattle.yd_ops.specs.Received.{Received, received_after, received_more}
use Rattle.yd_world.specs.declared.event.Event.{Event}
use Rattle.yd_world.specs.declared.event.What.{What}
use Rattle.yd_world.specs.declared.event.What.TheVariants.{Opened, Received as Heard, Closed, Idle}
use Rattle.yd_sync.specs.Message.{MessageValue, step1, step2, change, aware, auth, query}
use Rattle.yd_sync.specs.declared.fault.MessageFault.{MessageFault}
use Rattle.yd_sync.specs.Table.{is_old, is_from}
use Rattle.yd_sync.proofs.PresenceLemmas.{tested}
use Rattle.yd_sync.proofs.RowLemmas.{after_entries_rows, emptied_rows}
use Rattle.yd_hub.specs.Sessions.{is_open, most_sessions}
use Rattle.yd_hub.specs.Hub.{HubState, IsHub, after_closed, after_message, after_reading, after_what, hub_after, hub_after_all, updates_of_reading, updates_of_what, updates_taken}
use Rattle.yd_hub.proofs.OpenLemmas.{with_length, with_sessions, without_length, without_sessions}

pub more_appended : (r : Received) (us vs : List UpdateValue) → received_more r (us ++ vs) ≡ received_more (received_more r us) vs
more_appended r [] vs = refl
more_appended r (u ∷ us) vs = more_appended (received_after r u) us vs

-- ---- what an event brings

message_brings : (hub : HubState) (now session : ℕ) (message : MessageValue) → (after_message hub now session message).received ≡ received_more hub.received (updates_of_reading (Ok message))
message_brings hub now session (step1 vector) = refl
message_brings hub now session (step2 update) = refl
message_brings hub now session (change update) = refl
message_brings hub now session (aware es) = refl
message_brings hub now session (auth bytes) = refl
message_brings hub now session query = refl

reading_brings : (hub : HubState) (now session : ℕ) (reading : Result MessageValue MessageFault) → (after_reading hub now session reading).received ≡ received_more hub.received (updates_of_reading reading)
reading_brings hub now session (Ok message) = message_brings hub now session message
reading_brings hub now session (Err fault) = refl

module _ (read : List ℕ → Result MessageValue MessageFault) where
  what_brings : (hub : HubState) (now : ℕ) (what : What) → (after_what read hub now what).received ≡ received_more hub.received (updates_of_what read hub what)
  what_brings hub now (Opened s) = elim (tested (is_open hub.sessions s.0)) [
    | inl there ↦ rw there
    | inr new ↦ elim (tested (nat_lt (length hub.sessions) most_sessions)) [ inl few ↦ rw (new, few) | inr full ↦ rw (new, full) ]
  ]
  what_brings hub now (Heard s bytes) = elim (tested (is_open hub.sessions s.0)) [
    | inl there ↦ rw there (reading_brings hub now s.0 (read bytes))
    | inr other ↦ rw other
  ]
  what_brings hub now (Closed s) = elim (tested (is_open hub.sessions s.0)) [ inl there ↦ rw there | inr other ↦ rw other ]
  what_brings hub now Idle = refl

  pub event_brings : (hub : HubState) (event : Event) → (hub_after read hub event).received ≡ received_more hub.received (updates_of_what read hub event.what)
  event_brings hub event = what_brings hub event.now event.what

  pub events_bring : (hub : HubState) (events : List Event) → (hub_after_all read hub events).received ≡ received_more hub.received (updates_taken read hub events)
  events_bring hub [] = refl
  events_bring hub (event ∷ events) = events_bring (hub_after read hub event) events
      ∙ ap (λ r. received_more r (updates_taken read (hub_after read hub event) events)) (event_brings hub event)
      ∙ sym (more_appended hub.received (updates_of_what read hub event.what) (updates_taken read (hub_after read hub event) events))

  -- ---- sessions and seats

  closed_is_hub : (hub : HubState) (session : ℕ) → IsHub hub → IsHub (after_closed hub session)
  closed_is_hub hub session is = record {
    sessions = without_sessions session hub.sessions is.sessions;
    few = omega (arith, without_length session hub.sessions, is.few);
    rows = emptied_rows (is_from session) hub.table is.rows;
  }

  message_is_hub : (hub : HubState) (now session : ℕ) (message : MessageValue) → IsHub hub → IsHub (after_message hub now session message)
  message_is_hub hub now session (step1 vector) is = is
  message_is_hub hub now session (step2 update) is = record { sessions = is.sessions; few = is.few; rows = is.rows }
  message_is_hub hub now session (change update) is = record { sessions = is.sessions; few = is.few; rows = is.rows }
  message_is_hub hub now session (aware es) is = record { sessions = is.sessions; few = is.few; rows = after_entries_rows None now session es hub.table is.rows }
  message_is_hub hub now session (auth bytes) is = is
  message_is_hub hub now session query is = is

  reading_is_hub : (hub : HubState) (now session : ℕ) (reading : Result MessageValue MessageFault) → IsHub hub → IsHub (after_reading hub now session reading)
  reading_is_hub hub now session (Ok message) is = message_is_hub hub now session message is
  reading_is_hub hub now session (Err fault) is = closed_is_hub hub session is

  less_or : (n : ℕ) → nat_lt n most_sessions ≡ true → suc n ≤ most_sessions
  less_or n e = grind (arith, tests)

  what_is_hub : (hub : HubState) (now : ℕ) (what : What) → IsHub hub → IsHub (after_what read hub now what)
  what_is_hub hub now (Opened s) is = elim (tested (is_open hub.sessions s.0)) [
    | inl there ↦ rw there is
    | inr new ↦ elim (tested (nat_lt (length hub.sessions) most_sessions)) [
      | inl few ↦ rw (new, few) (record { sessions = with_sessions s.0 hub.sessions is.sessions; few = omega (arith, with_length s.0 hub.sessions, less_or (length hub.sessions) few); rows = is.rows })
      | inr full ↦ rw (new, full) is
    ]
  ]
  what_is_hub hub now (Heard s bytes) is = elim (tested (is_open hub.sessions s.0)) [ inl there ↦ rw there (reading_is_hub hub now s.0 (read bytes) is) | inr other ↦ rw other is ]
  what_is_hub hub now (Closed s) is = elim (tested (is_open hub.sessions s.0)) [ inl there ↦ rw there (closed_is_hub hub s.0 is) | inr other ↦ rw other is ]
  what_is_hub hub now Idle is = record { sessions = is.sessions; few = is.few; rows = emptied_rows (is_old None now) hub.table is.rows }

  pub all_is_hub : (hub : HubState) (events : List Event) → IsHub hub → IsHub (hub_after_all read hub events)
  all_is_hub hub [] is = is
  all_is_hub hub (event ∷ events) is = all_is_hub (hub_after read hub event) events (what_is_hub hub event.now event.what is)
