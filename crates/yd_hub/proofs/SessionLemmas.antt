-- Which sessions are open after an event.
use Rattle.std.proofs.Common.{◌≡◌, ◌≢◌, ℕ, true, false, List, length, Result, Ok, Err, inl, inr, refl, ap, nat_lt}
use Rattle.yd_world.specs.declared.event.Session.{Session}
use Rattle.yd_world.specs.declared.event.What.{What}
use Rattle.yd_world.specs.declared.event.What.TheVariants.{Opened, Received as Heard, Closed, Idle}
use Rattle.yd_sync.specs.Message.{MessageValue, step1, step2, change, aware, auth, query}
use Rattle.yd_sync.specs.declared.fault.MessageFault.{MessageFault}
use Rattle.yd_sync.proofs.PresenceLemmas.{tested}
use Rattle.yd_hub.specs.Sessions.{is_open, most_sessions}
use Rattle.yd_hub.specs.Hub.{HubState, after_message, after_reading, after_what}
use Rattle.yd_hub.specs.HubLaw.{IsOf}
use Rattle.yd_hub.proofs.OpenLemmas.{with_itself, with_other, without_itself, without_other}

message_keeps : (hub : HubState) (now session : ℕ) (message : MessageValue) → (after_message hub now session message).sessions ≡ hub.sessions
message_keeps hub now session (step1 vector) = refl
message_keeps hub now session (step2 update) = refl
message_keeps hub now session (change update) = refl
message_keeps hub now session (aware es) = refl
message_keeps hub now session (auth bytes) = refl
message_keeps hub now session query = refl

reading_others : (hub : HubState) (now s : ℕ) (reading : Result MessageValue MessageFault) (session : ℕ) → s ≢ session →
    is_open (after_reading hub now s reading).sessions session ≡ is_open hub.sessions session
reading_others hub now s (Ok message) session ne = ap (λ ss. is_open ss session) (message_keeps hub now s message)
reading_others hub now s (Err fault) session ne = without_other s session hub.sessions ne

module _ (read : List ℕ → Result MessageValue MessageFault) (hub : HubState) (now : ℕ) where
  pub opens : (s : Session) → nat_lt (length hub.sessions) most_sessions ≡ true → is_open (after_what read hub now (Opened s)).sessions s.0 ≡ true
  opens s few = elim (tested (is_open hub.sessions s.0)) [ inl there ↦ rw there there | inr new ↦ rw (new, few) (with_itself s.0 hub.sessions) ]

  pub full : (s : Session) → nat_lt (length hub.sessions) most_sessions ≡ false → (after_what read hub now (Opened s)).sessions ≡ hub.sessions
  full s many = elim (tested (is_open hub.sessions s.0)) [ inl there ↦ rw there | inr new ↦ rw (new, many) ]

  pub closes : (s : Session) → is_open (after_what read hub now (Closed s)).sessions s.0 ≡ false
  closes s = elim (tested (is_open hub.sessions s.0)) [ inl there ↦ rw there (without_itself s.0 hub.sessions) | inr new ↦ rw new new ]

  pub refuses : (s : Session) (bytes : List ℕ) (fault : MessageFault) → read bytes ≡ Err fault → is_open (after_what read hub now (Heard s bytes)).sessions s.0 ≡ false
  refuses s bytes fault e = elim (tested (is_open hub.sessions s.0)) [ inl there ↦ rw (there, e) (without_itself s.0 hub.sessions) | inr new ↦ rw new new ]

  pub hears : (s : Session) (bytes : List ℕ) (message : MessageValue) → read bytes ≡ Ok message → (after_what read hub now (Heard s bytes)).sessions ≡ hub.sessions
  hears s bytes message e = elim (tested (is_open hub.sessions s.0)) [ inl there ↦ rw (there, e) (message_keeps hub now s.0 message) | inr new ↦ rw new ]

  pub others : (what : What) (session : ℕ) → (IsOf session what → ⊥) → is_open (after_what read hub now what).sessions session ≡ is_open hub.sessions session
  others (Opened s) session ne = elim (tested (is_open hub.sessions s.0)) [
    | inl there ↦ rw there
    | inr new ↦ elim (tested (nat_lt (length hub.sessions) most_sessions)) [ inl few ↦ rw (new, few) (with_other s.0 session hub.sessions ne) | inr many ↦ rw (new, many) ]
  ]
  others (Heard s bytes) session ne = elim (tested (is_open hub.sessions s.0)) [ inl there ↦ rw there (reading_others hub now s.0 (read bytes) session ne) | inr new ↦ rw new ]
  others (Closed s) session ne = elim (tested (is_open hub.sessions s.0)) [ inl there ↦ rw there (without_other s.0 session hub.sessions ne) | inr new ↦ rw new ]
  others Idle session ne = refl
