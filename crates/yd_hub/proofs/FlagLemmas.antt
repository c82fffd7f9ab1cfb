-- What the board was told says which sends failed, so it comes out the same with these outcomes.
use Rattle.std.proofs.Common.{◌≡◌, ℕ, zero, suc, Bool, true, false, List, [], ◌∷◌, ◌++◌, length, inl, inr, refl, ap, ◌∙◌, append_assoc}
use Rattle.yd_world.specs.declared.board.Sent.{Sent}
use Rattle.yd_world.specs.declared.board.Sent.TheVariants.{Message as Told, Close as Ended}
use Rattle.yd_sync.specs.Message.{MessageValue}
use Rattle.yd_sync.proofs.PresenceLemmas.{tested}
use Rattle.yd_hub.specs.declared.action.CloseCause.{CloseCause}
use Rattle.yd_hub.specs.Sessions.{is_open}
use Rattle.yd_hub.specs.Actions.{ActionValue, send, close}
use Rattle.yd_hub.specs.Hub.{HubState, closed_if_open, actions_if_open}
use Rattle.yd_hub.specs.Carrying.{Outcome, next_fails, later_fails, with_told, Settled, settled_after, carried, settled, carried_out, flags_of, send_failed}

-- the same, with other outcomes of later sends
abbrev pub with_fails : List Bool → Outcome → Outcome
with_fails more outcome = record outcome { fails = more }

abbrev pub settled_with : List Bool → Settled → Settled
settled_with more s = record s { outcome = record (s.outcome) { fails = more } }

pub flags_append : (told more : List Sent) → flags_of (told ++ more) ≡ flags_of told ++ flags_of more
flags_append [] more = refl
flags_append (Told to bytes fails ∷ told) more = ap (λ fs. fails ∷ fs) (flags_append told more)
flags_append (Ended to why ∷ told) more = flags_append told more

module _ (write : MessageValue → List ℕ) (reason : CloseCause → List ℕ) where
  pub carried_again : (actions : List ActionValue) (failed : List ℕ) (fails more : List Bool) →
      carried write reason actions failed (flags_of (carried write reason actions failed fails).told ++ more) ≡ with_fails more (carried write reason actions failed fails)
  carried_again [] failed fails more = refl
  carried_again (send to message ∷ actions) failed fails more = elim (tested (is_open failed to)) [
    | inl skipped ↦ rw skipped (carried_again actions failed fails more)
    | inr there ↦ elim (tested (next_fails fails)) [
      | inl fail ↦ rw (there, fail) (ap (λ o. with_told (Told (record { 0 = to }) (write message) true ∷ Ended (record { 0 = to }) send_failed ∷ []) o) (carried_again actions (failed ++ to ∷ []) (later_fails fails) more))
      | inr none ↦ rw (there, none) (ap (λ o. with_told (Told (record { 0 = to }) (write message) false ∷ []) o) (carried_again actions failed (later_fails fails) more))
    ]
  ]
  carried_again (close to cause ∷ actions) failed fails more = elim (tested (is_open failed to)) [
    | inl skipped ↦ rw skipped (carried_again actions failed fails more)
    | inr there ↦ rw there (ap (λ o. with_told (Ended (record { 0 = to }) (reason cause) ∷ []) o) (carried_again actions failed fails more))
  ]

  -- in two parts
  abbrev behind : List ActionValue → Outcome → Outcome
  behind others first = with_told first.told (carried write reason others first.failed first.fails)

  pub carried_parts : (actions others : List ActionValue) (failed : List ℕ) (fails : List Bool) → carried write reason (actions ++ others) failed fails ≡ behind others (carried write reason actions failed fails)
  carried_parts [] others failed fails = refl
  carried_parts (send to message ∷ actions) others failed fails = elim (tested (is_open failed to)) [
    | inl skipped ↦ rw skipped (carried_parts actions others failed fails)
    | inr there ↦ elim (tested (next_fails fails)) [
      | inl fail ↦ rw (there, fail) (ap (λ o. with_told (Told (record { 0 = to }) (write message) true ∷ Ended (record { 0 = to }) send_failed ∷ []) o) (carried_parts actions others (failed ++ to ∷ []) (later_fails fails)))
      | inr none ↦ rw (there, none) (ap (λ o. with_told (Told (record { 0 = to }) (write message) false ∷ []) o) (carried_parts actions others failed (later_fails fails)))
    ]
  ]
  carried_parts (close to cause ∷ actions) others failed fails = elim (tested (is_open failed to)) [
    | inl skipped ↦ rw skipped (carried_parts actions others failed fails)
    | inr there ↦ rw there (ap (λ o. with_told (Ended (record { 0 = to }) (reason cause) ∷ []) o) (carried_parts actions others failed fails))
  ]

  -- ---- with Closed of those that failed

  -- an outcome, and what is settled behind it
  pub both_again : (n : ℕ) (hub : HubState) (actions : List ActionValue) (failed : List ℕ) (fails more : List Bool) → ((f : List ℕ) (fs : List Bool) →
      settled write reason n hub f (flags_of (settled write reason n hub f fs).outcome.told ++ more) ≡ settled_with more (settled write reason n hub f fs)) →
      (let outcome = carried write reason actions failed fails in let later = settled write reason n hub outcome.failed outcome.fails in
      let again = carried write reason actions failed (flags_of (outcome.told ++ later.outcome.told) ++ more) in
      settled_after again.told (settled write reason n hub again.failed again.fails)) ≡
      (let outcome = carried write reason actions failed fails in settled_with more (settled_after outcome.told (settled write reason n hub outcome.failed outcome.fails)))
  both_again n hub actions failed fails more later =
      let outcome = carried write reason actions failed fails in
      let rest = settled write reason n hub outcome.failed outcome.fails in
      ap (λ fs. settle (carried write reason actions failed fs)) (ap (λ gs. gs ++ more) (flags_append outcome.told rest.outcome.told) ∙ append_assoc (flags_of outcome.told) (flags_of rest.outcome.told) more)
      ∙ ap settle (carried_again actions failed fails (flags_of rest.outcome.told ++ more))
      ∙ ap (λ s. settled_after outcome.told s) (later outcome.failed outcome.fails)
    where
      settle : Outcome → Settled
      settle again = settled_after again.told (settled write reason n hub again.failed again.fails)

  pub settled_again : (n : ℕ) (hub : HubState) (failed : List ℕ) (fails more : List Bool) →
      settled write reason n hub failed (flags_of (settled write reason n hub failed fails).outcome.told ++ more) ≡ settled_with more (settled write reason n hub failed fails)
  settled_again zero hub failed fails more = refl
  settled_again (suc n) hub [] fails more = refl
  settled_again (suc n) hub (session ∷ failed) fails more =
      ap (λ s. record { hub = s.hub; outcome = s.outcome; closed = session ∷ s.closed })
      (both_again n (closed_if_open hub session) (actions_if_open hub session) failed fails more (λ f fs. settled_again n (closed_if_open hub session) f fs more))

  pub out_again : (hub : HubState) (actions : List ActionValue) (fails more : List Bool) →
      carried_out write reason hub actions (flags_of (carried_out write reason hub actions fails).outcome.told ++ more) ≡ settled_with more (carried_out write reason hub actions fails)
  out_again hub actions fails more = both_again (length hub.sessions) hub actions [] fails more (λ f fs. settled_again (length hub.sessions) hub f fs more)
