-- Sends that fail: their sessions are closed once, get nothing more, and are not open at the end.
use Rattle.std.proofs.Common.{◌≡◌, ◌≢◌, ◌⊎◌, ℕ, Bool, true, false, ◌||◌, List, [], ◌∷◌, ◌++◌, inl, inr, refl, sym, ap, ◌∙◌, subst, true≢false, nat_eq}
use Rattle.std.proofs.lemmas.Bool.{eq-eqb, or_left, or_right}
use Rattle.yd_words.specs.Each.{Each}
use Rattle.yd_world.specs.declared.board.Sent.{Sent}
use Rattle.yd_world.specs.declared.board.Sent.TheVariants.{Message as Told, Close as Ended}
use Rattle.yd_sync.specs.declared.entry.AwareEntry.{AwareEntry}
use Rattle.yd_sync.specs.Message.{MessageValue, aware}
use Rattle.yd_sync.proofs.PresenceLemmas.{tested}
use Rattle.yd_hub.specs.declared.action.CloseCause.{CloseCause}
use Rattle.yd_hub.specs.Sessions.{is_open}
use Rattle.yd_hub.specs.Actions.{ActionValue, send, close, IsSendTo, to_each, entries_to}
use Rattle.yd_hub.specs.Carrying.{next_fails, later_fails, carried, NothingFor, EndsOnce}
use Rattle.yd_hub.proofs.OpenLemmas.{open_back, open_differs, open_front, open_parts}

-- ---- actions that only send

abbrev pub AreWithin : List ℕ → List ℕ → Type 0
AreWithin failed sessions = (s : ℕ) → is_open failed s ≡ true → is_open sessions s ≡ true

-- no session twice
abbrev pub AreOnce : List ℕ → Type 0
AreOnce [] = Unit {0}
AreOnce (s ∷ ss) = (is_open ss s ≡ false) × AreOnce ss

-- a session that was closed has failed
abbrev pub IsFailed : List ℕ → Sent → Type 0
IsFailed failed (Told to bytes fails) = Unit {0}
IsFailed failed (Ended to why) = is_open failed to.0 ≡ true

once_append : (s : ℕ) (ss : List ℕ) → AreOnce ss → is_open ss s ≡ false → AreOnce (ss ++ s ∷ [])
once_append s [] once new = (refl, tt)
once_append s (t ∷ ss) once new = (not_there (is_open (ss ++ s ∷ []) t) refl, once_append s ss once.1 (later new))
  where
    later : (nat_eq t s || is_open ss s) ≡ false → is_open ss s ≡ false
    later e = elim (tested (nat_eq t s)) [ inl same ↦ absurd (true≢false (sym (ap (λ u. u || is_open ss s) same) ∙ e)) | inr other ↦ sym (ap (λ u. u || is_open ss s) other) ∙ e ]

    not_there : (u : Bool) → is_open (ss ++ s ∷ []) t ≡ u → is_open (ss ++ s ∷ []) t ≡ false
    not_there false e = e
    not_there true e = elim (open_parts t s ss e) [
      | inl i ↦ absurd (true≢false (sym i ∙ once.0))
      | inr same ↦ absurd (true≢false (sym (ap (λ u. u || is_open ss s) (eq-eqb t s (sym same))) ∙ new))
    ]

pub sends_to_each : (message : MessageValue) (to sessions : List ℕ) → AreWithin to sessions → Each (IsSendTo sessions) (to_each message to)
sends_to_each message [] sessions within = tt
sends_to_each message (s ∷ to) sessions within =
    (within s (or_left (nat_eq s s) (is_open to s) (eq-eqb s s refl)), sends_to_each message to sessions (λ t e. within t (or_right (nat_eq s t) (is_open to t) e)))

pub sends_entries : (es : List AwareEntry) (to sessions : List ℕ) → AreWithin to sessions → Each (IsSendTo sessions) (entries_to es to)
sends_entries [] to sessions within = tt
sends_entries (e ∷ es) to sessions within = sends_to_each (aware (e ∷ es)) to sessions within

module _ (write : MessageValue → List ℕ) (reason : CloseCause → List ℕ) where
  -- nothing is for a session that failed or is not open
  pub nothing_carried : (sessions : List ℕ) (actions : List ActionValue) (failed : List ℕ) (fails : List Bool) (s : ℕ) → Each (IsSendTo sessions) actions →
      (is_open failed s ≡ true) ⊎ (is_open sessions s ≡ false) → NothingFor s (carried write reason actions failed fails).told
  nothing_carried sessions [] failed fails s sends ends = tt
  nothing_carried sessions (close to cause ∷ actions) failed fails s sends ends = absurd sends.0
  nothing_carried sessions (send to message ∷ actions) failed fails s sends ends = elim (tested (is_open failed to)) [
    | inl skipped ↦ rw skipped (nothing_carried sessions actions failed fails s sends.1 ends)
    | inr there ↦ elim (tested (next_fails fails)) [
      | inl fail ↦ rw (there, fail) (differs there ends, (differs there ends, nothing_carried sessions actions (failed ++ to ∷ []) (later_fails fails) s sends.1 (more ends)))
      | inr none ↦ rw (there, none) (differs there ends, nothing_carried sessions actions failed (later_fails fails) s sends.1 ends)
    ]
  ]
    where
      differs : is_open failed to ≡ false → (is_open failed s ≡ true) ⊎ (is_open sessions s ≡ false) → to ≢ s
      differs there (inl e) = λ same. open_differs failed s to e there (sym same)
      differs there (inr e) = open_differs sessions to s sends.0 e

      more : (is_open failed s ≡ true) ⊎ (is_open sessions s ≡ false) → (is_open (failed ++ to ∷ []) s ≡ true) ⊎ (is_open sessions s ≡ false)
      more (inl e) = inl (open_front s failed (to ∷ []) e)
      more (inr e) = inr e

  pub once_carried : (sessions : List ℕ) (actions : List ActionValue) (failed : List ℕ) (fails : List Bool) → Each (IsSendTo sessions) actions → EndsOnce (carried write reason actions failed fails).told
  once_carried sessions [] failed fails sends = tt
  once_carried sessions (close to cause ∷ actions) failed fails sends = absurd sends.0
  once_carried sessions (send to message ∷ actions) failed fails sends = elim (tested (is_open failed to)) [
    | inl skipped ↦ rw skipped (once_carried sessions actions failed fails sends.1)
    | inr there ↦ elim (tested (next_fails fails)) [
      | inl fail ↦ rw (there, fail) (
        (refl, refl),
        (
          nothing_carried sessions actions (failed ++ to ∷ []) (later_fails fails) to sends.1 (inl (open_back to failed)),
          once_carried sessions actions (failed ++ to ∷ []) (later_fails fails) sends.1,
        ),
      )
      | inr none ↦ rw (there, none) (once_carried sessions actions failed (later_fails fails) sends.1)
    ]
  ]

  -- who failed before has failed
  pub failed_stay : (actions : List ActionValue) (failed : List ℕ) (fails : List Bool) (s : ℕ) → is_open failed s ≡ true → is_open (carried write reason actions failed fails).failed s ≡ true
  failed_stay [] failed fails s e = e
  failed_stay (send to message ∷ actions) failed fails s e = elim (tested (is_open failed to)) [
    | inl skipped ↦ rw skipped (failed_stay actions failed fails s e)
    | inr there ↦ elim (tested (next_fails fails)) [
      | inl fail ↦ rw (there, fail) (failed_stay actions (failed ++ to ∷ []) (later_fails fails) s (open_front s failed (to ∷ []) e))
      | inr none ↦ rw (there, none) (failed_stay actions failed (later_fails fails) s e)
    ]
  ]
  failed_stay (close to cause ∷ actions) failed fails s e = elim (tested (is_open failed to)) [
    | inl skipped ↦ rw skipped (failed_stay actions failed fails s e)
    | inr there ↦ rw there (failed_stay actions failed fails s e)
  ]

  pub failed_within : (sessions : List ℕ) (actions : List ActionValue) (failed : List ℕ) (fails : List Bool) → Each (IsSendTo sessions) actions → AreWithin failed sessions →
      AreWithin (carried write reason actions failed fails).failed sessions
  failed_within sessions [] failed fails sends within = within
  failed_within sessions (close to cause ∷ actions) failed fails sends within = absurd sends.0
  failed_within sessions (send to message ∷ actions) failed fails sends within = elim (tested (is_open failed to)) [
    | inl skipped ↦ rw skipped (failed_within sessions actions failed fails sends.1 within)
    | inr there ↦ elim (tested (next_fails fails)) [
      | inl fail ↦ rw (there, fail) (failed_within sessions actions (failed ++ to ∷ []) (later_fails fails) sends.1
          (λ s e. elim (open_parts s to failed e) [ inl i ↦ within s i | inr same ↦ subst (λ u. is_open sessions u ≡ true) same sends.0 ]))
      | inr none ↦ rw (there, none) (failed_within sessions actions failed (later_fails fails) sends.1 within)
    ]
  ]

  pub failed_once : (sessions : List ℕ) (actions : List ActionValue) (failed : List ℕ) (fails : List Bool) → Each (IsSendTo sessions) actions → AreOnce failed →
      AreOnce (carried write reason actions failed fails).failed
  failed_once sessions [] failed fails sends once = once
  failed_once sessions (close to cause ∷ actions) failed fails sends once = absurd sends.0
  failed_once sessions (send to message ∷ actions) failed fails sends once = elim (tested (is_open failed to)) [
    | inl skipped ↦ rw skipped (failed_once sessions actions failed fails sends.1 once)
    | inr there ↦ elim (tested (next_fails fails)) [
      | inl fail ↦ rw (there, fail) (failed_once sessions actions (failed ++ to ∷ []) (later_fails fails) sends.1 (once_append to failed once there))
      | inr none ↦ rw (there, none) (failed_once sessions actions failed (later_fails fails) sends.1 once)
    ]
  ]

  -- who was closed has failed
  pub closed_failed : (sessions : List ℕ) (actions : List ActionValue) (failed : List ℕ) (fails : List Bool) → Each (IsSendTo sessions) actions →
      Each (IsFailed (carried write reason actions failed fails).failed) (carried write reason actions failed fails).told
  closed_failed sessions [] failed fails sends = tt
  closed_failed sessions (close to cause ∷ actions) failed fails sends = absurd sends.0
  closed_failed sessions (send to message ∷ actions) failed fails sends = elim (tested (is_open failed to)) [
    | inl skipped ↦ rw skipped (closed_failed sessions actions failed fails sends.1)
    | inr there ↦ elim (tested (next_fails fails)) [
      | inl fail ↦ rw (there, fail) (tt, (failed_stay actions (failed ++ to ∷ []) (later_fails fails) to (open_back to failed), closed_failed sessions actions (failed ++ to ∷ []) (later_fails fails) sends.1))
      | inr none ↦ rw (there, none) (tt, closed_failed sessions actions failed (later_fails fails) sends.1)
    ]
  ]
