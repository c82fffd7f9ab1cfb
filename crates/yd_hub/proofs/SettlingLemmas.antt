-- The hub gets Closed of each session that failed: nothing is left at the end, and all that was closed is not open.
use Rattle.std.proofs.Common.{◌≡◌, ◌≢◌, ◌⊎◌, ℕ, zero, suc, ◌≤◌, Bool, true, false, ◌||◌, List, [], ◌∷◌, ◌++◌, length, inl, inr, refl, sym, ap, ◌∙◌, subst, arith, true≢false, nat_eq}
use Rattle.std.proofs.lemmas.Bool.{eq-eqb, or_left, or_right}
use Rattle.yd_words.specs.Each.{Each}
use Rattle.yd_words.proofs.EachLemmas.{each_append}
use Rattle.yd_world.specs.declared.board.Sent.{Sent}
use Rattle.yd_world.specs.declared.board.Sent.TheVariants.{Message as Told, Close as Ended}
use Rattle.yd_sync.specs.Message.{MessageValue}
use Rattle.yd_sync.specs.Table.{ended_of, is_from}
use Rattle.yd_sync.proofs.PresenceLemmas.{tested, same_number}
use Rattle.yd_hub.specs.declared.action.CloseCause.{CloseCause}
use Rattle.yd_hub.specs.Sessions.{is_open, without}
use Rattle.yd_hub.specs.Actions.{IsSendTo}
use Rattle.yd_hub.specs.Hub.{HubState, closed_if_open, actions_if_open}
use Rattle.yd_hub.specs.Carrying.{carried, settled, session_of, NothingFor, IsClosedNext, EndsOnce, IsEndedIn}
use Rattle.yd_hub.proofs.OpenLemmas.{open_differs, without_closed, without_falls, without_itself, without_other}
use Rattle.yd_hub.proofs.CarryingLemmas.{AreWithin, AreOnce, IsFailed, sends_entries, nothing_carried, once_carried, failed_stay, failed_within, failed_once, closed_failed}

-- the session failed, or is not open
abbrev pub IsEnding : HubState → List ℕ → ℕ → Type 0
IsEnding hub failed s = (is_open failed s ≡ true) ⊎ (is_open hub.sessions s ≡ false)

-- ---- what was told, in two parts

next_appended : (s : ℕ) (told more : List Sent) → IsClosedNext s told → IsClosedNext s (told ++ more)
next_appended s [] more h = absurd h
next_appended s (Told to bytes fails ∷ told) more h = absurd h
next_appended s (Ended to why ∷ told) more h = h

-- a session that was closed is one that nothing later is for
abbrev EndsBefore : List Sent → Sent → Type 0
EndsBefore more (Told to bytes fails) = Unit {0}
EndsBefore more (Ended to why) = NothingFor to.0 more

pub once_appended : (told more : List Sent) → EndsOnce told → EndsOnce more → Each (EndsBefore more) told → EndsOnce (told ++ more)
once_appended [] more one two between = two
once_appended (Told to bytes true ∷ told) more one two between = (next_appended to.0 told more one.0, once_appended told more one.1 two between.1)
once_appended (Told to bytes false ∷ told) more one two between = once_appended told more one two between.1
once_appended (Ended to why ∷ told) more one two between = (each_append (λ t. session_of t ≢ to.0) told more one.0 between.0, once_appended told more one.1 two between.1)

-- ---- one Closed

closed_sends : (hub : HubState) (session : ℕ) → Each (IsSendTo (without session hub.sessions)) (actions_if_open hub session)
closed_sends hub session = elim (tested (is_open hub.sessions session)) [
  | inl there ↦ rw there (sends_entries (ended_of (is_from session) hub.table) (without session hub.sessions) (without session hub.sessions) (λ s e. e))
  | inr other ↦ rw other tt
]

-- the sessions without one that is not there
pub closed_received : (hub : HubState) (session : ℕ) → (closed_if_open hub session).received ≡ hub.received
closed_received hub session = elim (tested (is_open hub.sessions session)) [ inl there ↦ rw there | inr other ↦ rw other ]

closed_not_open : (hub : HubState) (session s : ℕ) → is_open hub.sessions s ≡ false → is_open (closed_if_open hub session).sessions s ≡ false
closed_not_open hub session s e = elim (tested (is_open hub.sessions session)) [ inl there ↦ rw there (without_closed session s hub.sessions e) | inr other ↦ rw other e ]

closed_itself : (hub : HubState) (session : ℕ) → is_open (closed_if_open hub session).sessions session ≡ false
closed_itself hub session = elim (tested (is_open hub.sessions session)) [ inl there ↦ rw there (without_itself session hub.sessions) | inr other ↦ rw other other ]

closed_sessions : (hub : HubState) (session : ℕ) → is_open hub.sessions session ≡ true → (closed_if_open hub session).sessions ≡ without session hub.sessions
closed_sessions hub session there = rw there

module _ (write : MessageValue → List ℕ) (reason : CloseCause → List ℕ) where
  -- nothing is received by it
  pub settled_received : (n : ℕ) (hub : HubState) (failed : List ℕ) (fails : List Bool) → (settled write reason n hub failed fails).hub.received ≡ hub.received
  settled_received zero hub failed fails = refl
  settled_received (suc n) hub [] fails = refl
  settled_received (suc n) hub (session ∷ failed) fails =
      settled_received n (closed_if_open hub session) (carried write reason (actions_if_open hub session) failed fails).failed (carried write reason (actions_if_open hub session) failed fails).fails
      ∙ closed_received hub session

  -- what is not open stays so
  pub settled_not_open : (n : ℕ) (hub : HubState) (failed : List ℕ) (fails : List Bool) (s : ℕ) → is_open hub.sessions s ≡ false →
      is_open (settled write reason n hub failed fails).hub.sessions s ≡ false
  settled_not_open zero hub failed fails s e = e
  settled_not_open (suc n) hub [] fails s e = e
  settled_not_open (suc n) hub (session ∷ failed) fails s e =
      settled_not_open n (closed_if_open hub session) (carried write reason (actions_if_open hub session) failed fails).failed (carried write reason (actions_if_open hub session) failed fails).fails s
      (closed_not_open hub session s e)

  -- one that failed, or is not open, of the rest
  ending_later : (hub : HubState) (session : ℕ) (failed : List ℕ) (fails : List Bool) (s : ℕ) → IsEnding hub (session ∷ failed) s →
      IsEnding (closed_if_open hub session) (carried write reason (actions_if_open hub session) failed fails).failed s
  ending_later hub session failed fails s (inr e) = inr (closed_not_open hub session s e)
  ending_later hub session failed fails s (inl e) = elim (tested (nat_eq session s)) [
    | inl same ↦ inr (subst (λ t. is_open (closed_if_open hub session).sessions t ≡ false) (same_number session s same) (closed_itself hub session))
    | inr other ↦ inl (failed_stay write reason (actions_if_open hub session) failed fails s (sym (ap (λ u. u || is_open failed s) other) ∙ e))
  ]

  ending_here : (hub : HubState) (session : ℕ) (failed : List ℕ) (s : ℕ) → IsEnding hub (session ∷ failed) s → (is_open failed s ≡ true) ⊎ (is_open (without session hub.sessions) s ≡ false)
  ending_here hub session failed s (inr e) = inr (without_closed session s hub.sessions e)
  ending_here hub session failed s (inl e) = elim (tested (nat_eq session s)) [
    | inl same ↦ inr (subst (λ t. is_open (without session hub.sessions) t ≡ false) (same_number session s same) (without_itself session hub.sessions))
    | inr other ↦ inl (sym (ap (λ u. u || is_open failed s) other) ∙ e)
  ]

  -- nothing is for a session that failed or is not open
  pub nothing_settled : (n : ℕ) (hub : HubState) (failed : List ℕ) (fails : List Bool) (s : ℕ) → IsEnding hub failed s → NothingFor s (settled write reason n hub failed fails).outcome.told
  nothing_settled zero hub failed fails s ends = tt
  nothing_settled (suc n) hub [] fails s ends = tt
  nothing_settled (suc n) hub (session ∷ failed) fails s ends =
      let outcome = carried write reason (actions_if_open hub session) failed fails in
      each_append (λ t. session_of t ≢ s) outcome.told (settled write reason n (closed_if_open hub session) outcome.failed outcome.fails).outcome.told
      (nothing_carried write reason (without session hub.sessions) (actions_if_open hub session) failed fails s (closed_sends hub session) (ending_here hub session failed s ends))
      (nothing_settled n (closed_if_open hub session) outcome.failed outcome.fails s (ending_later hub session failed fails s ends))

  -- who failed in the actions is one that nothing later is for
  pub failed_before : (n : ℕ) (hub : HubState) (failed : List ℕ) (fails : List Bool) (told : List Sent) → Each (IsFailed failed) told →
      Each (EndsBefore (settled write reason n hub failed fails).outcome.told) told
  failed_before n hub failed fails [] all = tt
  failed_before n hub failed fails (Told to bytes f ∷ told) all = (tt, failed_before n hub failed fails told all.1)
  failed_before n hub failed fails (Ended to why ∷ told) all = (nothing_settled n hub failed fails to.0 (inl all.0), failed_before n hub failed fails told all.1)

  pub once_settled : (n : ℕ) (hub : HubState) (failed : List ℕ) (fails : List Bool) → EndsOnce (settled write reason n hub failed fails).outcome.told
  once_settled zero hub failed fails = tt
  once_settled (suc n) hub [] fails = tt
  once_settled (suc n) hub (session ∷ failed) fails =
      let outcome = carried write reason (actions_if_open hub session) failed fails in
      once_appended outcome.told (settled write reason n (closed_if_open hub session) outcome.failed outcome.fails).outcome.told
      (once_carried write reason (without session hub.sessions) (actions_if_open hub session) failed fails (closed_sends hub session))
      (once_settled n (closed_if_open hub session) outcome.failed outcome.fails)
      (failed_before n (closed_if_open hub session) outcome.failed outcome.fails outcome.told
      (closed_failed write reason (without session hub.sessions) (actions_if_open hub session) failed fails (closed_sends hub session)))

  -- ---- the measure: open sessions

  -- those that failed are open, each once
  abbrev pub AreFailures : HubState → List ℕ → Type 0
  AreFailures hub failed = AreWithin failed hub.sessions × AreOnce failed

  none_within : (failed sessions : List ℕ) → AreWithin failed sessions → length sessions ≤ 0 → failed ≡ []
  none_within [] sessions within le = refl
  none_within (s ∷ failed) [] within le = absurd (true≢false (sym (within s (or_left (nat_eq s s) (is_open failed s) (eq-eqb s s refl)))))
  none_within (s ∷ failed) (t ∷ sessions) within le = absurd (omega (arith, le))

  is_first : (session : ℕ) (failed : List ℕ) (hub : HubState) → AreWithin (session ∷ failed) hub.sessions → is_open hub.sessions session ≡ true
  is_first session failed hub within = within session (or_left (nat_eq session session) (is_open failed session) (eq-eqb session session refl))

  failures_later : (hub : HubState) (session : ℕ) (failed : List ℕ) (fails : List Bool) → AreFailures hub (session ∷ failed) →
      AreFailures (closed_if_open hub session) (carried write reason (actions_if_open hub session) failed fails).failed
  failures_later hub session failed fails are = (
    subst (λ ss. AreWithin (carried write reason (actions_if_open hub session) failed fails).failed ss) (sym (closed_sessions hub session (is_first session failed hub are.0)))
        (failed_within write reason (without session hub.sessions) (actions_if_open hub session) failed fails (closed_sends hub session) rest),
    failed_once write reason (without session hub.sessions) (actions_if_open hub session) failed fails (closed_sends hub session) are.1.1,
  )
    where
      rest : AreWithin failed (without session hub.sessions)
      rest s e = without_other session s hub.sessions (λ same. open_differs failed s session e are.1.0 (sym same)) ∙ are.0 s (or_right (nat_eq session s) (is_open failed s) e)

  pub all_settled : (n : ℕ) (hub : HubState) (failed : List ℕ) (fails : List Bool) → length hub.sessions ≤ n → AreFailures hub failed → (settled write reason n hub failed fails).outcome.failed ≡ []
  all_settled zero hub failed fails le are = none_within failed hub.sessions are.0 le
  all_settled (suc n) hub [] fails le are = refl
  all_settled (suc n) hub (session ∷ failed) fails le are =
      let outcome = carried write reason (actions_if_open hub session) failed fails in
      let there = is_first session failed hub are.0 in
      all_settled n (closed_if_open hub session) outcome.failed outcome.fails
      (subst (λ ss. length ss ≤ n) (sym (closed_sessions hub session there)) (omega (arith, le, without_falls session hub.sessions there)))
      (failures_later hub session failed fails are)

  -- who failed is not open at the end
  pub failed_not_open : (n : ℕ) (hub : HubState) (failed : List ℕ) (fails : List Bool) → length hub.sessions ≤ n → AreFailures hub failed → (s : ℕ) → IsEnding hub failed s →
      is_open (settled write reason n hub failed fails).hub.sessions s ≡ false
  failed_not_open zero hub failed fails le are s (inr e) = e
  failed_not_open zero hub failed fails le are s (inl e) = absurd (true≢false (sym e ∙ ap (λ ss. is_open ss s) (none_within failed hub.sessions are.0 le)))
  failed_not_open (suc n) hub [] fails le are s (inr e) = e
  failed_not_open (suc n) hub [] fails le are s (inl e) = absurd (true≢false (sym e))
  failed_not_open (suc n) hub (session ∷ failed) fails le are s ends =
      let outcome = carried write reason (actions_if_open hub session) failed fails in
      let there = is_first session failed hub are.0 in
      failed_not_open n (closed_if_open hub session) outcome.failed outcome.fails
      (subst (λ ss. length ss ≤ n) (sym (closed_sessions hub session there)) (omega (arith, le, without_falls session hub.sessions there)))
      (failures_later hub session failed fails are) s (ending_later hub session failed fails s ends)

  pub closed_not_open_later : (n : ℕ) (hub : HubState) (failed : List ℕ) (fails : List Bool) → length hub.sessions ≤ n → AreFailures hub failed → (told : List Sent) → Each (IsFailed failed) told →
      Each (IsEndedIn (settled write reason n hub failed fails).hub.sessions) told
  closed_not_open_later n hub failed fails le are [] all = tt
  closed_not_open_later n hub failed fails le are (Told to bytes f ∷ told) all = (tt, closed_not_open_later n hub failed fails le are told all.1)
  closed_not_open_later n hub failed fails le are (Ended to why ∷ told) all = (failed_not_open n hub failed fails le are to.0 (inl all.0), closed_not_open_later n hub failed fails le are told all.1)

  pub ended_settled : (n : ℕ) (hub : HubState) (failed : List ℕ) (fails : List Bool) → length hub.sessions ≤ n → AreFailures hub failed →
      Each (IsEndedIn (settled write reason n hub failed fails).hub.sessions) (settled write reason n hub failed fails).outcome.told
  ended_settled zero hub failed fails le are = tt
  ended_settled (suc n) hub [] fails le are = tt
  ended_settled (suc n) hub (session ∷ failed) fails le are =
      let outcome = carried write reason (actions_if_open hub session) failed fails in
      let there = is_first session failed hub are.0 in
      let less = subst (λ ss. length ss ≤ n) (sym (closed_sessions hub session there)) (omega (arith, le, without_falls session hub.sessions there)) in
      let later = failures_later hub session failed fails are in
      each_append (IsEndedIn (settled write reason n (closed_if_open hub session) outcome.failed outcome.fails).hub.sessions) outcome.told
      (settled write reason n (closed_if_open hub session) outcome.failed outcome.fails).outcome.told
      (closed_not_open_later n (closed_if_open hub session) outcome.failed outcome.fails less later outcome.told
      (closed_failed write reason (without session hub.sessions) (actions_if_open hub session) failed fails (closed_sends hub session)))
      (ended_settled n (closed_if_open hub session) outcome.failed outcome.fails less later)
