-- The loop of a peer that comes in step is a run of the peer, of at most so many events.
use Rattle.std.proofs.Common.{◌≡◌, ◌⊎◌, ◌↔◌, ℕ, zero, suc, ◌+◌, ◌<◌, ◌≤◌, Bool, true, false, ◌||◌, List, [], ◌∷◌, Result, Ok, Err, inl, inr, refl, sym, ap, ◌∙◌, arith, true≢false}
use Rattle.yd_world.specs.declared.board.Sent.{Sent}
use Rattle.yd_sync.specs.Message.{MessageValue}
use Rattle.yd_sync.specs.declared.fault.MessageFault.{MessageFault}
use Rattle.yd_sync.proofs.PresenceLemmas.{tested}
use Rattle.yd_hub.specs.Peer.{PeerState, PeerEventValue, opened, received, tick, edited, stated, is_step2, has_heard, Refusal, bad, clock_full, peer_after, peer_after_all, peer_answer}
use Rattle.yd_hub.specs.Serving.{Turn}
use Rattle.yd_hub.specs.Syncing.{status_of, status_by, messages_in, PeerTurn, of_other, of_close, of_event, peer_turn, Ending, done, refused, no_link, Synced, ended, behind, is_in_step, counted, said, event_done, turn_done, synced}
use Rattle.yd_hub.proofs.PeerLemmas.{events_step2}

-- a run of the peer, of at most so many events
record IsRun (read : List ℕ → Result MessageValue MessageFault) (peer : PeerState) (n : ℕ) (s : Synced) : Type 0 where
  state : s.peer ≡ peer_after_all read peer s.events
  taken : s.taken ≤ n

module _ (read : List ℕ → Result MessageValue MessageFault) (write : MessageValue → List ℕ) where
  is_ended : (peer : PeerState) (n : ℕ) (ending : Ending) → IsRun read peer n (ended peer ending)
  is_ended peer n ending = record { state = refl; taken = omega arith }

  event_is : (n count : ℕ) (peer : PeerState) (event : PeerEventValue) (answer : Result (List MessageValue) Refusal) (fails : List Bool) (rest : PeerState → Synced) →
      ((p : PeerState) → IsRun read p n (rest p)) → IsRun read peer (suc n) (event_done read write count peer event answer fails rest)
  event_is n count peer event (Ok messages) fails rest run = elim (tested (said read write messages fails).failed) [
    | inl e ↦ rw e (record { state = refl; taken = omega arith })
    | inr e ↦ rw e (record { state = (run (peer_after read peer event)).state; taken = omega (arith, (run (peer_after read peer event)).taken) })
  ]
  event_is n count peer event (Err (bad fault)) fails rest run = record { state = refl; taken = omega arith }
  event_is n count peer event (Err clock_full) fails rest run = record { state = (run (peer_after read peer event)).state; taken = omega (arith, (run (peer_after read peer event)).taken) }

  turn_is : (n count : ℕ) (peer : PeerState) (turn : Turn) (what : PeerTurn) (rest : ℕ → PeerState → Synced) →
      ((k : ℕ) (p : PeerState) → IsRun read p n (rest k p)) → IsRun read peer (suc n) (turn_done read write count peer turn what rest)
  turn_is n count peer turn of_other rest run = record { state = (run count peer).state; taken = omega (arith, (run count peer).taken) }
  turn_is n count peer turn of_close rest run = record { state = refl; taken = omega arith }
  turn_is n count peer turn (of_event event) rest run =
      event_is n (counted event count) peer event (peer_answer read turn.answers peer event) turn.fails (λ p. rest (counted event count) p) (λ p. run (counted event count) p)

  run_is : (n count : ℕ) (peer : PeerState) (turns : List Turn) → IsRun read peer n (synced read write n count peer turns)
  run_is zero count peer turns = is_ended peer zero done
  run_is (suc n) count peer [] = elim (tested (is_in_step peer)) [ inl e ↦ rw e (is_ended peer (suc n) done) | inr e ↦ rw e (is_ended peer (suc n) no_link) ]
  run_is (suc n) count peer (turn ∷ turns) = elim (tested (is_in_step peer)) [
    | inl e ↦ rw e (is_ended peer (suc n) done)
    | inr e ↦ rw e (turn_is n count peer turn (peer_turn turn.event.now turn.event.what) (λ k p. synced read write n k p turns) (λ k p. run_is n k p turns))
  ]

  -- ---- for callers

  pub synced_state : (n count : ℕ) (peer : PeerState) (turns : List Turn) → (synced read write n count peer turns).peer ≡ peer_after_all read peer (synced read write n count peer turns).events
  synced_state n count peer turns = (run_is n count peer turns).state

  pub synced_taken : (n count : ℕ) (peer : PeerState) (turns : List Turn) → (synced read write n count peer turns).taken ≤ n
  synced_taken n count peer turns = (run_is n count peer turns).taken

-- ---- how it ends

not_eight : (n : ℕ) → n < 8 → n ≡ 8 → ⊥
not_eight n lt e = omega (arith, lt, e)

status_eight : (ending : Ending) (taken : Bool) → status_by ending taken ≡ 8 ↔ (ending ≡ done) × (taken ≡ false)
status_eight done true = ((λ e. absurd (not_eight 0 (omega arith) e)), (λ h. absurd (true≢false h.1)))
status_eight done false = ((λ e. (refl, refl)), (λ h. refl))
status_eight (refused count fault) taken = ((λ e. absurd (not_eight 1 (omega arith) e)), (λ h. absurd (true≢false (ap is_refused h.0))))
  where
    is_refused : Ending → Bool
    is_refused done = false
    is_refused (refused c f) = true
    is_refused no_link = true
status_eight no_link taken = ((λ e. absurd (not_eight 6 (omega arith) e)), (λ h. absurd (true≢false (ap is_link h.0))))
  where
    is_link : Ending → Bool
    is_link done = false
    is_link (refused c f) = true
    is_link no_link = true

abbrev is_done : Ending → Bool
is_done done = true
is_done (refused k f) = false
is_done no_link = true

abbrev is_link : Ending → Bool
is_link done = false
is_link (refused k f) = false
is_link no_link = true

abbrev number_of : Ending → ℕ
number_of done = 0
number_of (refused k f) = k
number_of no_link = 0

-- the number of a refused message, counted from one on
abbrev CountsFrom : ℕ → Synced → Type 0
CountsFrom count s = (k : ℕ) (f : MessageFault) → s.ending ≡ refused k f → k ≡ count + messages_in s.events

counted_is : (event : PeerEventValue) (count rest : ℕ) → counted event count + rest ≡ count + counted event rest
counted_is (opened now) count rest = refl
counted_is (received bytes now) count rest = omega arith
counted_is (tick now) count rest = refl
counted_is (edited update) count rest = refl
counted_is (stated state now) count rest = refl

module _ (read : List ℕ → Result MessageValue MessageFault) (write : MessageValue → List ℕ) where
  done_counts : (count : ℕ) (peer : PeerState) (events : List PeerEventValue) (told : List Sent) → CountsFrom count (behind events told (ended peer done))
  done_counts count peer events told k f e = absurd (true≢false (ap is_done e))

  event_counts : (count : ℕ) (peer : PeerState) (event : PeerEventValue) (answer : Result (List MessageValue) Refusal) (fails : List Bool) (rest : PeerState → Synced) →
      ((p : PeerState) → CountsFrom (counted event count) (rest p)) → CountsFrom count (event_done read write (counted event count) peer event answer fails rest)
  event_counts count peer event (Ok messages) fails rest counts = elim (tested (said read write messages fails).failed) [
    | inl e ↦ rw e (done_counts count (peer_after read peer event) (event ∷ []) (said read write messages fails).told)
    | inr e ↦ rw e (λ k f g. counts (peer_after read peer event) k f g ∙ counted_is event count (messages_in (rest (peer_after read peer event)).events))
  ]
  event_counts count peer event (Err (bad fault)) fails rest counts = λ k f e. sym (ap number_of e) ∙ plus_zero (counted event count) ∙ counted_is event count 0
    where
      plus_zero : (n : ℕ) → n ≡ n + 0
      plus_zero n = omega arith
  event_counts count peer event (Err clock_full) fails rest counts =
      λ k f g. counts (peer_after read peer event) k f g ∙ counted_is event count (messages_in (rest (peer_after read peer event)).events)

  turn_counts : (count : ℕ) (peer : PeerState) (turn : Turn) (what : PeerTurn) (rest : ℕ → PeerState → Synced) →
      ((k : ℕ) (p : PeerState) → CountsFrom k (rest k p)) → CountsFrom count (turn_done read write count peer turn what rest)
  turn_counts count peer turn of_other rest counts = λ k f e. counts count peer k f e
  turn_counts count peer turn of_close rest counts = done_counts count peer [] []
  turn_counts count peer turn (of_event event) rest counts =
      event_counts count peer event (peer_answer read turn.answers peer event) turn.fails (λ p. rest (counted event count) p) (λ p. counts (counted event count) p)

  ended_counts : (count : ℕ) (peer : PeerState) (ending : Ending) → (ending ≡ done) ⊎ (ending ≡ no_link) → CountsFrom count (ended peer ending)
  ended_counts count peer ending (inl e) k f g = absurd (true≢false (ap is_done (sym e ∙ g)))
  ended_counts count peer ending (inr e) k f g = absurd (true≢false (ap is_link (sym e ∙ g)))

  pub run_counts : (n count : ℕ) (peer : PeerState) (turns : List Turn) → CountsFrom count (synced read write n count peer turns)
  run_counts zero count peer turns = ended_counts count peer done (inl refl)
  run_counts (suc n) count peer [] = elim (tested (is_in_step peer)) [ inl e ↦ rw e (ended_counts count peer done (inl refl)) | inr e ↦ rw e (ended_counts count peer no_link (inr refl)) ]
  run_counts (suc n) count peer (turn ∷ turns) = elim (tested (is_in_step peer)) [
    | inl e ↦ rw e (ended_counts count peer done (inl refl))
    | inr e ↦ rw e (turn_counts count peer turn (peer_turn turn.event.now turn.event.what) (λ k p. synced read write n k p turns) (λ k p. run_counts n k p turns))
  ]

  pub status_is : (turns : ℕ) (peer : PeerState) (told : List Turn) → peer.taken_step2 ≡ false →
      status_of (synced read write turns 0 peer told) ≡ 8
      ↔ ((synced read write turns 0 peer told).ending ≡ done) × (has_heard is_step2 read (synced read write turns 0 peer told).events ≡ false)
  status_is turns peer told fresh =
      let s = synced read write turns 0 peer told in
      let mark : s.peer.taken_step2 ≡ has_heard is_step2 read s.events = ap (λ p. p.taken_step2) (synced_state read write turns 0 peer told) ∙ events_step2 read peer s.events
      ∙ ap (λ t. t || has_heard is_step2 read s.events) fresh in
      let both = status_eight s.ending s.peer.taken_step2 in
      ((λ e. ((both.0 e).0, sym mark ∙ (both.0 e).1)), (λ h. both.1 (h.0, mark ∙ h.1)))
