-- What a peer receives, and when it has taken a step 2 and answered a step 1.
use Rattle.std.proofs.Common.{◌≡◌, ℕ, Bool, true, false, ◌||◌, List, [], ◌∷◌, Result, Ok, Err, inl, inr, refl, sym, ap, ◌∙◌}
use Rattle.yd_ops.specs.Received.{received_more}
use Rattle.yd_sync.specs.Message.{MessageValue, step1, step2, change, aware, auth, query}
use Rattle.yd_sync.specs.declared.fault.MessageFault.{MessageFault}
use Rattle.yd_sync.proofs.PresenceLemmas.{tested}
use Rattle.yd_hub.specs.Hub.{updates_of_reading}
use Rattle.yd_hub.specs.Peer.{PeerState, PeerEventValue, opened, received, tick, edited, stated, after_heard, is_stuck, peer_after, peer_after_all, updates_of_event, peer_updates, is_step1, is_step2, heard_as, has_heard, is_clock_full}
use Rattle.yd_hub.proofs.HubLemmas.{more_appended}

heard_brings : (peer : PeerState) (now : ℕ) (reading : Result MessageValue MessageFault) → (after_heard peer now reading).received ≡ received_more peer.received (updates_of_reading reading)
heard_brings peer now (Ok (step1 vector)) = refl
heard_brings peer now (Ok (step2 update)) = refl
heard_brings peer now (Ok (change update)) = refl
heard_brings peer now (Ok (aware es)) = refl
heard_brings peer now (Ok (auth bytes)) = refl
heard_brings peer now (Ok query) = refl
heard_brings peer now (Err fault) = refl

module _ (read : List ℕ → Result MessageValue MessageFault) where
  pub peer_event_brings : (peer : PeerState) (event : PeerEventValue) → (peer_after read peer event).received ≡ received_more peer.received (updates_of_event read event)
  peer_event_brings peer (opened now) = refl
  peer_event_brings peer (received bytes now) = heard_brings peer now (read bytes)
  peer_event_brings peer (tick now) = elim (tested (is_stuck peer.own now peer.table)) [ inl e ↦ rw e | inr e ↦ rw e ]
  peer_event_brings peer (edited update) = refl
  peer_event_brings peer (stated state now) = elim (tested (is_clock_full peer.own peer.table)) [ inl e ↦ rw e | inr e ↦ rw e ]

  pub peer_events_bring : (peer : PeerState) (events : List PeerEventValue) → (peer_after_all read peer events).received ≡ received_more peer.received (peer_updates read events)
  peer_events_bring peer [] = refl
  peer_events_bring peer (event ∷ events) = peer_events_bring (peer_after read peer event) events
      ∙ ap (λ r. received_more r (peer_updates read events)) (peer_event_brings peer event)
      ∙ sym (more_appended peer.received (updates_of_event read event) (peer_updates read events))

-- ---- the two marks

or_groups : (a b c : Bool) → (a || b) || c ≡ a || (b || c)
or_groups true b c = refl
or_groups false b c = refl

or_false : (a : Bool) → a ≡ a || false
or_false true = refl
or_false false = refl

or_true : (a : Bool) → true ≡ a || true
or_true true = refl
or_true false = refl

heard_step2 : (peer : PeerState) (now : ℕ) (reading : Result MessageValue MessageFault) → (after_heard peer now reading).taken_step2 ≡ peer.taken_step2 || is_step2 reading
heard_step2 peer now (Ok (step1 vector)) = or_false peer.taken_step2
heard_step2 peer now (Ok (step2 update)) = or_true peer.taken_step2
heard_step2 peer now (Ok (change update)) = or_false peer.taken_step2
heard_step2 peer now (Ok (aware es)) = or_false peer.taken_step2
heard_step2 peer now (Ok (auth bytes)) = or_false peer.taken_step2
heard_step2 peer now (Ok query) = or_false peer.taken_step2
heard_step2 peer now (Err fault) = or_false peer.taken_step2

heard_step1 : (peer : PeerState) (now : ℕ) (reading : Result MessageValue MessageFault) → (after_heard peer now reading).answered_step1 ≡ peer.answered_step1 || is_step1 reading
heard_step1 peer now (Ok (step1 vector)) = or_true peer.answered_step1
heard_step1 peer now (Ok (step2 update)) = or_false peer.answered_step1
heard_step1 peer now (Ok (change update)) = or_false peer.answered_step1
heard_step1 peer now (Ok (aware es)) = or_false peer.answered_step1
heard_step1 peer now (Ok (auth bytes)) = or_false peer.answered_step1
heard_step1 peer now (Ok query) = or_false peer.answered_step1
heard_step1 peer now (Err fault) = or_false peer.answered_step1

module _ (read : List ℕ → Result MessageValue MessageFault) where
  event_step2 : (peer : PeerState) (event : PeerEventValue) → (peer_after read peer event).taken_step2 ≡ peer.taken_step2 || heard_as is_step2 read event
  event_step2 peer (opened now) = or_false peer.taken_step2
  event_step2 peer (received bytes now) = heard_step2 peer now (read bytes)
  event_step2 peer (tick now) = elim (tested (is_stuck peer.own now peer.table)) [ inl e ↦ rw e (or_false peer.taken_step2) | inr e ↦ rw e (or_false peer.taken_step2) ]
  event_step2 peer (edited update) = or_false peer.taken_step2
  event_step2 peer (stated state now) = elim (tested (is_clock_full peer.own peer.table)) [ inl e ↦ rw e (or_false peer.taken_step2) | inr e ↦ rw e (or_false peer.taken_step2) ]

  event_step1 : (peer : PeerState) (event : PeerEventValue) → (peer_after read peer event).answered_step1 ≡ peer.answered_step1 || heard_as is_step1 read event
  event_step1 peer (opened now) = or_false peer.answered_step1
  event_step1 peer (received bytes now) = heard_step1 peer now (read bytes)
  event_step1 peer (tick now) = elim (tested (is_stuck peer.own now peer.table)) [ inl e ↦ rw e (or_false peer.answered_step1) | inr e ↦ rw e (or_false peer.answered_step1) ]
  event_step1 peer (edited update) = or_false peer.answered_step1
  event_step1 peer (stated state now) = elim (tested (is_clock_full peer.own peer.table)) [ inl e ↦ rw e (or_false peer.answered_step1) | inr e ↦ rw e (or_false peer.answered_step1) ]

  pub events_step2 : (peer : PeerState) (events : List PeerEventValue) → (peer_after_all read peer events).taken_step2 ≡ peer.taken_step2 || has_heard is_step2 read events
  events_step2 peer [] = or_false peer.taken_step2
  events_step2 peer (event ∷ events) = events_step2 (peer_after read peer event) events ∙ ap (λ t. t || has_heard is_step2 read events) (event_step2 peer event)
      ∙ or_groups peer.taken_step2 (heard_as is_step2 read event) (has_heard is_step2 read events)

  pub events_step1 : (peer : PeerState) (events : List PeerEventValue) → (peer_after_all read peer events).answered_step1 ≡ peer.answered_step1 || has_heard is_step1 read events
  events_step1 peer [] = or_false peer.answered_step1
  events_step1 peer (event ∷ events) = events_step1 (peer_after read peer event) events ∙ ap (λ t. t || has_heard is_step1 read events) (event_step1 peer event)
      ∙ or_groups peer.answered_step1 (heard_as is_step1 read event) (has_heard is_step1 read events)
