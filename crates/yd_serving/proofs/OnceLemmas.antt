-- Over one network that tells, the loop of a client ends in one way.
use Rattle.std.proofs.Common.{◌≡◌, ℕ, zero, suc, Bool, true, false, List, [], ◌∷◌, ◌++◌, length, Option, Some, None, Result, Ok, Err, inl, inr, refl, sym, ap, ◌∙◌, subst, arith, true≢false, if◌then◌else◌}
use Rattle.std.proofs.lemmas.List.{append_cancel_left, append_cancel_right}
use Rattle.yd_world.specs.Traffic.{Traffic}
use Rattle.yd_world.specs.declared.board.Sent.{Sent}
use Rattle.yd_world.specs.declared.event.Event.{Event}
use Rattle.yd_sync.proofs.PresenceLemmas.{tested}
use Rattle.yd_sync.specs.Message.{MessageValue, aware, auth, change, query, step1, step2}
use Rattle.yd_sync.specs.MessageReading.{message_reading}
use Rattle.yd_sync.specs.MessageWriting.{bytes_of_message}
use Rattle.yd_sync.specs.declared.fault.MessageFault.{MessageFault}
use Rattle.yd_hub.specs.Answers.{Answers}
use Rattle.yd_hub.specs.Carrying.{flags_of, later_fails, next_fails}
use Rattle.yd_hub.specs.Peer.{PeerEventValue, PeerState, Refusal, answer_to_heard, bad, clock_full, edited, opened, peer_after, peer_answer, received, stated, tick}
use Rattle.yd_hub.specs.Serving.{Turn}
use Rattle.yd_hub.specs.Syncing.{PeerTurn, Synced, counted, done, ended, event_done, is_in_step, of_close, of_event, of_other, peer_turn, said, synced, turn_done}
use Rattle.yd_hub.proofs.FlagLemmas.{flags_append}
use Rattle.yd_serving.specs.Board.{Passes}
use Rattle.yd_serving.specs.Serving.{events_of}
use Rattle.yd_serving.specs.Syncing.{SyncEndsOnce}

abbrev Read : Type 0
Read = List ℕ → Result MessageValue MessageFault

-- where the same sends failed, both lead to the same peer and the same ending
abbrev Decides : Synced → Synced → Type 0
Decides s t = flags_of s.told ≡ flags_of t.told → (s.peer ≡ t.peer) × (s.ending ≡ t.ending)

same_decides : (s : Synced) → Decides s s
same_decides s flags = (refl, refl)

-- ---- lists of outcomes

abbrev head_of : List Bool → Bool
head_of [] = false
head_of (b ∷ bs) = b

abbrev rest_of : List Bool → List Bool
rest_of [] = []
rest_of (b ∷ bs) = bs

no_more : (n : ℕ) → suc n ≡ 0 → ⊥
no_more n e = omega (arith, e)

-- ---- what is said

-- two answers have the same outcome: as many messages, or one refusal
abbrev AreAlike : Result (List MessageValue) Refusal → Result (List MessageValue) Refusal → Type 0
AreAlike (Ok ms) (Ok ns) = length ms ≡ length ns
AreAlike (Ok ms) (Err b) = ⊥
AreAlike (Err a) (Ok ns) = ⊥
AreAlike (Err a) (Err b) = a ≡ b

alike_self : (answer : Result (List MessageValue) Refusal) → AreAlike answer answer
alike_self (Ok ms) = refl
alike_self (Err a) = refl

heard_alike : (one other : Answers) (peer : PeerState) (message : Result MessageValue MessageFault) → AreAlike (answer_to_heard one peer message) (answer_to_heard other peer message)
heard_alike one other peer (Ok (step1 vector)) = refl
heard_alike one other peer (Ok (step2 update)) = refl
heard_alike one other peer (Ok (change update)) = refl
heard_alike one other peer (Ok (aware es)) = refl
heard_alike one other peer (Ok (auth bytes)) = refl
heard_alike one other peer (Ok query) = refl
heard_alike one other peer (Err fault) = refl

answer_alike : (read : Read) (one other : Answers) (peer : PeerState) (event : PeerEventValue) → AreAlike (peer_answer read one peer event) (peer_answer read other peer event)
answer_alike read one other peer (opened now) = refl
answer_alike read one other peer (received bytes now) = heard_alike one other peer (read bytes)
answer_alike read one other peer (tick now) = alike_self (peer_answer read one peer (tick now))
answer_alike read one other peer (edited update) = refl
answer_alike read one other peer (stated state now) = alike_self (peer_answer read one peer (stated state now))

-- ---- the loop

module _ (read : Read) (write : MessageValue → List ℕ) where
  -- as many messages with the same outcomes fail alike, and what comes behind them has the same outcomes
  said_same : (ms ns : List MessageValue) (fails gails more others : List Bool) → length ms ≡ length ns →
      flags_of (said read write ms fails).told ++ more ≡ flags_of (said read write ns gails).told ++ others →
      ((said read write ms fails).failed ≡ (said read write ns gails).failed) × ((said read write ms fails).failed ≡ false → more ≡ others)
  said_same [] [] fails gails more others len = λ flags. (refl, λ h. flags)
  said_same [] (n ∷ ns) fails gails more others len = λ flags. absurd (no_more (length ns) (sym len))
  said_same (m ∷ ms) [] fails gails more others len = λ flags. absurd (no_more (length ms) len)
  said_same (m ∷ ms) (n ∷ ns) fails gails more others len = elim (tested (next_fails fails)) [
    | inl fail ↦ elim (tested (next_fails gails)) [
      | inl gail ↦ rw (fail, gail) (λ flags. (refl, λ h. absurd (true≢false h)))
      | inr went ↦ rw (fail, went) (λ flags. absurd (true≢false (ap head_of flags)))
    ]
    | inr goes ↦ elim (tested (next_fails gails)) [
      | inl gail ↦ rw (goes, gail) (λ flags. absurd (true≢false (sym (ap head_of flags))))
      | inr went ↦ rw (goes, went) (λ flags. said_same ms ns (later_fails fails) (later_fails gails) more others (omega (arith, len)) (ap rest_of flags))
    ]
  ]

  -- the loop ends where a send failed, and else goes on
  choose : (failed other : Bool) (peer : PeerState) (rest others : Synced) → failed ≡ other →
      (failed ≡ false → flags_of (if failed then ended peer done else rest).told ≡ flags_of (if other then ended peer done else others).told) →
      Decides rest others →
      ((if failed then ended peer done else rest).peer ≡ (if other then ended peer done else others).peer)
      × ((if failed then ended peer done else rest).ending ≡ (if other then ended peer done else others).ending)
  choose true true peer rest others same flags decides = (refl, refl)
  choose true false peer rest others same flags decides = absurd (true≢false same)
  choose false true peer rest others same flags decides = absurd (true≢false (sym same))
  choose false false peer rest others same flags decides = decides (flags refl)

  event_same : (count : ℕ) (peer : PeerState) (event : PeerEventValue) (one other : Result (List MessageValue) Refusal) (fails gails : List Bool) (rest others : PeerState → Synced) →
      AreAlike one other → ((p : PeerState) → Decides (rest p) (others p)) →
      Decides (event_done read write count peer event one fails rest) (event_done read write count peer event other gails others)
  event_same count peer event (Ok ms) (Ok ns) fails gails rest others alike decides = λ flags.
      let after : PeerState = peer_after read peer event in
      let one = said read write ms fails in
      let other = said read write ns gails in
      let later : Synced = if one.failed then ended after done else rest after in
      let others_later : Synced = if other.failed then ended after done else others after in
      let split : flags_of one.told ++ flags_of later.told ≡ flags_of other.told ++ flags_of others_later.told =
      sym (flags_append one.told later.told) ∙ flags ∙ flags_append other.told others_later.told in
      let both = said_same ms ns fails gails (flags_of later.told) (flags_of others_later.told) alike split in
      choose one.failed other.failed after (rest after) (others after) both.0 both.1 (decides after)
  event_same count peer event (Ok ms) (Err b) fails gails rest others alike decides = absurd alike
  event_same count peer event (Err a) (Ok ns) fails gails rest others alike decides = absurd alike
  event_same count peer event (Err (bad fault)) (Err other) fails gails rest others alike decides = rw (sym alike) (λ flags. (refl, refl))
  event_same count peer event (Err clock_full) (Err other) fails gails rest others alike decides = rw (sym alike) (λ flags. decides (peer_after read peer event) flags)

  turn_same : (count : ℕ) (peer : PeerState) (turn another : Turn) (what : PeerTurn) (rest others : ℕ → PeerState → Synced) →
      ((k : ℕ) (p : PeerState) → Decides (rest k p) (others k p)) →
      Decides (turn_done read write count peer turn what rest) (turn_done read write count peer another what others)
  turn_same count peer turn another of_other rest others decides = λ flags. decides count peer flags
  turn_same count peer turn another of_close rest others decides = λ flags. (refl, refl)
  turn_same count peer turn another (of_event event) rest others decides =
      event_same (counted event count) peer event (peer_answer read turn.answers peer event) (peer_answer read another.answers peer event) turn.fails another.fails
      (λ p. rest (counted event count) p) (λ p. others (counted event count) p) (answer_alike read turn.answers another.answers peer event) (λ p. decides (counted event count) p)

  -- the next event is the same, and so are those behind it
  abbrev next_event : List Event → Event → Event
  next_event [] other = other
  next_event (event ∷ events) other = event

  abbrev later_events : List Event → List Event
  later_events [] = []
  later_events (event ∷ events) = events

  pub run_same : (n count : ℕ) (peer : PeerState) (turns others : List Turn) → events_of turns ≡ events_of others →
      Decides (synced read write n count peer turns) (synced read write n count peer others)
  run_same zero count peer turns others same = λ flags. (refl, refl)
  run_same (suc n) count peer [] [] same = λ flags. (refl, refl)
  run_same (suc n) count peer [] (other ∷ others) same = λ flags. absurd (no_more (length (events_of others)) (sym (ap (λ (es : List Event). length es) same)))
  run_same (suc n) count peer (turn ∷ turns) [] same = λ flags. absurd (no_more (length (events_of turns)) (ap (λ (es : List Event). length es) same))
  run_same (suc n) count peer (turn ∷ turns) (other ∷ others) same = elim (tested (is_in_step peer)) [
    | inl e ↦ rw e (λ flags. (refl, refl))
    | inr e ↦ rw (e, sym (ap (λ (es : List Event). next_event es turn.event) same)) (turn_same count peer turn other (peer_turn turn.event.now turn.event.what) (λ k p. synced read write n k p turns) (λ k p. synced read write n k p others)
        (λ k p. run_same n k p turns others (ap later_events same)))
  ]

-- ---- over a network that tells

-- what was taken of it and told to it is one thing
passes_once : (traffic : Traffic) (now : Option Traffic) (events others : List Event) (told another : List Sent) → Passes (Some traffic) now events told → Passes (Some traffic) now others another →
    (events ≡ others) × (told ≡ another)
passes_once traffic None events others told another one other = absurd one
passes_once traffic (Some now) events others told another one other = (
  append_cancel_right events others now.coming (sym one.0 ∙ other.0),
  append_cancel_left traffic.sent told another (sym one.1 ∙ other.1),
)

pub ends_once : SyncEndsOnce
ends_once count peer one other traffic old new ending another is_told a b =
    let same = passes_once traffic new.told (events_of a.turns) (events_of b.turns) a.told b.told
    (subst (λ (t : Option Traffic). Passes t new.told (events_of a.turns) a.told) is_told a.trades.passes)
    (subst (λ (t : Option Traffic). Passes t new.told (events_of b.turns) b.told) is_told b.trades.passes) in
    let flags : flags_of (synced message_reading bytes_of_message count 0 peer a.turns).told ≡ flags_of (synced message_reading bytes_of_message count 0 peer b.turns).told =
    ap (λ (s : Synced). flags_of s.told) a.outcome ∙ ap (λ (sent : List Sent). flags_of sent) same.1 ∙ sym (ap (λ (s : Synced). flags_of s.told) b.outcome) in
    let both = run_same message_reading bytes_of_message count 0 peer a.turns b.turns same.0 flags in (
      sym (ap (λ (s : Synced). s.peer) a.outcome) ∙ both.0 ∙ ap (λ (s : Synced). s.peer) b.outcome,
      sym (ap (λ (s : Synced). s.ending) a.outcome) ∙ both.1 ∙ ap (λ (s : Synced). s.ending) b.outcome,
    )
