-- One turn of a client.
use Rattle.std.proofs.Common.{◌≡◌, ◌≢◌, ◌+◌, ◌<◌, ◌≤◌, ℕ, zero, suc, Bool, true, false, List, [], ◌∷◌, ◌++◌, length, Result, Ok, Err, if◌then◌else◌, refl, sym, ap, ◌∙◌, subst, arith, true≢false, append-nil, inl, inr}
use Rattle.std.proofs.lemmas.Result.{err_from_is_err_and}
use Rattle.std.specs.Result.{IsErrAnd}
use Rattle.yd_ids.specs.declared.id.Client.{Client}
use Rattle.yd_world.specs.Faults.{HasOutage}
use Rattle.yd_world.specs.Traffic.{IsNoFault, TakesEvent}
use Rattle.yd_world.specs.declared.board.Sent.{Sent}
use Rattle.yd_world.specs.declared.event.Event.{Event}
use Rattle.yd_world.specs.declared.fault.Outage.{Outage}
use Rattle.yd_world.specs.declared.fault.Outage.TheVariants.{NoMemory, Failed}
use Rattle.yd_sync.specs.Message.{MessageValue, step1, step2, change, aware, auth, query}
use Rattle.yd_sync.specs.declared.fault.MessageFault.{MessageFault}
use Rattle.yd_sync.specs.MessageReading.{message_reading}
use Rattle.yd_sync.specs.MessageWriting.{bytes_of_message}
use Rattle.yd_sync.specs.Table.{is_due}
use Rattle.yd_sync.proofs.PresenceLemmas.{tested}
use Rattle.yd_doc.specs.Kept.{Kept, own_deletes, received_of}
use Rattle.yd_hub.specs.Answers.{Answers}
use Rattle.yd_hub.specs.OwnAnswers.{AreOwnDeletes}
use Rattle.yd_hub.specs.Peer.{PeerEventValue, PeerState, Refusal, after_heard, answer_to_heard, bad, clock_full, edited, is_clock_full, is_stuck, opened, peer_after, peer_answer, received, stated, tick}
use Rattle.yd_hub.specs.Serving.{Turn}
use Rattle.yd_hub.specs.Syncing.{PeerTurn, Said, Synced, behind, counted, done, ended, event_done, of_close, of_event, of_other, peer_after_turn, peer_turn, refused, said, turn_done}
use Rattle.yd_machines.specs.Asked.{answers_in}
use Rattle.yd_machines.specs.PeerStep.{RefusesEvent, TakesEvent as StepTakes}
use Rattle.yd_machines.specs.declared.fault.PeerFault.{PeerFault}
use Rattle.yd_machines.specs.declared.fault.PeerFault.TheVariants as faults
use Rattle.yd_serving.specs.declared.fault.SyncFault.{SyncFault}
use Rattle.yd_serving.specs.declared.fault.SyncFault.TheVariants.{NoLink, NoMemory as NoRoom, Refused}
use Rattle.yd_serving.specs.Board.{Board, Trades, TradesFew}
use Rattle.yd_serving.specs.Exchange.{after_refusal, Exchanges, ExchangesOn, Says, TakesTurn, TakesTurnOn}
use Rattle.yd_serving.specs.Syncing.{IsSyncLinked, sync_fault}
use Rattle.yd_serving.proofs.AnsweringLemmas.{Speaks, has_answers}
use Rattle.yd_serving.proofs.BoardLemmas.{trades_both, trades_none, trades_nothing}
use Rattle.yd_serving.proofs.TurnLemmas.{takes_kept}

-- ---- a refused event changes nothing

abbrev is_answer : {X E : Type 0} → Result X E → Bool
is_answer (Ok x) = true
is_answer (Err e) = false

no_answer : {X E : Type 0} {x : X} {e : E} → ◌≡◌ {A = Result X E} (Ok x) (Err e) → ⊥
no_answer same = true≢false (ap is_answer same)

message_answered : (answers : Answers) (peer : PeerState) (message : MessageValue) (refusal : Refusal) → answer_to_heard answers peer (Ok message) ≡ Err refusal → ⊥
message_answered answers peer (step1 vector) refusal is = no_answer is
message_answered answers peer (step2 update) refusal is = no_answer is
message_answered answers peer (change update) refusal is = no_answer is
message_answered answers peer (aware es) refusal is = no_answer is
message_answered answers peer (auth bytes) refusal is = no_answer is
message_answered answers peer query refusal is = no_answer is

heard_stays : (answers : Answers) (peer : PeerState) (now : ℕ) (reading : Result MessageValue MessageFault) (refusal : Refusal) → answer_to_heard answers peer reading ≡ Err refusal →
    after_heard peer now reading ≡ peer
heard_stays answers peer now (Ok message) refusal is = absurd (message_answered answers peer message refusal is)
heard_stays answers peer now (Err fault) refusal is = refl

refused_stays : (answers : Answers) (peer : PeerState) (event : PeerEventValue) (refusal : Refusal) → peer_answer message_reading answers peer event ≡ Err refusal →
    peer_after message_reading peer event ≡ peer
refused_stays answers peer (opened now) refusal is = refl
refused_stays answers peer (received bytes now) refusal is = heard_stays answers peer now (message_reading bytes) refusal is
refused_stays answers peer (tick now) refusal is = elim (tested (is_stuck peer.own now peer.table)) [
  | inl stuck ↦ rw stuck refl
  | inr other ↦ elim (tested (is_due peer.own now peer.table)) [ inl due ↦ absurd (no_answer (rw (other, due) at is)) | inr not_due ↦ absurd (no_answer (rw (other, not_due) at is)) ]
]
refused_stays answers peer (edited update) refusal is = absurd (no_answer is)
refused_stays answers peer (stated state now) refusal is = elim (tested (is_clock_full peer.own peer.table)) [
  | inl full ↦ rw full refl
  | inr other ↦ absurd (no_answer (rw other at is))
]

-- ---- an event

-- behind messages, of which one failed or none
abbrev behind_said : PeerEventValue → PeerState → (PeerState → Synced) → Said → Synced
behind_said event peer_now rest s = behind (event ∷ []) s.told (if s.failed then ended peer_now done else rest peer_now)

said_outcome : (count : ℕ) (event : PeerEventValue) (peer peer_now : PeerState) (answers : Answers) (sent : List MessageValue) (failed : Bool) (a b : Board) (says : Says sent failed a b) →
    peer_now ≡ peer_after message_reading peer event → peer_answer message_reading answers peer event ≡ Ok sent → (rest : PeerState → Synced) →
    event_done message_reading bytes_of_message count peer event (peer_answer message_reading answers peer event) says.fails rest
    ≡ behind_said event peer_now rest (record { told = says.told; failed = failed })
said_outcome count event peer peer_now answers sent failed a b says after answer rest =
    ap (λ (answer : Result (List MessageValue) Refusal). event_done message_reading bytes_of_message count peer event answer says.fails rest) answer
    ∙ ap (λ (s : Said). behind_said event (peer_after message_reading peer event) rest s) says.outcome
    ∙ ap (λ (p : PeerState). behind_said event p rest (record { told = says.told; failed = failed })) (sym after)

-- its messages went out
pub exchanged : (replica : Kept) (count : ℕ) (event : PeerEventValue) (peer peer_now : PeerState) (sent messages : List MessageValue) (failed : Bool) (a b : Board) → peer.received ≡ received_of replica →
    AreOwnDeletes (own_deletes replica) (received_of replica) → StepTakes replica peer peer_now event sent → messages ≡ sent → Says messages failed a b → ExchangesOn count event peer peer_now a b (Ok failed)
exchanged replica count event peer peer_now sent messages false a b same deletes takes are says_messages =
    let says : Says sent false a b = subst (λ (ms : List MessageValue). Says ms false a b) are says_messages in
    record {
      answers = answers_in replica takes.vector;
      fails = says.fails;
      told = says.told;
      are = has_answers replica peer.received takes.vector same (takes.counts, deletes);
      outcome = said_outcome count event peer peer_now (answers_in replica takes.vector) sent false a b says takes.after takes.answer;
      state = takes.after;
      trades = says.trades;
    }
exchanged replica count event peer peer_now sent messages true a b same deletes takes are says_messages =
    let says : Says sent true a b = subst (λ (ms : List MessageValue). Says ms true a b) are says_messages in
    record {
      answers = answers_in replica takes.vector;
      fails = says.fails;
      told = says.told;
      are = has_answers replica peer.received takes.vector same (takes.counts, deletes);
      outcome = said_outcome count event peer peer_now (answers_in replica takes.vector) sent true a b says takes.after takes.answer;
      state = takes.after;
      trades = says.trades;
    }

-- it was refused, and changed nothing
refused_so : (replica : Kept) (vector : List (Client × ℕ)) (count : ℕ) (event : PeerEventValue) (peer peer_now : PeerState) (refusal : Refusal) (b : Board) (later : (PeerState → Synced) → Synced) →
    peer.received ≡ received_of replica → Speaks replica vector → peer_now ≡ peer → ((answers : Answers) → peer_answer message_reading answers peer event ≡ Err refusal) →
    ((rest : PeerState → Synced) → event_done message_reading bytes_of_message count peer_now event (Err refusal) [] rest ≡ behind (event ∷ []) [] (later rest)) →
    Exchanges count event peer peer_now b b later
refused_so replica vector count event peer peer_now refusal b later same counts stays refuses ends = record {
  answers = answers_in replica vector;
  fails = [];
  told = [];
  are = has_answers replica peer.received vector same counts;
  outcome = λ rest. ap (λ (answer : Result (List MessageValue) Refusal). event_done message_reading bytes_of_message count peer event answer [] rest) (refuses (answers_in replica vector))
      ∙ subst (λ (p : PeerState). event_done message_reading bytes_of_message count p event (Err refusal) [] rest ≡ behind (event ∷ []) [] (later rest)) stays (ends rest);
  state = stays ∙ sym (refused_stays (answers_in replica vector) peer event refusal (refuses (answers_in replica vector)));
  trades = trades_none b;
}

still : (answers : Answers) (peer : PeerState) (event : PeerEventValue) (refusal : Refusal) → ((a : Answers) → peer_answer message_reading a peer event ≡ Err refusal) → peer_after message_reading peer event ≡ peer
still answers peer event refusal refuses = refused_stays answers peer event refusal (refuses answers)

pub refused_exchanges : (replica : Kept) (vector : List (Client × ℕ)) (count : ℕ) (event : PeerEventValue) (peer peer_now : PeerState) (fault : PeerFault) (b : Board) → peer.received ≡ received_of replica →
    Speaks replica vector → peer_now ≡ peer → RefusesEvent peer event fault → ExchangesOn count event peer peer_now b b (after_refusal count fault)
refused_exchanges replica vector count event peer peer_now faults.NoMemory b same counts stays refuses = record { events = []; told = []; few = omega arith; trades = trades_none b }
refused_exchanges replica vector count event peer peer_now (faults.Bad fault) b same counts stays refuses =
    refused_so replica vector count event peer peer_now (bad fault) b (λ rest. ended peer_now (refused count fault)) same counts stays refuses
    (λ rest. ap (λ (p : PeerState). behind (event ∷ []) [] (ended p (refused count fault))) (here (bad fault) refuses))
  where
    here : (refusal : Refusal) → ((a : Answers) → peer_answer message_reading a peer event ≡ Err refusal) → peer_after message_reading peer_now event ≡ peer_now
    here refusal refuses_so_too = subst (λ (p : PeerState). peer_after message_reading p event ≡ p) (sym stays) (still (answers_in replica vector) peer event refusal refuses_so_too)
refused_exchanges replica vector count event peer peer_now faults.ClockFull b same counts stays refuses =
    refused_so replica vector count event peer peer_now clock_full b (λ rest. rest peer_now) same counts stays refuses
    (λ rest. ap (λ (p : PeerState). behind (event ∷ []) [] (rest p)) (here clock_full refuses))
  where
    here : (refusal : Refusal) → ((a : Answers) → peer_answer message_reading a peer event ≡ Err refusal) → peer_after message_reading peer_now event ≡ peer_now
    here refusal refuses_so_too = subst (λ (p : PeerState). peer_after message_reading p event ≡ p) (sym stays) (still (answers_in replica vector) peer event refusal refuses_so_too)

pub refusal_linked : (count : ℕ) (fault : PeerFault) → IsSyncLinked (after_refusal count fault)
refusal_linked count faults.NoMemory = tt
refusal_linked count (faults.Bad fault) = tt
refusal_linked count faults.ClockFull = tt

-- an error that is passed on
pub front_passes : (count : ℕ) (event : PeerEventValue) (peer peer_now : PeerState) (a b : Board) (result : Result Bool SyncFault) → IsErrAnd result (λ fault. fault ≡ NoRoom) → TradesFew 0 a b →
    ExchangesOn count event peer peer_now a b result
front_passes count event peer peer_now a b result is front = let p = err_from_is_err_and result is in rw (p.1, p.2) front

pub room_linked : (result : Result Bool SyncFault) → IsErrAnd result (λ fault. fault ≡ NoRoom) → IsSyncLinked result
room_linked result is = let p = err_from_is_err_and result is in rw (p.1, p.2) tt

-- ---- a turn

module _ (replica : Kept) (vector : List (Client × ℕ)) (event : Event) (heard : ℕ) (peer : PeerState) (same : peer.received ≡ received_of replica) (counts : Speaks replica vector) where
  abbrev turn_of : Turn
  turn_of = record { event = event; answers = answers_in replica vector; fails = [] }

  -- the event is of another session
  pub turn_passes : (a b : Board) → peer_turn event.now event.what ≡ of_other → Trades a b (event ∷ []) [] → TakesTurnOn heard heard peer peer a b (Ok false)
  turn_passes a b is next =
      record {
        turn = turn_of;
        events = [];
        told = [];
        are = has_answers replica peer.received vector same counts;
        outcome = λ rest. ap (λ (what : PeerTurn). turn_done message_reading bytes_of_message heard peer turn_of what rest) is;
        state = sym (ap (λ (what : PeerTurn). peer_after_turn message_reading bytes_of_message peer what) is);
        trades = next;
      }

  -- the session ended
  pub turn_closes : (a b : Board) → peer_turn event.now event.what ≡ of_close → Trades a b (event ∷ []) [] → TakesTurnOn heard heard peer peer a b (Ok true)
  turn_closes a b is next =
      record {
        turn = turn_of;
        events = [];
        told = [];
        are = has_answers replica peer.received vector same counts;
        outcome = λ rest. ap (λ (what : PeerTurn). turn_done message_reading bytes_of_message heard peer turn_of what rest) is;
        state = sym (ap (λ (what : PeerTurn). peer_after_turn message_reading bytes_of_message peer what) is);
        trades = next;
      }

-- the peer got the event
turn_exchanges : (event : Event) (ev : PeerEventValue) (heard : ℕ) (peer peer_now : PeerState) (a b c : Board) (later : (PeerState → Synced) → Synced) → peer_turn event.now event.what ≡ of_event ev →
    Trades a b (event ∷ []) [] → Exchanges (counted ev heard) ev peer peer_now b c later → TakesTurn heard peer peer_now a c (λ rest. later (λ p. rest (counted ev heard) p))
turn_exchanges event ev heard peer peer_now a b c later is next so = record {
  turn = turn;
  events = ev ∷ [];
  told = so.told;
  are = so.are;
  outcome = λ rest. ap (λ (what : PeerTurn). turn_done message_reading bytes_of_message heard peer turn what rest) is ∙ so.outcome (λ p. rest (counted ev heard) p);
  state = so.state ∙ sym (ap (λ (what : PeerTurn). peer_after_turn message_reading bytes_of_message peer what) is);
  trades = trades_both a b c (event ∷ []) [] [] so.told next so.trades;
}
  where
    turn : Turn
    turn = record { event = event; answers = so.answers; fails = so.fails }

front_behind : (event : Event) (a b c : Board) → Trades a b (event ∷ []) [] → TradesFew 0 b c → TradesFew 1 a c
front_behind event a b c next so = record {
  events = event ∷ so.events;
  told = so.told;
  few = omega (arith, so.few);
  trades = trades_both a b c (event ∷ []) so.events [] so.told next so.trades;
}

pub turn_takes : (event : Event) (ev : PeerEventValue) (heard count : ℕ) (peer peer_now : PeerState) (a b c : Board) (result : Result Bool SyncFault) → count ≡ counted ev heard →
    peer_turn event.now event.what ≡ of_event ev → Trades a b (event ∷ []) [] → ExchangesOn count ev peer peer_now b c result → TakesTurnOn heard count peer peer_now a c result
turn_takes event ev heard count peer peer_now a b c result many is next so =
    subst (λ (k : ℕ). TakesTurnOn heard k peer peer_now a c result) (sym many) (by_result result (subst (λ (k : ℕ). ExchangesOn k ev peer peer_now b c result) many so))
  where
    by_result : (r : Result Bool SyncFault) → ExchangesOn (counted ev heard) ev peer peer_now b c r → TakesTurnOn heard (counted ev heard) peer peer_now a c r
    by_result (Ok false) on = turn_exchanges event ev heard peer peer_now a b c (λ rest. rest peer_now) is next on
    by_result (Ok true) on = turn_exchanges event ev heard peer peer_now a b c (λ rest. ended peer_now done) is next on
    by_result (Err (Refused number fault)) on = turn_exchanges event ev heard peer peer_now a b c (λ rest. ended peer_now (refused number fault)) is next on
    by_result (Err NoLink) on = absurd on
    by_result (Err NoRoom) on = front_behind event a b c next on

-- the board failed, or memory ended, before a turn
pub no_turn : (heard heard_now : ℕ) (peer : PeerState) (a b : Board) (e : Outage) (result : Result Bool SyncFault) → IsErrAnd result (λ fault. fault ≡ sync_fault e) →
    TakesEvent {E = Outage} a.told b.told (Err e) → HasOutage {X = Event} a.faults b.faults (Err e) → b.send_faults ≡ a.send_faults → TakesTurnOn heard heard_now peer peer a b result
no_turn heard heard_now peer a b NoMemory result is took cause sends = let p = err_from_is_err_and result is in
    rw (p.1, p.2) (record { events = []; told = []; few = omega arith; trades = trades_nothing a b (takes_kept a.told b.told NoMemory took) (omega (arith, cause)) sends })
no_turn heard heard_now peer a b Failed result is took cause sends = let p = err_from_is_err_and result is in
    rw (p.1, p.2) (record { stays = refl; trades = trades_nothing a b (takes_kept a.told b.told Failed took) cause.0 sends }, cause.1)

pub no_link_fault : (X : Type 0) {Y : Type 0} (e : Outage) (result : Result Y SyncFault) → IsErrAnd result (λ fault. fault ≡ sync_fault e) → IsNoFault {X = X} (Err e) → IsSyncLinked result
no_link_fault X NoMemory result is none = let p = err_from_is_err_and result is in rw (p.1, p.2) tt
no_link_fault X Failed result is none = absurd none
