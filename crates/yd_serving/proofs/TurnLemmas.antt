-- One turn of a server: an event, what the hub orders, and what follows sends that fail.
use Rattle.std.proofs.Common.{◌≡◌, ◌≤◌, ℕ, Bool, List, [], ◌∷◌, ◌++◌, map, length, Option, Some, None, Result, Ok, Err, inr, refl, sym, ap, ◌∙◌, subst, arith, append_assoc, append-nil}
use Rattle.std.proofs.lemmas.List.{map-append}
use Rattle.std.proofs.lemmas.Result.{err_from_is_err_and}
use Rattle.std.specs.Result.{IsErrAnd}
use Rattle.yd_ids.specs.declared.id.Client.{Client}
use Rattle.yd_world.specs.Faults.{HasOutage}
use Rattle.yd_world.specs.Traffic.{IsNoFault, Keeps, TakesEvent, Traffic}
use Rattle.yd_world.specs.declared.board.Sent.{Sent}
use Rattle.yd_world.specs.declared.event.Event.{Event}
use Rattle.yd_world.specs.declared.fault.Outage.{Outage}
use Rattle.yd_world.specs.declared.fault.Outage.TheVariants.{NoMemory, Failed}
use Rattle.yd_sync.specs.MessageReading.{message_reading}
use Rattle.yd_sync.specs.MessageWriting.{bytes_of_message}
use Rattle.yd_doc.specs.Kept.{Kept, received_of}
use Rattle.yd_hub.specs.Actions.{ActionValue}
use Rattle.yd_hub.specs.Carrying.{Outcome, Settled, carried, settled, settled_after}
use Rattle.yd_hub.specs.Hub.{HubState, hub_actions, hub_after}
use Rattle.yd_hub.specs.Serving.{Turn, closed_at, events_served, told_served, turn_after}
use Rattle.yd_hub.proofs.OrderLemmas.{hub_orders}
use Rattle.yd_machines.specs.Asked.{answers_in}
use Rattle.yd_serving.specs.declared.fault.ServeFault.{ServeFault}
use Rattle.yd_serving.specs.declared.fault.ServeFault.TheVariants.{NoMemory as NoRoom}
use Rattle.yd_serving.specs.Answering.{AnswersTurns}
use Rattle.yd_serving.specs.Board.{Board, Trades}
use Rattle.yd_serving.specs.Carried.{Carries, CarriesFront}
use Rattle.yd_serving.specs.Reason.{reason_of}
use Rattle.yd_serving.specs.Serving.{IsLinked, LosesLink, ServesAll, ServesFront, ServesOn, ServesTurns, serve_fault}
use Rattle.yd_serving.specs.Settled.{AreEnding, Settles, SettlesFront}
use Rattle.yd_serving.proofs.AnsweringLemmas.{Speaks, has_answers}
use Rattle.yd_serving.proofs.BoardLemmas.{trades_both, trades_nothing}
use Rattle.yd_serving.proofs.SettleLemmas.{order_ends}

-- a turn, as a replica answers in it
abbrev turn_of : Kept → List (Client × ℕ) → Event → List Bool → Turn
turn_of replica vector event fails = record { event = event; answers = answers_in replica vector; fails = fails }

-- what was ordered is what the replica answers
answered : (replica : Kept) (hub : HubState) (vector : List (Client × ℕ)) (event : Event) (fails : List Bool) → hub.received ≡ received_of replica → Speaks replica vector →
    AnswersTurns hub (turn_of replica vector event fails ∷ [])
answered replica hub vector event fails same counts = (has_answers replica hub.received vector same counts, tt)

-- what came of an outcome: its sends that failed were settled
abbrev through : HubState → Outcome → Settled
through hub outcome = settled_after outcome.told (settled bytes_of_message reason_of (length hub.sessions) hub outcome.failed outcome.fails)

-- ---- no event

pub takes_kept : {E : Type 0} (old new : Option Traffic) (e : E) → TakesEvent old new (Err e) → Keeps old new
takes_kept None new e h = tt
takes_kept (Some old) None e h = h
takes_kept (Some old) (Some new) e h = h

pub none_served : (hub : HubState) (a b : Board) → Trades a b [] [] → ServesTurns [] hub hub a b
none_served hub a b trades = record { answered = tt; state = refl; trades = trades }

-- nothing was taken, and memory ended
pub none_front : (count : ℕ) (hub : HubState) (a b : Board) → Trades a b [] [] → ServesFront count hub hub a b
none_front count hub a b trades = record {
  turns = [];
  got = [];
  later = [];
  told = [];
  rest = [];
  answered = tt;
  events = refl;
  front = refl;
  few = omega arith;
  state = refl;
  trades = trades;
}

-- the board failed, or memory ended, before a turn
pub none_serves : (X : Type 0) (count : ℕ) (hub : HubState) (a b : Board) (e : Outage) (result : Result (Unit {0}) ServeFault) → IsErrAnd result (λ fault. fault ≡ serve_fault e) →
    Keeps a.told b.told → HasOutage {X = X} a.faults b.faults (Err e) → b.send_faults ≡ a.send_faults → ServesOn count hub hub a b result
none_serves X count hub a b NoMemory result is kept cause sends =
    let p = err_from_is_err_and result is in rw (p.1, p.2) (none_front count hub a b (trades_nothing a b kept (omega (arith, cause)) sends))
none_serves X count hub a b Failed result is kept cause sends =
    let p = err_from_is_err_and result is in
    rw (p.1, p.2) (record { turns = []; served = none_served hub a b (trades_nothing a b kept cause.0 sends); few = inr refl; rose = cause.1 })

pub no_event : (X : Type 0) (hub : HubState) (a b : Board) (e : Outage) (result : Result (Unit {0}) ServeFault) → IsErrAnd result (λ fault. fault ≡ serve_fault e) →
    TakesEvent a.told b.told (Err e) → HasOutage {X = X} a.faults b.faults (Err e) → b.send_faults ≡ a.send_faults → ServesOn 1 hub hub a b result
no_event X hub a b e result is took cause sends = none_serves X 1 hub a b e result is (takes_kept a.told b.told e took) cause sends

-- a call that was no fault of the link
pub no_fault : (X : Type 0) (e : Outage) (result : Result (Unit {0}) ServeFault) → IsErrAnd result (λ fault. fault ≡ serve_fault e) → IsNoFault {X = X} (Err e) → IsLinked result
no_fault X NoMemory result is none = let p = err_from_is_err_and result is in rw (p.1, p.2) tt
no_fault X Failed result is none = absurd none

-- want of memory
pub front_serves : (count : ℕ) (hub now : HubState) (a b : Board) (result : Result (Unit {0}) ServeFault) → IsErrAnd result (λ fault. fault ≡ NoRoom) → ServesFront count hub now a b →
    ServesOn count hub now a b result
front_serves count hub now a b result is front = let p = err_from_is_err_and result is in rw (p.1, p.2) front

pub memory_linked : (result : Result (Unit {0}) ServeFault) → IsErrAnd result (λ fault. fault ≡ NoRoom) → IsLinked result
memory_linked result is = let p = err_from_is_err_and result is in rw (p.1, p.2) tt

-- ---- an event

-- memory ended before the hub took it
pub turn_untaken : (replica : Kept) (hub hub_now : HubState) (vector : List (Client × ℕ)) (event : Event) (a b : Board) → hub.received ≡ received_of replica → Speaks replica vector →
    hub_now ≡ hub → Trades a b (event ∷ []) [] → ServesFront 1 hub hub_now a b
turn_untaken replica hub hub_now vector event a b same counts stays next = record {
  turns = turn_of replica vector event [] ∷ [];
  got = [];
  later = events_served message_reading bytes_of_message reason_of hub (turn_of replica vector event [] ∷ []);
  told = [];
  rest = told_served message_reading bytes_of_message reason_of hub (turn_of replica vector event [] ∷ []);
  answered = answered replica hub vector event [] same counts;
  events = refl;
  front = refl;
  few = omega arith;
  state = stays;
  trades = next;
}

-- memory ended within what was ordered
pub turn_cut : (replica : Kept) (hub hub_now : HubState) (vector : List (Client × ℕ)) (event : Event) (orders : List ActionValue) (a b c : Board) → hub.received ≡ received_of replica →
    Speaks replica vector → hub_now ≡ hub_after message_reading hub event → hub_actions message_reading (answers_in replica vector) hub event ≡ orders → Trades a b (event ∷ []) [] →
    CarriesFront orders [] b c → ServesFront 1 hub hub_now a c
turn_cut replica hub hub_now vector event orders a b c same counts after ordered next ordered_front = record {
  turns = turn ∷ [];
  got = event ∷ [];
  later = map (closed_at message_reading bytes_of_message reason_of event.now) (turn_after message_reading bytes_of_message reason_of hub turn).closed ++ [];
  told = stops.told;
  rest = (stops.rest ++ rest.outcome.told) ++ [];
  answered = answered replica hub vector event stops.fails same counts;
  events = refl;
  front = ap (λ (told : List Sent). (told ++ rest.outcome.told) ++ []) stops.front ∙ ap (λ (told : List Sent). told ++ []) (append_assoc stops.told stops.rest rest.outcome.told)
      ∙ append_assoc stops.told (stops.rest ++ rest.outcome.told) [];
  few = omega arith;
  state = after;
  trades = trades_both a b c (event ∷ []) [] [] stops.told next stops.trades;
}
  where
    stops : CarriesFront (hub_actions message_reading (answers_in replica vector) hub event) [] b c
    stops = subst (λ (actions : List ActionValue). CarriesFront actions [] b c) (sym ordered) ordered_front

    turn : Turn
    turn = turn_of replica vector event stops.fails

    outcome : Outcome
    outcome = carried bytes_of_message reason_of (hub_actions message_reading (answers_in replica vector) hub event) [] stops.fails

    rest : Settled
    rest = settled bytes_of_message reason_of (length (hub_after message_reading hub event).sessions) (hub_after message_reading hub event) outcome.failed outcome.fails

-- the sessions that failed in what was ordered
pub turn_ending : (replica : Kept) (hub hub_now : HubState) (vector : List (Client × ℕ)) (event : Event) (orders : List ActionValue) (failed : List ℕ) (a b : Board) →
    hub_now ≡ hub_after message_reading hub event → hub_actions message_reading (answers_in replica vector) hub event ≡ orders → Carries orders [] failed a b → AreEnding hub_now failed
turn_ending replica hub hub_now vector event orders failed a b after ordered carries_orders =
    subst (λ (h : HubState). AreEnding h failed) (sym after)
    (subst (λ (fs : List ℕ). AreEnding (hub_after message_reading hub event) fs) (ap (λ (o : Outcome). o.failed) (carries.outcome []))
    (order_ends (hub_after message_reading hub event) (hub_actions message_reading (answers_in replica vector) hub event) (carries.fails ++ [])
    (hub_orders message_reading (answers_in replica vector) hub event)))
  where
    carries : Carries (hub_actions message_reading (answers_in replica vector) hub event) [] failed a b
    carries = subst (λ (actions : List ActionValue). Carries actions [] failed a b) (sym ordered) carries_orders

-- what came of a turn, where what was ordered was carried out, and then sends that failed were settled
turn_through : (replica : Kept) (hub : HubState) (vector : List (Client × ℕ)) (event : Event) (failed : List ℕ) (fails : List Bool) (b c : Board)
    (carries : Carries (hub_actions message_reading (answers_in replica vector) hub event) [] failed b c) →
    turn_after message_reading bytes_of_message reason_of hub (turn_of replica vector event (carries.fails ++ fails))
    ≡ settled_after carries.told (settled bytes_of_message reason_of (length (hub_after message_reading hub event).sessions) (hub_after message_reading hub event) failed fails)
turn_through replica hub vector event failed fails b c carries = ap (λ (o : Outcome). through (hub_after message_reading hub event) o) (carries.outcome fails)

-- memory ended within what follows sends that failed
front_settled : (replica : Kept) (hub hub_now : HubState) (vector : List (Client × ℕ)) (event : Event) (failed : List ℕ) (a b c d : Board) → hub.received ≡ received_of replica →
    Speaks replica vector → Trades a b (event ∷ []) [] → Carries (hub_actions message_reading (answers_in replica vector) hub event) [] failed b c →
    SettlesFront event.now (hub_after message_reading hub event) hub_now failed c d → ServesFront 1 hub hub_now a d
front_settled replica hub hub_now vector event failed a b c d same counts next carries stops = record {
  turns = turn ∷ [];
  got = event ∷ map closed_now stops.closed;
  later = map closed_now stops.later ++ [];
  told = carries.told ++ stops.told;
  rest = stops.rest ++ [];
  answered = answered replica hub vector event (carries.fails ++ stops.fails) same counts;
  events = ap (λ (closed : List ℕ). event ∷ (map closed_now closed ++ [])) (ap (λ (s : Settled). s.closed) whole ∙ stops.ends)
      ∙ ap (λ (events : List Event). event ∷ (events ++ [])) (map-append closed_now stops.closed stops.later)
      ∙ ap (λ (events : List Event). event ∷ events) (append_assoc (map closed_now stops.closed) (map closed_now stops.later) []);
  front = ap (λ (s : Settled). s.outcome.told ++ []) whole
      ∙ ap (λ (told : List Sent). (carries.told ++ told) ++ []) stops.front
      ∙ ap (λ (told : List Sent). told ++ []) (sym (append_assoc carries.told stops.told stops.rest))
      ∙ append_assoc (carries.told ++ stops.told) stops.rest [];
  few = omega arith;
  state = stops.state;
  trades = trades_both a b d (event ∷ []) [] [] (carries.told ++ stops.told) next (trades_both b c d [] [] carries.told stops.told carries.trades stops.trades);
}
  where
    turn : Turn
    turn = turn_of replica vector event (carries.fails ++ stops.fails)

    closed_now : ℕ → Event
    closed_now = closed_at message_reading bytes_of_message reason_of event.now

    whole : turn_after message_reading bytes_of_message reason_of hub turn
        ≡ settled_after carries.told (settled bytes_of_message reason_of (length (hub_after message_reading hub event).sessions) (hub_after message_reading hub event) failed stops.fails)
    whole = turn_through replica hub vector event failed stops.fails b c carries

-- all was carried out
all_settled : (replica : Kept) (hub hub_now : HubState) (vector : List (Client × ℕ)) (event : Event) (failed : List ℕ) (a b c d : Board) → hub.received ≡ received_of replica →
    Speaks replica vector → Trades a b (event ∷ []) [] → Carries (hub_actions message_reading (answers_in replica vector) hub event) [] failed b c →
    Settles (hub_after message_reading hub event) hub_now failed c d → ServesAll 1 hub hub_now a d
all_settled replica hub hub_now vector event failed a b c d same counts next carries settles = record {
  turns = turn ∷ [];
  served = record {
    answered = answered replica hub vector event (carries.fails ++ settles.fails) same counts;
    state = sym (ap (λ (s : Settled). s.hub) whole);
    trades = subst (λ (told : List Sent). Trades a d (event ∷ []) told) (sym (ap (λ (s : Settled). s.outcome.told ++ []) whole ∙ append-nil (carries.told ++ settles.told)))
        (trades_both a b d (event ∷ []) [] [] (carries.told ++ settles.told) next (trades_both b c d [] [] carries.told settles.told carries.trades settles.trades));
  };
  all = refl;
}
  where
    turn : Turn
    turn = turn_of replica vector event (carries.fails ++ settles.fails)

    whole : turn_after message_reading bytes_of_message reason_of hub turn
        ≡ record { hub = hub_now; outcome = record { told = carries.told ++ settles.told; failed = []; fails = [] }; closed = settles.closed }
    whole = turn_through replica hub vector event failed settles.fails b c carries ∙ ap (λ (s : Settled). settled_after carries.told s) settles.outcome

-- ---- as the code has it

module _ (replica : Kept) (hub hub_then hub_now : HubState) (vector : List (Client × ℕ)) (event : Event) (orders : List ActionValue) (failed : List ℕ) (a b c d : Board) where
  pub turn_settles : hub.received ≡ received_of replica → Speaks replica vector → hub_then ≡ hub_after message_reading hub event →
      hub_actions message_reading (answers_in replica vector) hub event ≡ orders → Trades a b (event ∷ []) [] → Carries orders [] failed b c → Settles hub_then hub_now failed c d →
      ServesAll 1 hub hub_now a d
  turn_settles same counts after ordered next carries settles = all_settled replica hub hub_now vector event failed a b c d same counts next
      (subst (λ (actions : List ActionValue). Carries actions [] failed b c) (sym ordered) carries) (subst (λ (h : HubState). Settles h hub_now failed c d) after settles)

  pub turn_stops : hub.received ≡ received_of replica → Speaks replica vector → hub_then ≡ hub_after message_reading hub event →
      hub_actions message_reading (answers_in replica vector) hub event ≡ orders → Trades a b (event ∷ []) [] → Carries orders [] failed b c →
      SettlesFront event.now hub_then hub_now failed c d → ServesFront 1 hub hub_now a d
  turn_stops same counts after ordered next carries stops = front_settled replica hub hub_now vector event failed a b c d same counts next
      (subst (λ (actions : List ActionValue). Carries actions [] failed b c) (sym ordered) carries) (subst (λ (h : HubState). SettlesFront event.now h hub_now failed c d) after stops)
