-- Several turns of a server, one after another.
use Rattle.std.proofs.Common.{◌≡◌, ◌≢◌, ◌+◌, ◌-◌, ◌<◌, ◌≤◌, ◌⊎◌, ℕ, zero, suc, List, [], ◌∷◌, ◌++◌, map, length, Option, Some, None, Result, Ok, Err, inl, inr, refl, sym, ap, ◌∙◌, subst, arith, append_assoc, append-nil}
use Rattle.std.proofs.lemmas.List.{map-append, length-append, length-map}
use Rattle.std.proofs.lemmas.Result.{err_from_is_err_and}
use Rattle.std.specs.Result.{IsErrAnd}
use Rattle.yd_world.specs.Faults.{Rose}
use Rattle.yd_world.specs.Traffic.{HasEvent, Keeps, Traffic}
use Rattle.yd_world.specs.declared.board.Sent.{Sent}
use Rattle.yd_world.specs.declared.event.Event.{Event}
use Rattle.yd_sync.specs.MessageReading.{message_reading}
use Rattle.yd_sync.specs.MessageWriting.{bytes_of_message}
use Rattle.yd_hub.specs.Hub.{HubState, hub_after, hub_after_all}
use Rattle.yd_hub.specs.Serving.{Turn, events_of_turn, events_served, hub_served, told_served, turn_after}
use Rattle.yd_hub.proofs.ServingLemmas.{served_is}
use Rattle.yd_serving.specs.declared.fault.ServeFault.{ServeFault}
use Rattle.yd_serving.specs.declared.fault.ServeFault.TheVariants.{NoLink, NoMemory}
use Rattle.yd_serving.specs.Answering.{AnswersTurns}
use Rattle.yd_serving.specs.Board.{Board, HasEvents, Passes, Trades}
use Rattle.yd_serving.specs.Reason.{reason_of}
use Rattle.yd_serving.specs.Serving.{IsLinked, LosesLink, ServesAll, ServesFront, ServesOn, ServesTurns, events_of}
use Rattle.yd_serving.proofs.BoardLemmas.{rose_earlier, trades_both, trades_none}
use Rattle.yd_serving.proofs.TurnLemmas.{none_served}

-- ---- turns behind turns

abbrev served : HubState → List Turn → HubState
served = hub_served message_reading bytes_of_message reason_of

abbrev told_in : HubState → List Turn → List Sent
told_in = told_served message_reading bytes_of_message reason_of

abbrev events_in : HubState → List Turn → List Event
events_in = events_served message_reading bytes_of_message reason_of

abbrev after : HubState → Turn → HubState
after hub turn = (turn_after message_reading bytes_of_message reason_of hub turn).hub

served_append : (hub : HubState) (ts us : List Turn) → served hub (ts ++ us) ≡ served (served hub ts) us
served_append hub [] us = refl
served_append hub (t ∷ ts) us = served_append (after hub t) ts us

told_append : (hub : HubState) (ts us : List Turn) → told_in hub (ts ++ us) ≡ told_in hub ts ++ told_in (served hub ts) us
told_append hub [] us = refl
told_append hub (t ∷ ts) us = ap (λ (told : List Sent). (turn_after message_reading bytes_of_message reason_of hub t).outcome.told ++ told) (told_append (after hub t) ts us)
    ∙ sym (append_assoc (turn_after message_reading bytes_of_message reason_of hub t).outcome.told (told_in (after hub t) ts) (told_in (served (after hub t) ts) us))

events_append : (hub : HubState) (ts us : List Turn) → events_in hub (ts ++ us) ≡ events_in hub ts ++ events_in (served hub ts) us
events_append hub [] us = refl
events_append hub (t ∷ ts) us = ap (λ (events : List Event). events_of_turn message_reading bytes_of_message reason_of hub t ++ events) (events_append (after hub t) ts us)
    ∙ sym (append_assoc (events_of_turn message_reading bytes_of_message reason_of hub t) (events_in (after hub t) ts) (events_in (served (after hub t) ts) us))

answered_append : (hub : HubState) (ts us : List Turn) → AnswersTurns hub ts →
    AnswersTurns (served hub ts) us → AnswersTurns hub (ts ++ us)
answered_append hub [] us all more = more
answered_append hub (t ∷ ts) us all more = (all.0, answered_append (after hub t) ts us all.1 more)

after_append : (hub : HubState) (es fs : List Event) → hub_after_all message_reading hub (es ++ fs) ≡ hub_after_all message_reading (hub_after_all message_reading hub es) fs
after_append hub [] fs = refl
after_append hub (e ∷ es) fs = after_append (hub_after message_reading hub e) es fs

turns_of : (ts us : List Turn) → events_of (ts ++ us) ≡ events_of ts ++ events_of us
turns_of ts us = map-append (λ (turn : Turn). turn.event) ts us

turns_both : (ts us : List Turn) (hub mid now : HubState) (a b c : Board) → ServesTurns ts hub mid a b → ServesTurns us mid now b c → ServesTurns (ts ++ us) hub now a c
turns_both ts us hub mid now a b c one two_from_mid = record {
  answered = answered_append hub ts us one.answered two.answered;
  state = two.state ∙ sym (served_append hub ts us);
  trades = subst (λ (events : List Event). Trades a c events (told_in hub (ts ++ us))) (sym (turns_of ts us))
      (subst (λ (told : List Sent). Trades a c (events_of ts ++ events_of us) told) (sym (told_append hub ts us))
      (trades_both a b c (events_of ts) (events_of us) (told_in hub ts) (told_in (served hub ts) us) one.trades two.trades));
}
  where
    two : ServesTurns us (served hub ts) now b c
    two = subst (λ (h : HubState). ServesTurns us h now b c) one.state two_from_mid

pub serves_none : (hub : HubState) (b : Board) → ServesAll 0 hub hub b b
serves_none hub b = record { turns = []; served = none_served hub b b (trades_none b); all = refl }

length_both : (ts us : List Turn) (m n : ℕ) → length ts ≡ m → length us ≡ n → length (ts ++ us) ≡ m + n
length_both ts us m n one two = let both = length-append ts us in omega (arith, both, one, two)

pub serves_more : (n : ℕ) (hub mid now : HubState) (a b c : Board) → ServesAll n hub mid a b → ServesAll 1 mid now b c → ServesAll (n + 1) hub now a c
serves_more n hub mid now a b c so one = record {
  turns = so.turns ++ one.turns;
  served = turns_both so.turns one.turns hub mid now a b c so.served one.served;
  all = length_both so.turns one.turns n 1 so.all one.all;
}

-- the link was lost within the next turn, so before it
none_of_one : (ts : List Turn) → (length ts < 1) ⊎ (ts ≡ []) → length ts ≡ 0
none_of_one ts (inl few) = omega (arith, few)
none_of_one ts (inr none) = ap length none

loses_next : (count n : ℕ) (hub mid now : HubState) (a b c : Board) → n < count → ServesAll n hub mid a b → LosesLink 1 mid now b c → LosesLink count hub now a c
loses_next count n hub mid now a b c lt so lost = record {
  turns = so.turns ++ lost.turns;
  served = turns_both so.turns lost.turns hub mid now a b c so.served lost.served;
  few = inl (let is : length (so.turns ++ lost.turns) ≡ n + 0 = length_both so.turns lost.turns n 0 so.all (none_of_one lost.turns lost.few) in omega (arith, is, lt));
  rose = rose_earlier a.faults b.faults c.faults so.served.trades.links lost.served.trades.links lost.rose;
}

-- memory ended within the next turn
front_next : (count n : ℕ) (hub mid now : HubState) (a b c : Board) → n < count → ServesAll n hub mid a b → ServesFront 1 mid now b c → ServesFront count hub now a c
front_next count n hub mid now a b c lt so stops = record {
  turns = so.turns ++ stops.turns;
  got = events_in hub so.turns ++ stops.got;
  later = stops.later;
  told = told_in hub so.turns ++ stops.told;
  rest = stops.rest;
  answered = answered_append hub so.turns stops.turns so.served.answered (subst (λ (h : HubState). AnswersTurns h stops.turns) is stops.answered);
  events = events_append hub so.turns stops.turns
      ∙ ap (λ (events : List Event). events_in hub so.turns ++ events) (subst (λ (h : HubState). events_in h stops.turns ≡ stops.got ++ stops.later) is stops.events)
      ∙ sym (append_assoc (events_in hub so.turns) stops.got stops.later);
  front = told_append hub so.turns stops.turns
      ∙ ap (λ (told : List Sent). told_in hub so.turns ++ told) (subst (λ (h : HubState). told_in h stops.turns ≡ stops.told ++ stops.rest) is stops.front)
      ∙ sym (append_assoc (told_in hub so.turns) stops.told stops.rest);
  few = let both = length-append so.turns stops.turns in omega (arith, both, so.all, stops.few, lt);
  state = stops.state ∙ ap (λ (h : HubState). hub_after_all message_reading h stops.got) (is ∙ served_is message_reading bytes_of_message reason_of hub so.turns)
      ∙ sym (after_append hub (events_in hub so.turns) stops.got);
  trades = subst (λ (events : List Event). Trades a c events (told_in hub so.turns ++ stops.told)) (sym (turns_of so.turns stops.turns))
      (trades_both a b c (events_of so.turns) (events_of stops.turns) (told_in hub so.turns) stops.told so.served.trades stops.trades);
}
  where
    is : mid ≡ served hub so.turns
    is = so.served.state

-- the next turn ended the loop
pub serves_stop : (count n : ℕ) (hub mid now : HubState) (a b c : Board) (e : ServeFault) (result : Result (Unit {0}) ServeFault) → IsErrAnd result (λ fault. fault ≡ e) → n < count →
    ServesAll n hub mid a b → ServesOn 1 mid now b c (Err e) → ServesOn count hub now a c result
serves_stop count n hub mid now a b c NoLink result is lt so lost = let p = err_from_is_err_and result is in rw (p.1, p.2) (loses_next count n hub mid now a b c lt so lost)
serves_stop count n hub mid now a b c NoMemory result is lt so stops = let p = err_from_is_err_and result is in rw (p.1, p.2) (front_next count n hub mid now a b c lt so stops)

-- no turn is left
pub serves_whole : (count n : ℕ) (hub now : HubState) (a b : Board) → n ≤ count → count ≤ n → ServesAll n hub now a b → ServesAll count hub now a b
serves_whole count n hub now a b le ge so = record { turns = so.turns; served = so.served; all = omega (arith, so.all, le, ge) }

-- ---- before the first turn

-- the board started, and then served
turns_behind : (ts : List Turn) (hub now : HubState) (a b c : Board) → Trades a b [] [] → ServesTurns ts hub now b c → ServesTurns ts hub now a c
turns_behind ts hub now a b c start so = record {
  answered = so.answered;
  state = so.state;
  trades = trades_both a b c [] (events_of ts) [] (told_in hub ts) start so.trades;
}

pub serves_behind : (count : ℕ) (hub now : HubState) (a b c : Board) (result : Result (Unit {0}) ServeFault) → Trades a b [] [] → ServesOn count hub now b c result → ServesOn count hub now a c result
serves_behind count hub now a b c (Ok done) start so = record { turns = so.turns; served = turns_behind so.turns hub now a b c start so.served; all = so.all }
serves_behind count hub now a b c (Err NoLink) start so = record {
  turns = so.turns;
  served = turns_behind so.turns hub now a b c start so.served;
  few = so.few;
  rose = rose_earlier a.faults b.faults c.faults start.links so.served.trades.links so.rose;
}
serves_behind count hub now a b c (Err NoMemory) start so = record {
  turns = so.turns;
  got = so.got;
  later = so.later;
  told = so.told;
  rest = so.rest;
  answered = so.answered;
  events = so.events;
  front = so.front;
  few = so.few;
  state = so.state;
  trades = trades_both a b c [] (events_of so.turns) [] so.told start so.trades;
}

-- ---- events that are to come

pub keeps_events : (old new : Option Traffic) (count : ℕ) → Keeps old new → HasEvents count old → HasEvents count new
keeps_events None new count kept has = absurd has
keeps_events (Some old) None count kept has = absurd kept
keeps_events (Some old) (Some new) count kept has = subst (λ (t : Traffic). count ≤ length t.coming) (sym kept) has

none_coming : (events : List Event) → 0 < length events → events ≢ []
none_coming [] some = absurd (omega (arith, some))
none_coming (e ∷ es) some = λ same. absurd (omega (arith, ap length same))

pub passed_event : (old new : Option Traffic) (events : List Event) (sent : List Sent) (count : ℕ) → Passes old new events sent → HasEvents count old → length events < count → HasEvent new
passed_event None new events sent count passes has lt = absurd has
passed_event (Some old) None events sent count passes has lt = absurd passes
passed_event (Some old) (Some new) events sent count passes has lt =
    none_coming new.coming (let all : length old.coming ≡ length (events ++ new.coming) = ap length passes.0 in let both = length-append events new.coming in omega (arith, all, both, has, lt))

-- an event is to come for each turn that is left
pub event_left : (count n : ℕ) (hub now : HubState) (a b : Board) → n < count → ServesAll n hub now a b → HasEvents count a.told → HasEvent b.told
event_left count n hub now a b lt so has =
    let many : length (events_of so.turns) ≡ length so.turns = length-map so.turns (λ (turn : Turn). turn.event) in
    passed_event a.told b.told (events_of so.turns) (told_in hub so.turns) count so.served.trades.passes has (omega (arith, many, so.all, lt))

-- an error that is passed on is none of the link, where that was none
pub linked_on : (e : ServeFault) (result : Result (Unit {0}) ServeFault) → IsErrAnd result (λ fault. fault ≡ e) → IsLinked {X = Unit {0}} (Err e) → IsLinked result
linked_on NoMemory result is linked = let p = err_from_is_err_and result is in rw (p.1, p.2) tt
linked_on NoLink result is linked = absurd linked
