-- Several turns of a client, one after another.
use Rattle.std.proofs.Common.{◌≡◌, ◌+◌, ◌-◌, ◌<◌, ◌≤◌, ◌⊎◌, ℕ, zero, suc, Bool, true, false, List, [], ◌∷◌, ◌++◌, map, length, Result, Ok, Err, inl, inr, refl, sym, ap, ◌∙◌, subst, arith, append_assoc, append-nil}
use Rattle.std.proofs.lemmas.List.{map-append, length-append, length-map}
use Rattle.std.proofs.lemmas.Result.{err_from_is_err_and}
use Rattle.std.specs.Result.{IsErrAnd}
use Rattle.yd_world.specs.Faults.{HasOutage, Rose}
use Rattle.yd_world.specs.Traffic.{HasEvent, Keeps}
use Rattle.yd_world.specs.declared.board.Sent.{Sent}
use Rattle.yd_world.specs.declared.event.Event.{Event}
use Rattle.yd_world.specs.declared.fault.Outage.{Outage}
use Rattle.yd_world.specs.declared.fault.Outage.TheVariants as outages
use Rattle.yd_sync.specs.MessageReading.{message_reading}
use Rattle.yd_sync.specs.MessageWriting.{bytes_of_message}
use Rattle.yd_hub.specs.Peer.{PeerEventValue, PeerState}
use Rattle.yd_hub.specs.Serving.{Turn}
use Rattle.yd_hub.specs.Syncing.{Ending, Synced, behind, done, ended, is_in_step, no_link, peer_turn, refused, synced, turn_done}
use Rattle.yd_serving.specs.declared.fault.SyncFault.{SyncFault}
use Rattle.yd_serving.specs.declared.fault.SyncFault.TheVariants.{NoLink, NoMemory, Refused}
use Rattle.yd_serving.specs.Answering.{AnswersPeer}
use Rattle.yd_serving.specs.Board.{Board, HasEvents, Trades, TradesFew}
use Rattle.yd_serving.specs.Exchange.{TakesTurn, TakesTurnOn}
use Rattle.yd_serving.specs.Serving.{events_of}
use Rattle.yd_serving.specs.Syncing.{IsSyncLinked, StartsNot, SyncLosesLink, Syncs, SyncsOn, sync_fault}
use Rattle.yd_serving.proofs.BoardLemmas.{rose_earlier, trades_both, trades_none, trades_nothing}
use Rattle.yd_serving.proofs.ServeLemmas.{passed_event}

-- the loop of so many turns
abbrev from : ℕ → ℕ → PeerState → List Turn → Synced
from n heard peer turns = synced message_reading bytes_of_message n heard peer turns

-- ---- what came before

-- before it the peer got these events in so many turns, and this was told
abbrev led : List PeerEventValue → List Sent → ℕ → Synced → Synced
led events told taken s = record { peer = s.peer; events = events ++ s.events; taken = taken + s.taken; told = told ++ s.told; ending = s.ending }

-- as it is, with so many turns
abbrev with_taken : Synced → ℕ → Synced
with_taken s taken = record { peer = s.peer; events = s.events; taken = taken; told = s.told; ending = s.ending }

zero_plus : (n : ℕ) → 0 + n ≡ n
zero_plus n = omega arith

plus_zero : (n : ℕ) → n + 0 ≡ n
plus_zero n = omega arith

one_more : (m n : ℕ) → m + suc n ≡ (m + 1) + n
one_more m n = omega arith

led_none : (s : Synced) → s ≡ led [] [] 0 s
led_none s = ap (λ (taken : ℕ). with_taken s taken) (sym (zero_plus s.taken))

led_behind : (events more : List PeerEventValue) (told then_told : List Sent) (taken : ℕ) (s : Synced) →
    led events told taken (behind more then_told s) ≡ led (events ++ more) (told ++ then_told) (taken + 1) s
led_behind events more told then_told taken s =
    ap (λ (k : ℕ). record { peer = s.peer; events = events ++ (more ++ s.events); taken = k; told = told ++ (then_told ++ s.told); ending = s.ending }) (one_more taken s.taken)
    ∙ ap (λ (all : List PeerEventValue). record { peer = s.peer; events = all; taken = (taken + 1) + s.taken; told = told ++ (then_told ++ s.told); ending = s.ending })
    (sym (append_assoc events more s.events))
    ∙ ap (λ (all : List Sent). record { peer = s.peer; events = (events ++ more) ++ s.events; taken = (taken + 1) + s.taken; told = all; ending = s.ending })
    (sym (append_assoc told then_told s.told))

led_ended : (events : List PeerEventValue) (told : List Sent) (taken : ℕ) (peer : PeerState) (ending : Ending) →
    led events told taken (ended peer ending) ≡ record { peer = peer; events = events; taken = taken; told = told; ending = ending }
led_ended events told taken peer ending =
    ap (λ (k : ℕ). record { peer = peer; events = events ++ []; taken = k; told = told ++ []; ending = ending }) (plus_zero taken)
    ∙ ap (λ (all : List PeerEventValue). record { peer = peer; events = all; taken = taken; told = told ++ []; ending = ending }) (append-nil events)
    ∙ ap (λ (all : List Sent). record { peer = peer; events = events; taken = taken; told = all; ending = ending }) (append-nil told)

-- ---- so far

-- so many turns were taken, and the loop goes on behind them
pub record SyncsSoFar (first peer : PeerState) (heard index : ℕ) (a b : Board) : Type 0 where
  pub turns : List Turn
  pub events : List PeerEventValue
  pub told : List Sent
  pub answered : (more : List Turn) → AnswersPeer peer more → AnswersPeer first (turns ++ more)
  pub outcome : (n : ℕ) (more : List Turn) → from (length turns + n) 0 first (turns ++ more) ≡ led events told (length turns) (from n heard peer more)
  pub many : length turns ≡ index
  pub few : heard ≤ index
  pub trades : Trades a b (events_of turns) told

pub syncs_none : (peer : PeerState) (b : Board) → SyncsSoFar peer peer 0 0 b b
syncs_none peer b = record {
  turns = [];
  events = [];
  told = [];
  answered = λ more all. all;
  outcome = λ n more. ap (λ (k : ℕ). from k 0 peer more) (zero_plus n) ∙ led_none (from n 0 peer more);
  many = refl;
  few = omega arith;
  trades = trades_none b;
}

-- a turn of a peer that is not in step
stepped : (n heard : ℕ) (peer : PeerState) (turn : Turn) (more : List Turn) → is_in_step peer ≡ false →
    from (suc n) heard peer (turn ∷ more) ≡ turn_done message_reading bytes_of_message heard peer turn (peer_turn turn.event.now turn.event.what) (λ k p. from n k p more)
stepped n heard peer turn more not_yet = rw not_yet refl

behind_one : (turns : List Turn) (turn : Turn) (more : List Turn) → (turns ++ turn ∷ []) ++ more ≡ turns ++ turn ∷ more
behind_one turns turn more = append_assoc turns (turn ∷ []) more

length_one : (turns : List Turn) (turn : Turn) → length (turns ++ turn ∷ []) ≡ length turns + 1
length_one turns turn = length-append turns (turn ∷ [])

events_one : (turns : List Turn) (turn : Turn) → events_of (turns ++ turn ∷ []) ≡ events_of turns ++ turn.event ∷ []
events_one turns turn = map-append (λ (t : Turn). t.event) turns (turn ∷ [])

-- a turn more, whatever comes behind it
outcome_one : (first peer peer_now : PeerState) (heard index : ℕ) (a b c : Board) (later : (ℕ → PeerState → Synced) → Synced) (so : SyncsSoFar first peer heard index a b) → is_in_step peer ≡ false →
    (takes : TakesTurn heard peer peer_now b c later) (n : ℕ) (more : List Turn) →
    from (length (so.turns ++ takes.turn ∷ []) + n) 0 first ((so.turns ++ takes.turn ∷ []) ++ more)
    ≡ led (so.events ++ takes.events) (so.told ++ takes.told) (length (so.turns ++ takes.turn ∷ [])) (later (λ k p. from n k p more))
outcome_one first peer peer_now heard index a b c later so not_yet takes n more =
    ap (λ (k : ℕ). from (k + n) 0 first ((so.turns ++ takes.turn ∷ []) ++ more)) (length_one so.turns takes.turn)
    ∙ ap (λ (k : ℕ). from k 0 first ((so.turns ++ takes.turn ∷ []) ++ more)) (sym (one_more (length so.turns) n))
    ∙ ap (λ (turns : List Turn). from (length so.turns + suc n) 0 first turns) (behind_one so.turns takes.turn more)
    ∙ so.outcome (suc n) (takes.turn ∷ more)
    ∙ ap (λ (s : Synced). led so.events so.told (length so.turns) s) (stepped n heard peer takes.turn more not_yet ∙ takes.outcome (λ k p. from n k p more))
    ∙ led_behind so.events takes.events so.told takes.told (length so.turns) (later (λ k p. from n k p more))
    ∙ ap (λ (k : ℕ). led (so.events ++ takes.events) (so.told ++ takes.told) k (later (λ k p. from n k p more))) (sym (length_one so.turns takes.turn))

trades_one : (first peer peer_now : PeerState) (heard index : ℕ) (a b c : Board) (later : (ℕ → PeerState → Synced) → Synced) (so : SyncsSoFar first peer heard index a b)
    (takes : TakesTurn heard peer peer_now b c later) → Trades a c (events_of (so.turns ++ takes.turn ∷ [])) (so.told ++ takes.told)
trades_one first peer peer_now heard index a b c later so takes =
    subst (λ (events : List Event). Trades a c events (so.told ++ takes.told)) (sym (events_one so.turns takes.turn))
    (trades_both a b c (events_of so.turns) (takes.turn.event ∷ []) so.told takes.told so.trades takes.trades)

pub syncs_more : (first peer peer_now : PeerState) (heard heard_now index : ℕ) (a b c : Board) → SyncsSoFar first peer heard index a b → is_in_step peer ≡ false → heard_now ≤ suc heard →
    TakesTurn heard peer peer_now b c (λ rest. rest heard_now peer_now) → SyncsSoFar first peer_now heard_now (index + 1) a c
syncs_more first peer peer_now heard heard_now index a b c so not_yet le takes = record {
  turns = so.turns ++ takes.turn ∷ [];
  events = so.events ++ takes.events;
  told = so.told ++ takes.told;
  answered = λ more all. subst (λ (turns : List Turn). AnswersPeer first turns) (sym (behind_one so.turns takes.turn more))
      (so.answered (takes.turn ∷ more) (takes.are, subst (λ (p : PeerState). AnswersPeer p more) takes.state all));
  outcome = outcome_one first peer peer_now heard index a b c (λ rest. rest heard_now peer_now) so not_yet takes;
  many = let one = length_one so.turns takes.turn in omega (arith, one, so.many);
  few = omega (arith, so.few, le);
  trades = trades_one first peer peer_now heard index a b c (λ rest. rest heard_now peer_now) so takes;
}

-- ---- the end

-- what is left of so many turns
left_of : (count index m : ℕ) → m ≡ index → index ≤ count → m + (count - index) ≡ count
left_of count index m same le = omega (arith, same, le)

-- the loop ends before the next turn
ends_here : (count : ℕ) (first peer : PeerState) (heard index : ℕ) (a b : Board) (ending : Ending) (so : SyncsSoFar first peer heard index a b) → index ≤ count →
    from (count - index) heard peer [] ≡ ended peer ending → Syncs count first peer a b ending
ends_here count first peer heard index a b ending so le last = record {
  turns = so.turns;
  events = so.events;
  told = so.told;
  answered = subst (λ (turns : List Turn). AnswersPeer first turns) (append-nil so.turns) (so.answered [] tt);
  outcome = ap (λ (k : ℕ). from k 0 first so.turns) (sym (left_of count index (length so.turns) so.many le))
      ∙ ap (λ (turns : List Turn). from (length so.turns + (count - index)) 0 first turns) (sym (append-nil so.turns))
      ∙ so.outcome (count - index) []
      ∙ ap (λ (s : Synced). led so.events so.told (length so.turns) s) last
      ∙ led_ended so.events so.told (length so.turns) peer ending;
  few = omega (arith, so.many, le);
  trades = so.trades;
}

-- so many turns are left, and one
one_left : (count index : ℕ) → index < count → count - index ≡ suc (count - index - 1)
one_left count index lt = omega (arith, lt)

in_step_ends : (n heard : ℕ) (peer : PeerState) → is_in_step peer ≡ true → from (suc n) heard peer [] ≡ ended peer done
in_step_ends n heard peer yet = rw yet refl

none_left_ends : (n heard : ℕ) (peer : PeerState) → is_in_step peer ≡ false → from (suc n) heard peer [] ≡ ended peer no_link
none_left_ends n heard peer not_yet = rw not_yet refl

pub syncs_in_step : (count : ℕ) (first peer : PeerState) (heard index : ℕ) (a b : Board) → SyncsSoFar first peer heard index a b → index < count → is_in_step peer ≡ true → Syncs count first peer a b done
syncs_in_step count first peer heard index a b so lt yet = ends_here count first peer heard index a b done so (omega (arith, lt))
    (ap (λ (k : ℕ). from k heard peer []) (one_left count index lt) ∙ in_step_ends (count - index - 1) heard peer yet)

pub syncs_all : (count : ℕ) (first peer : PeerState) (heard index : ℕ) (a b : Board) → SyncsSoFar first peer heard index a b → index ≤ count → count ≤ index → Syncs count first peer a b done
syncs_all count first peer heard index a b so le ge = ends_here count first peer heard index a b done so le (ap (λ (k : ℕ). from k heard peer []) none)
  where
    none : count - index ≡ zero
    none = omega (arith, ge)

-- the loop ends with a turn
ends_at : (count : ℕ) (first peer peer_now : PeerState) (heard index : ℕ) (a b c : Board) (ending : Ending) → SyncsSoFar first peer heard index a b → index < count → is_in_step peer ≡ false →
    TakesTurn heard peer peer_now b c (λ rest. ended peer_now ending) → Syncs count first peer_now a c ending
ends_at count first peer peer_now heard index a b c ending so lt not_yet takes = record {
  turns = so.turns ++ takes.turn ∷ [];
  events = so.events ++ takes.events;
  told = so.told ++ takes.told;
  answered = so.answered (takes.turn ∷ []) (takes.are, tt);
  outcome = ap (λ (k : ℕ). from k 0 first (so.turns ++ takes.turn ∷ [])) (sym (left_of count (index + 1) (length (so.turns ++ takes.turn ∷ [])) many (omega (arith, lt))))
      ∙ ap (λ (turns : List Turn). from (length (so.turns ++ takes.turn ∷ []) + (count - (index + 1))) 0 first turns) (sym (append-nil (so.turns ++ takes.turn ∷ [])))
      ∙ outcome_one first peer peer_now heard index a b c (λ rest. ended peer_now ending) so not_yet takes (count - (index + 1)) []
      ∙ led_ended (so.events ++ takes.events) (so.told ++ takes.told) (length (so.turns ++ takes.turn ∷ [])) peer_now ending;
  few = omega (arith, many, lt);
  trades = trades_one first peer peer_now heard index a b c (λ rest. ended peer_now ending) so takes;
}
  where
    many : length (so.turns ++ takes.turn ∷ []) ≡ index + 1
    many = let one = length_one so.turns takes.turn in omega (arith, one, so.many)

pub syncs_ended : (count : ℕ) (first peer peer_now : PeerState) (heard index : ℕ) (a b c : Board) → SyncsSoFar first peer heard index a b → index < count → is_in_step peer ≡ false →
    TakesTurn heard peer peer_now b c (λ rest. ended peer_now done) → Syncs count first peer_now a c done
syncs_ended count first peer peer_now heard index a b c = ends_at count first peer peer_now heard index a b c done

-- memory ended
front_at : (count : ℕ) (first peer : PeerState) (heard index : ℕ) (a b c : Board) → SyncsSoFar first peer heard index a b → index < count → TradesFew 1 b c → TradesFew count a c
front_at count first peer heard index a b c so lt front = record {
  events = events_of so.turns ++ front.events;
  told = so.told ++ front.told;
  few = let both = length-append (events_of so.turns) front.events in
      let many : length (events_of so.turns) ≡ length so.turns = length-map so.turns (λ (turn : Turn). turn.event) in omega (arith, both, many, so.many, front.few, lt);
  trades = trades_both a b c (events_of so.turns) front.events so.told front.told so.trades front.trades;
}

-- the board had no event
lost_at : (count : ℕ) (first peer peer_now : PeerState) (heard index : ℕ) (a b c : Board) → SyncsSoFar first peer heard index a b → index < count → is_in_step peer ≡ false →
    StartsNot peer peer_now b c → Syncs count first peer_now a c no_link
lost_at count first peer peer_now heard index a b c so lt not_yet none =
    subst (λ (p : PeerState). Syncs count first p a c no_link) (sym none.stays)
    (ends_here count first peer heard index a c no_link so_now (omega (arith, lt))
    (ap (λ (k : ℕ). from k heard peer []) (one_left count index lt) ∙ none_left_ends (count - index - 1) heard peer not_yet))
  where
    so_now : SyncsSoFar first peer heard index a c
    so_now = record {
      turns = so.turns;
      events = so.events;
      told = so.told;
      answered = so.answered;
      outcome = so.outcome;
      many = so.many;
      few = so.few;
      trades = subst (λ (events : List Event). Trades a c events so.told) (append-nil (events_of so.turns))
          (subst (λ (told : List Sent). Trades a c (events_of so.turns ++ []) told) (append-nil so.told) (trades_both a b c (events_of so.turns) [] so.told [] so.trades none.trades));
    }

-- a turn ended the loop with an error
pub syncs_stop : (count : ℕ) (first peer peer_now : PeerState) (heard heard_now index : ℕ) (a b c : Board) (e : SyncFault) (result : Result (Unit {0}) SyncFault) → IsErrAnd result (λ fault. fault ≡ e) →
    SyncsSoFar first peer heard index a b → index < count → is_in_step peer ≡ false → TakesTurnOn heard heard_now peer peer_now b c (Err e) → SyncsOn count first peer_now a c result
syncs_stop count first peer peer_now heard heard_now index a b c (Refused number fault) result is so lt not_yet takes =
    let p = err_from_is_err_and result is in rw (p.1, p.2) (ends_at count first peer peer_now heard index a b c (refused number fault) so lt not_yet takes)
syncs_stop count first peer peer_now heard heard_now index a b c NoLink result is so lt not_yet lost =
    let p = err_from_is_err_and result is in rw (p.1, p.2) (record {
      synced = inl (lost_at count first peer peer_now heard index a b c so lt not_yet lost.0);
      rose = rose_earlier a.faults b.faults c.faults so.trades.links lost.0.trades.links lost.1;
    })
syncs_stop count first peer peer_now heard heard_now index a b c NoMemory result is so lt not_yet front =
    let p = err_from_is_err_and result is in rw (p.1, p.2) (front_at count first peer heard index a b c so lt front)

-- ---- before the first turn

-- the board did not start
pub starts_not : (count : ℕ) (peer : PeerState) (a b : Board) (e : Outage) (result : Result (Unit {0}) SyncFault) → IsErrAnd result (λ fault. fault ≡ sync_fault e) →
    Keeps a.told b.told → HasOutage {X = Unit {0}} a.faults b.faults (Err e) → b.send_faults ≡ a.send_faults → SyncsOn count peer peer a b result
starts_not count peer a b outages.NoMemory result is kept cause sends = let p = err_from_is_err_and result is in
    rw (p.1, p.2) (record { events = []; told = []; few = omega arith; trades = trades_nothing a b kept (omega (arith, cause)) sends })
starts_not count peer a b outages.Failed result is kept cause sends = let p = err_from_is_err_and result is in
    rw (p.1, p.2) (record { synced = inr (record { stays = refl; trades = trades_nothing a b kept cause.0 sends }); rose = cause.1 })

-- the board started, and then the loop ran
synced_behind : (count : ℕ) (peer peer_now : PeerState) (a b c : Board) (ending : Ending) → Trades a b [] [] → Syncs count peer peer_now b c ending → Syncs count peer peer_now a c ending
synced_behind count peer peer_now a b c ending start so = record {
  turns = so.turns;
  events = so.events;
  told = so.told;
  answered = so.answered;
  outcome = so.outcome;
  few = so.few;
  trades = trades_both a b c [] (events_of so.turns) [] so.told start so.trades;
}

lost_behind : (count : ℕ) (peer peer_now : PeerState) (a b c : Board) → Trades a b [] [] → Rose b.faults c.faults → Syncs count peer peer_now b c no_link ⊎ StartsNot peer peer_now b c →
    SyncLosesLink count peer peer_now a c
lost_behind count peer peer_now a b c start rose (inl so) = record {
  synced = inl (synced_behind count peer peer_now a b c no_link start so);
  rose = rose_earlier a.faults b.faults c.faults start.links so.trades.links rose;
}
lost_behind count peer peer_now a b c start rose (inr none) = record {
  synced = inr (record { stays = none.stays; trades = trades_both a b c [] [] [] [] start none.trades });
  rose = rose_earlier a.faults b.faults c.faults start.links none.trades.links rose;
}

pub syncs_behind : (count : ℕ) (peer peer_now : PeerState) (a b c : Board) (result : Result (Unit {0}) SyncFault) → Trades a b [] [] → SyncsOn count peer peer_now b c result →
    SyncsOn count peer peer_now a c result
syncs_behind count peer peer_now a b c (Ok x) start so = synced_behind count peer peer_now a b c done start so
syncs_behind count peer peer_now a b c (Err (Refused number fault)) start so = synced_behind count peer peer_now a b c (refused number fault) start so
syncs_behind count peer peer_now a b c (Err NoMemory) start so = record {
  events = so.events;
  told = so.told;
  few = so.few;
  trades = trades_both a b c [] so.events [] so.told start so.trades;
}
syncs_behind count peer peer_now a b c (Err NoLink) start so = lost_behind count peer peer_now a b c start so.rose so.synced

-- ---- events that are to come

pub sync_event_left : (count : ℕ) (first peer : PeerState) (heard index : ℕ) (a b : Board) → index < count → SyncsSoFar first peer heard index a b → HasEvents count a.told → HasEvent b.told
sync_event_left count first peer heard index a b lt so has =
    let many : length (events_of so.turns) ≡ length so.turns = length-map so.turns (λ (turn : Turn). turn.event) in
    passed_event a.told b.told (events_of so.turns) so.told count so.trades.passes has (omega (arith, many, so.many, lt))

pub sync_linked_on : (e : SyncFault) (result : Result (Unit {0}) SyncFault) → IsErrAnd result (λ fault. fault ≡ e) → IsSyncLinked {X = Bool} (Err e) → IsSyncLinked result
sync_linked_on NoMemory result is linked = let p = err_from_is_err_and result is in rw (p.1, p.2) tt
sync_linked_on (Refused number fault) result is linked = let p = err_from_is_err_and result is in rw (p.1, p.2) tt
sync_linked_on NoLink result is linked = absurd linked
