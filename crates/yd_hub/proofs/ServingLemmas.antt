-- Whole turns: what came of an event's actions, and that the state is that of the list of events.
use Rattle.std.proofs.Common.{◌≡◌, ◌≢◌, ℕ, zero, suc, Bool, false, List, [], ◌∷◌, ◌++◌, map, length, Result, inr, refl, sym, ap, ◌∙◌, arith, true≢false, append_assoc, append-nil}
use Rattle.yd_words.specs.Each.{Each}
use Rattle.yd_words.proofs.EachLemmas.{each_append}
use Rattle.yd_world.specs.declared.event.Event.{Event}
use Rattle.yd_sync.specs.Message.{MessageValue}
use Rattle.yd_sync.specs.declared.fault.MessageFault.{MessageFault}
use Rattle.yd_hub.specs.declared.action.CloseCause.{CloseCause}
use Rattle.yd_hub.specs.Sessions.{is_open}
use Rattle.yd_hub.specs.Actions.{ActionValue, send, close, IsSendTo, IsOrder}
use Rattle.yd_hub.specs.Answers.{AreAnswersOf, TellsNews}
use Rattle.yd_hub.specs.Hub.{HubState, hub_after, hub_after_all, hub_actions, closed_if_open, actions_if_open}
use Rattle.yd_hub.specs.Carrying.{Outcome, carried, settled, carried_out, session_of, NothingFor, IsEndedIn}
use Rattle.yd_hub.specs.Serving.{Turn, turn_after, closed_at, events_of_turn, hub_served, events_served, told_served, AreAnswered}
use Rattle.yd_hub.specs.LoopLaw.{IsCarriedOut}
use Rattle.yd_hub.proofs.CarryingLemmas.{nothing_carried, once_carried, failed_within, failed_once, closed_failed}
use Rattle.yd_hub.proofs.SettlingLemmas.{settled_received, settled_not_open, nothing_settled, once_appended, failed_before, once_settled, AreFailures, all_settled, closed_not_open_later, ended_settled}

module _ (write : MessageValue → List ℕ) (reason : CloseCause → List ℕ) where
  -- actions that only send
  sends_out : (hub : HubState) (actions : List ActionValue) (fails : List Bool) → Each (IsSendTo hub.sessions) actions → IsCarriedOut hub (carried_out write reason hub actions fails)
  sends_out hub actions fails sends = record {
    received = settled_received write reason (length hub.sessions) hub outcome.failed outcome.fails;
    failed = all_settled write reason (length hub.sessions) hub outcome.failed outcome.fails (omega arith) are;
    once = once_appended outcome.told (settled write reason (length hub.sessions) hub outcome.failed outcome.fails).outcome.told (once_carried write reason hub.sessions actions [] fails sends)
        (once_settled write reason (length hub.sessions) hub outcome.failed outcome.fails)
        (failed_before write reason (length hub.sessions) hub outcome.failed outcome.fails outcome.told (closed_failed write reason hub.sessions actions [] fails sends));
    ended = each_append (IsEndedIn (settled write reason (length hub.sessions) hub outcome.failed outcome.fails).hub.sessions) outcome.told
        (settled write reason (length hub.sessions) hub outcome.failed outcome.fails).outcome.told
        (closed_not_open_later write reason (length hub.sessions) hub outcome.failed outcome.fails (omega arith) are outcome.told (closed_failed write reason hub.sessions actions [] fails sends))
        (ended_settled write reason (length hub.sessions) hub outcome.failed outcome.fails (omega arith) are);
  }
    where
      outcome : Outcome
      outcome = carried write reason actions [] fails

      are : AreFailures write reason hub (carried write reason actions [] fails).failed
      are = (failed_within write reason hub.sessions actions [] fails sends (λ s e. absurd (true≢false (sym e))), failed_once write reason hub.sessions actions [] fails sends tt)

  nothing_out : (hub : HubState) (actions : List ActionValue) (fails : List Bool) (s : ℕ) → Each (IsSendTo hub.sessions) actions → is_open hub.sessions s ≡ false →
      NothingFor s (carried_out write reason hub actions fails).outcome.told
  nothing_out hub actions fails s sends none =
      let outcome = carried write reason actions [] fails in
      each_append (λ t. session_of t ≢ s) outcome.told (settled write reason (length hub.sessions) hub outcome.failed outcome.fails).outcome.told
      (nothing_carried write reason hub.sessions actions [] fails s sends (inr none))
      (nothing_settled write reason (length hub.sessions) hub outcome.failed outcome.fails s (inr none))

  not_open_out : (hub : HubState) (actions : List ActionValue) (fails : List Bool) (s : ℕ) → is_open hub.sessions s ≡ false → is_open (carried_out write reason hub actions fails).hub.sessions s ≡ false
  not_open_out hub actions fails s none = settled_not_open write reason (length hub.sessions) hub (carried write reason actions [] fails).failed (carried write reason actions [] fails).fails s none

  pub orders_out : (hub : HubState) (actions : List ActionValue) (fails : List Bool) → IsOrder hub.sessions actions → IsCarriedOut hub (carried_out write reason hub actions fails)
  orders_out hub [] fails order = sends_out hub [] fails tt
  orders_out hub (send to message ∷ actions) fails order = sends_out hub (send to message ∷ actions) fails order
  orders_out hub (close to cause ∷ actions) fails order =
      let rest = sends_out hub actions fails order.1 in record {
        received = rest.received;
        failed = rest.failed;
        once = (nothing_out hub actions fails to order.1 order.0, rest.once);
        ended = (not_open_out hub actions fails to order.0, rest.ended);
      }

-- ---- the state is that of the list of events

after_appended : (read : List ℕ → Result MessageValue MessageFault) (hub : HubState) (es fs : List Event) → hub_after_all read hub (es ++ fs) ≡ hub_after_all read (hub_after_all read hub es) fs
after_appended read hub [] fs = refl
after_appended read hub (e ∷ es) fs = after_appended read (hub_after read hub e) es fs

module _ (read : List ℕ → Result MessageValue MessageFault) (write : MessageValue → List ℕ) (reason : CloseCause → List ℕ) where
  settled_is : (n now : ℕ) (hub : HubState) (failed : List ℕ) (fails : List Bool) →
      (settled write reason n hub failed fails).hub ≡ hub_after_all read hub (map (closed_at read write reason now) (settled write reason n hub failed fails).closed)
  settled_is zero now hub failed fails = refl
  settled_is (suc n) now hub [] fails = refl
  settled_is (suc n) now hub (session ∷ failed) fails =
      settled_is n now (closed_if_open hub session) (carried write reason (actions_if_open hub session) failed fails).failed (carried write reason (actions_if_open hub session) failed fails).fails

  turn_is : (hub : HubState) (turn : Turn) → (turn_after read write reason hub turn).hub ≡ hub_after_all read hub (events_of_turn read write reason hub turn)
  turn_is hub turn =
      let hub_then = hub_after read hub turn.event in
      let outcome = carried write reason (hub_actions read turn.answers hub turn.event) [] turn.fails in
      settled_is (length hub_then.sessions) turn.event.now hub_then outcome.failed outcome.fails

  pub served_is : (hub : HubState) (turns : List Turn) → hub_served read write reason hub turns ≡ hub_after_all read hub (events_served read write reason hub turns)
  served_is hub [] = refl
  served_is hub (turn ∷ turns) = served_is (turn_after read write reason hub turn).hub turns
      ∙ ap (λ h. hub_after_all read h (events_served read write reason (turn_after read write reason hub turn).hub turns)) (turn_is hub turn)
      ∙ sym (after_appended read hub (events_of_turn read write reason hub turn) (events_served read write reason (turn_after read write reason hub turn).hub turns))

  -- ---- one turn more

  pub hub_on : (hub : HubState) (turns : List Turn) (turn : Turn) → hub_served read write reason hub (turns ++ turn ∷ []) ≡ (turn_after read write reason (hub_served read write reason hub turns) turn).hub
  hub_on hub [] turn = refl
  hub_on hub (t ∷ turns) turn = hub_on (turn_after read write reason hub t).hub turns turn

  pub events_on : (hub : HubState) (turns : List Turn) (turn : Turn) →
      events_served read write reason hub (turns ++ turn ∷ []) ≡ events_served read write reason hub turns ++ events_of_turn read write reason (hub_served read write reason hub turns) turn
  events_on hub [] turn = append-nil (events_of_turn read write reason hub turn)
  events_on hub (t ∷ turns) turn = ap (λ es. events_of_turn read write reason hub t ++ es) (events_on (turn_after read write reason hub t).hub turns turn)
      ∙ sym (append_assoc (events_of_turn read write reason hub t) (events_served read write reason (turn_after read write reason hub t).hub turns)
      (events_of_turn read write reason (hub_served read write reason (turn_after read write reason hub t).hub turns) turn))

  pub told_on : (hub : HubState) (turns : List Turn) (turn : Turn) →
      told_served read write reason hub (turns ++ turn ∷ []) ≡ told_served read write reason hub turns ++ (turn_after read write reason (hub_served read write reason hub turns) turn).outcome.told
  told_on hub [] turn = append-nil (turn_after read write reason hub turn).outcome.told
  told_on hub (t ∷ turns) turn = ap (λ ts. (turn_after read write reason hub t).outcome.told ++ ts) (told_on (turn_after read write reason hub t).hub turns turn)
      ∙ sym (append_assoc (turn_after read write reason hub t).outcome.told (told_served read write reason (turn_after read write reason hub t).hub turns)
      (turn_after read write reason (hub_served read write reason (turn_after read write reason hub t).hub turns) turn).outcome.told)

  pub answered_on : (hub : HubState) (turns : List Turn) (turn : Turn) → AreAnswered read write reason hub turns → AreAnswersOf (hub_served read write reason hub turns).received turn.answers →
      TellsNews (hub_served read write reason hub turns).received turn.answers → AreAnswered read write reason hub (turns ++ turn ∷ [])
  answered_on hub [] turn all answers news = (answers, news, tt)
  answered_on hub (t ∷ turns) turn all answers news = (all.0, all.1, answered_on (turn_after read write reason hub t).hub turns turn all.2 answers news)
