-- What comes is no update.
use Rattle.std.proofs.Common.{◌≡◌, ◌≢◌, Result, Ok, Err, [], inl, inr, refl, ap, ◌∙◌}
use Rattle.yd_ops.specs.Value.{UpdateValue}
use Rattle.yd_ops.specs.Received.{received_more}
use Rattle.yd_world.specs.declared.event.What.TheVariants.{Received as Heard}
use Rattle.yd_sync.specs.Message.{MessageValue, step1, step2, change, aware, auth, query}
use Rattle.yd_sync.specs.declared.fault.MessageFault.{MessageFault}
use Rattle.yd_sync.proofs.PresenceLemmas.{tested}
use Rattle.yd_hub.specs.Sessions.{is_open}
use Rattle.yd_hub.specs.Hub.{updates_of_reading}
use Rattle.yd_hub.proofs.HubLemmas.{event_brings}
use Rattle.yd_hub.proofs.law.other_bytes_change_nothing.Goals as goal

none : (r : Result MessageValue MessageFault) → ((u : UpdateValue) → r ≢ Ok (step2 u)) → ((u : UpdateValue) → r ≢ Ok (change u)) → updates_of_reading r ≡ []
none (Ok (step1 vector)) f g = refl
none (Ok (step2 update)) f g = absurd (f update refl)
none (Ok (change update)) f g = absurd (g update refl)
none (Ok (aware es)) f g = refl
none (Ok (auth bytes)) f g = refl
none (Ok query) f g = refl
none (Err fault) f g = refl

pub returns : goal.returns
returns c = λ read hub now s bytes f g. event_brings read hub (record { now = now; what = Heard s bytes }) ∙ elim (tested (is_open hub.sessions s.0)) [
  | inl there ↦ rw there (ap (λ us. received_more hub.received us) (none (read bytes) f g))
  | inr other ↦ rw other
]
