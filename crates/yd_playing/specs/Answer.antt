-- What a call that plays a line answers (own).
use Rattle.std.specs.Prelude.{◌≡◌, ℕ, List, [], ◌∷◌, Option, Some, None, Result, Ok, Err}
use Rattle.yd_words.specs.Each.{Each}
use Rattle.yd_ops.specs.declared.updates.Update.{Update}
use Rattle.yd_ops.specs.Valid.{IsValidUpdate}
use Rattle.yd_ops.specs.Value.{UpdateValue}
use Rattle.yd_ops.specs.View.{update_value}
use Rattle.yd_ops.specs.Received.{Received}
use Rattle.yd_playing.specs.Desk.{Desk, Played}
use Rattle.yd_playing.specs.Stopped.{IsStop, IsLeft}
use Rattle.yd_causes.specs.declared.cause.LineCause.{LineCause}
use Rattle.yd_playing.specs.declared.fault.PlayFault.{PlayFault}

-- the update that a line made, where it made one
abbrev pub updates_in : Option Update → List UpdateValue
updates_in None = []
updates_in (Some update) = update_value update ∷ []

-- it is valid
abbrev pub AreValid : Option Update → Type 0
AreValid made = Each IsValidUpdate (updates_in made)

-- the line with a number ends so: it made this, and left the desk so; or it is refused for what is answered, and made nothing. Where
-- memory is wanted it may have been played
abbrev pub PlaysAs : Result Played LineCause → ℕ → Received → Desk → Result (Option Update) PlayFault → Type 0
PlaysAs ends number before after (Ok made) = ends ≡ Ok (record { updates = updates_in made; desk = after })
PlaysAs ends number before after (Err fault) = IsStop number ends fault × IsLeft before after.received ends
