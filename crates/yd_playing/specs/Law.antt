-- The law of scripts, as a statement.
use Rattle.std.specs.Prelude.{◌≡◌, ◌⊎◌, ℕ, List}
use Rattle.yd_ids.specs.declared.id.Client.{Client}
use Rattle.yd_ops.specs.Value.{UpdateValue}
use Rattle.yd_ops.specs.Received.{IsWritten, Received}
use Rattle.yd_script.specs.Lines.{Numbered}
use Rattle.yd_playing.specs.Desk.{first_desk}
use Rattle.yd_playing.specs.Played.{ArePlayed, RulesAreKept}
use Rattle.yd_playing.specs.Stopped.{StopsAt}
use Rattle.yd_causes.specs.declared.cause.LineCause.{LineCause}

-- whatever is received, lines are all carried out, or one of them is the first that is refused. Where the edit rules are kept at each line,
-- it is the one or the other, with one row of updates, or for one cause
pub record LinesEndOneWay : Type 0 where
  pub some : (client : Client) (r : Received) (lines : List Numbered) → IsWritten r.operations →
      ((us : List UpdateValue) × ArePlayed client r lines us) ⊎ ((number : ℕ) × (cause : LineCause) × StopsAt client r lines number cause)
  pub one_row : (client : Client) (r : Received) (lines : List Numbered) → RulesAreKept client (first_desk r) lines → (us others : List UpdateValue) →
      ArePlayed client r lines us → ArePlayed client r lines others → us ≡ others
  pub apart : (client : Client) (r : Received) (lines : List Numbered) → RulesAreKept client (first_desk r) lines → (us : List UpdateValue) (number : ℕ) (cause : LineCause) →
      ArePlayed client r lines us → StopsAt client r lines number cause → ⊥
  pub one_stop : (client : Client) (r : Received) (lines : List Numbered) → RulesAreKept client (first_desk r) lines → (number other : ℕ) (cause because : LineCause) →
      StopsAt client r lines number cause → StopsAt client r lines other because → (number ≡ other) × (cause ≡ because)
