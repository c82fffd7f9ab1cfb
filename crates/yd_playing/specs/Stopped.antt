-- The first line of a script that is refused, why, and what is received then (own).
use Rattle.std.specs.Prelude.{◌≡◌, ◌⊎◌, ℕ, List, ◌∷◌, None, Result, Ok, Err}
use Rattle.yd_ids.specs.declared.id.Client.{Client}
use Rattle.yd_ops.specs.Received.{Received}
use Rattle.yd_ops.specs.Value.{UpdateValue}
use Rattle.yd_making.specs.declared.fault.EditFault.{EditFault}
use Rattle.yd_making.specs.declared.fault.EditFault.TheVariants as edits
use Rattle.yd_script.specs.Lines.{Numbered}
use Rattle.yd_script.specs.Reading.{line_in}
use Rattle.yd_playing.specs.Desk.{Desk, Played, first_desk}
use Rattle.yd_playing.specs.Ended.{MayEnd}
use Rattle.yd_playing.specs.Played.{HasPlayed, LinesMayEnd, SoFar}
use Rattle.yd_causes.specs.declared.cause.LineCause.{LineCause}
use Rattle.yd_causes.specs.declared.cause.LineCause.TheVariants.{BadLine, NoTarget, NoMark, Edit}
use Rattle.yd_playing.specs.declared.fault.PlayFault.{PlayFault}
use Rattle.yd_playing.specs.declared.fault.PlayFault.TheVariants.{NoMemory, Refused}

-- the line with this number is the first that is refused: all before it are played
abbrev pub StopsAt : Client → Received → List Numbered → ℕ → LineCause → Type 0
StopsAt client r lines number cause = LinesMayEnd client (first_desk r) lines (Err (record { number = number; cause = cause }))

-- a fault says which line is the first that is refused and why, or memory is wanted
abbrev pub StopsFor : Client → Received → List Numbered → PlayFault → Type 0
StopsFor client r lines NoMemory = Unit {0}
StopsFor client r lines (Refused number cause) = StopsAt client r lines number cause

-- ---- what is received then

-- the lines before the one with this number were played, and no other: what they left is what is received. On that desk this line is refused
-- for this cause
pub record LeavesBefore (client : Client) (r now : Received) (lines : List Numbered) (number : ℕ) (cause : LineCause) : Type 0 where
  pub desk : Desk
  pub line : Numbered
  pub behind : List Numbered
  pub updates : List UpdateValue
  pub played_before : SoFar client r desk lines (line ∷ behind) updates
  pub received_is : now ≡ desk.received
  pub number_is : line.number ≡ number
  pub is_refused : MayEnd client desk line.text (Err cause)

-- a refused line leaves the replica with what exactly the lines before it left. Where memory is wanted, some of the lines, from the first on,
-- were played
abbrev pub LeavesPlayed : Client → Received → Received → List Numbered → PlayFault → Type 0
LeavesPlayed client r now lines NoMemory = HasPlayed client r now lines
LeavesPlayed client r now lines (Refused number cause) = LeavesBefore client r now lines number cause

-- ---- one line

-- a fault says why the line with a number is refused that ends so, or memory is wanted
abbrev pub IsStop : ℕ → Result Played LineCause → PlayFault → Type 0
IsStop number ends NoMemory = Unit {0}
IsStop number ends (Refused other cause) = (other ≡ number) × (ends ≡ Err cause)

-- the line is none, or memory is wanted
abbrev pub IsUnread : Numbered → PlayFault → Type 0
IsUnread line NoMemory = Unit {0}
IsUnread line (Refused number BadLine) = (number ≡ line.number) × (line_in line.text ≡ None)
IsUnread line (Refused number (NoTarget step)) = ⊥
IsUnread line (Refused number NoMark) = ⊥
IsUnread line (Refused number (Edit fault)) = ⊥

-- after a fault the line made nothing, or memory was wanted only once it was played
abbrev pub IsLeft : Received → Received → Result Played LineCause → Type 0
IsLeft old new ends = (new ≡ old) ⊎ ((played : Played) × (ends ≡ Ok played) × (new ≡ played.desk.received))

-- the fault of a line whose edit has this fault
abbrev pub refused_by : ℕ → EditFault → PlayFault
refused_by number edits.NoMemory = NoMemory
refused_by number (edits.NoPlace id) = Refused number (Edit (edits.NoPlace id))
refused_by number (edits.NotHeld id) = Refused number (Edit (edits.NotHeld id))
refused_by number (edits.ClockFull clock) = Refused number (Edit (edits.ClockFull clock))
refused_by number (edits.InsidePair place) = Refused number (Edit (edits.InsidePair place))
refused_by number (edits.OwnWaiting clock) = Refused number (Edit (edits.OwnWaiting clock))
refused_by number (edits.PastEnd length) = Refused number (Edit (edits.PastEnd length))
refused_by number edits.NoKey = Refused number (Edit edits.NoKey)
refused_by number edits.Nothing = Refused number (Edit edits.Nothing)
