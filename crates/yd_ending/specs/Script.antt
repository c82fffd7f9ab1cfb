-- The line on err of a script's line that is refused (own).
use Rattle.std.specs.Prelude.{ℕ, List, ◌++◌, codes, decimal}
use Rattle.yd_ids.specs.declared.id.Id.{Id}
use Rattle.yd_making.specs.declared.fault.EditFault.{EditFault}
use Rattle.yd_making.specs.declared.fault.EditFault.TheVariants.{NoMemory, NoPlace, NotHeld, ClockFull, InsidePair, OwnWaiting, PastEnd, NoKey, Nothing}
use Rattle.yd_causes.specs.declared.cause.LineCause.{LineCause}
use Rattle.yd_causes.specs.declared.cause.LineCause.TheVariants.{BadLine, NoTarget, NoMark, Edit}

-- a number behind a name
abbrev pub with_number : List ℕ → ℕ → List ℕ
with_number name number = name ++ codes " " ++ decimal number

-- an id behind a name: its client and its clock
abbrev pub with_id : List ℕ → Id → List ℕ
with_id name id = with_number (with_number name id.client.0) id.clock

-- why an edit is refused, as it is told
abbrev pub edit_text : EditFault → List ℕ
edit_text NoMemory = codes "NoMemory"
edit_text (NoPlace id) = with_id (codes "NoPlace") id
edit_text (NotHeld id) = with_id (codes "NotHeld") id
edit_text (ClockFull clock) = with_number (codes "ClockFull") clock
edit_text (InsidePair place) = with_number (codes "InsidePair") place
edit_text (OwnWaiting clock) = with_number (codes "OwnWaiting") clock
edit_text (PastEnd length) = with_number (codes "PastEnd") length
edit_text NoKey = codes "NoKey"
edit_text Nothing = codes "Nothing"

-- why a line is refused
abbrev pub cause_text : LineCause → List ℕ
cause_text BadLine = codes "BadLine"
cause_text (NoTarget step) = with_number (codes "NoTarget") step
cause_text NoMark = codes "NoMark"
cause_text (Edit fault) = edit_text fault

-- the line with the number is refused, in the script under the name
abbrev pub refused_script_line : List ℕ → ℕ → LineCause → List ℕ
refused_script_line name number cause = codes "refused " ++ name ++ codes " line " ++ decimal number ++ codes " " ++ cause_text cause ++ codes "\n"
