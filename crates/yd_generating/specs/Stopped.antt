-- What an edit by draws does, and why a generator stops.
use Rattle.std.specs.Prelude.{◌≤◌, ◌+◌, ◌%◌, ◌^◌, ℕ, List, length, Option, if◌then◌else◌}
use Rattle.yd_ops.specs.Value.{UpdateValue}
use Rattle.yd_editing.specs.Basis.{Basis}
use Rattle.yd_editing.specs.Step.{Refusal, Step}
use Rattle.yd_editing.specs.TextEdit.{counted_units, delete_refusal, insert_refusal}
use Rattle.yd_generator.specs.declared.draws.Draws.{Draws}
use Rattle.yd_generator.specs.Generated.{inserts, letter, text_list}
use Rattle.yd_making.specs.declared.fault.EditFault.{EditFault}
use Rattle.yd_making.specs.declared.fault.EditFault.TheVariants as edits
use Rattle.yd_doc.specs.Editing.{IsEdit}
use Rattle.yd_doc.specs.Kept.{Kept}
use Rattle.yd_generating.specs.declared.fault.GenerateFault.{GenerateFault}
use Rattle.yd_generating.specs.declared.fault.GenerateFault.TheVariants.{NoMemory, Refused}

-- the steps were carried out, and made an update
abbrev pub HasEdited : Kept → Kept → List Step → Type 0
HasEdited old new steps = (update : UpdateValue) × IsEdit old new steps update

-- the fault of an edit that is not carried out
abbrev pub stopped_by : EditFault → GenerateFault
stopped_by edits.NoMemory = NoMemory
stopped_by fault = Refused fault

-- the refusal of an edit by draws, where there is one
abbrev pub refusal_at : Draws → Basis → ℕ → Option Refusal
refusal_at d basis len =
    if inserts len d.x then insert_refusal basis text_list (d.y % (len + 1)) (letter d.z) else delete_refusal basis text_list (d.y % len) 1

abbrev pub drawn_refusal : Draws → Basis → Option Refusal
drawn_refusal d basis = refusal_at d basis (length (counted_units basis.document text_list))

-- want of memory, or an edit is refused where the client's clock is at the end
abbrev pub IsFull : ℕ → GenerateFault → Type 0
IsFull clock NoMemory = Unit {0}
IsFull clock (Refused fault) = 2 ^ 53 ≤ clock + 1
