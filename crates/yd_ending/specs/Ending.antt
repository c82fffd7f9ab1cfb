-- How a run ends: why it stopped, its status, its line on err, and what was written (own).
use Rattle.std.specs.Prelude.{◌≡◌, ◌⊎◌, ℕ, List, [], Option, Result, Ok, Err}
use Rattle.std.specs.Global.{Vec}
use Rattle.yd_world.specs.declared.fault.Outage.{Outage}
use Rattle.yd_world.specs.declared.fault.Outage.TheVariants as outages
use Rattle.yd_files.specs.Counts.{Count, RoseIn}
use Rattle.yd_files.specs.declared.fault.FileFault.{FileFault}
use Rattle.yd_files.specs.declared.fault.FileFault.TheVariants as faults
use Rattle.yd_ending.specs.Lines.{limit_line, link_fault_line, no_memory_line, no_step_2_line, read_fault_line, refusal_line, usage_line, write_fault_line}
use Rattle.yd_ending.specs.Status as status
use Rattle.yd_ending.specs.Writing.{TakesAll, TakesPart}
use Rattle.yd_ending.specs.declared.refusal.Refusal.TheVariants.{OfFile}
use Rattle.yd_ending.specs.declared.stop.Stop.{Stop}
use Rattle.yd_ending.specs.declared.stop.Stop.TheVariants.{Usage, Refused, ReadFault, TooLarge, NoMemory, WriteFault, LinkFault, NoStep2}

-- why reading files stopped
abbrev pub stop_of_fault : FileFault → Stop
stop_of_fault (faults.Refused file cause spot) = Refused (OfFile file cause spot)
stop_of_fault (faults.ReadFault file) = ReadFault file
stop_of_fault (faults.TooLarge file) = TooLarge file
stop_of_fault faults.NoMemory = NoMemory

-- why writing stopped
abbrev pub stop_of_outage : Outage → Stop
stop_of_outage outages.NoMemory = NoMemory
stop_of_outage outages.Failed = WriteFault

-- the status of how a run ends
abbrev pub status_of : Result (Unit {0}) Stop → ℕ
status_of (Ok done) = status.done
status_of (Err (Refused what)) = status.refused
status_of (Err Usage) = status.wrong_use
status_of (Err (ReadFault file)) = status.read_fault
status_of (Err WriteFault) = status.write_fault
status_of (Err NoMemory) = status.no_memory
status_of (Err LinkFault) = status.link_fault
status_of (Err (TooLarge file)) = status.too_large
status_of (Err NoStep2) = status.no_step_2

-- its line on err
abbrev pub line_of : Result (Unit {0}) Stop → List ℕ
line_of (Ok done) = []
line_of (Err (Refused what)) = refusal_line what
line_of (Err Usage) = usage_line
line_of (Err (ReadFault file)) = read_fault_line file.name.now
line_of (Err WriteFault) = write_fault_line
line_of (Err NoMemory) = no_memory_line
line_of (Err LinkFault) = link_fault_line
line_of (Err (TooLarge file)) = limit_line file.name.now
line_of (Err NoStep2) = no_step_2_line

-- what was made was written, or a part of it; what stopped before stays as it is, and nothing was written
abbrev pub Delivers : Result (Vec ℕ) Stop → Count → Option (List ℕ) → Option (List ℕ) → Result (Unit {0}) Stop → Type 0
Delivers (Err stop) writes taken now result = (result ≡ Err stop) × (now ≡ taken)
Delivers (Ok bytes) writes taken now (Ok done) = TakesAll taken now bytes.items
Delivers (Ok bytes) writes taken now (Err stop) = TakesPart taken now bytes.items × ((stop ≡ NoMemory) ⊎ ((stop ≡ WriteFault) × RoseIn writes))
