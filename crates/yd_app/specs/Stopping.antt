-- What the program makes of what the words ask for, and why it stops.
use Rattle.std.specs.Prelude.{◌≡◌, ◌⊎◌, ℕ, List, Option, Result, Ok, Err}
use Rattle.std.specs.Global.{Vec}
use Rattle.yd_world.specs.Shelf.{Shelf}
use Rattle.yd_ending.specs.Ending.{stop_of_fault}
use Rattle.yd_ending.specs.Lines.{refusal_line}
use Rattle.yd_files.specs.Counts.{Count}
use Rattle.yd_files.specs.Files.{File}
use Rattle.yd_files.specs.Reading.{ReadsCalmly, StopsAmong}
use Rattle.yd_files.specs.Verdict.{Inputs, StandFor}
use Rattle.yd_files.specs.declared.fault.FileFault.{FileFault}
use Rattle.yd_asking.specs.Command.{Command}
use Rattle.yd_app.specs.Link.{Link}
use Rattle.yd_app.specs.Online.{IsOutputOver, IsRefusalOver, LosesNetwork, OfInputs, WantsStep2}
use Rattle.yd_app.specs.Output.{IsMadeOf, IsRefusalOf}
use Rattle.yd_asking.specs.Words.{AreOfNoForm, Asks, AsksFor}
use Rattle.yd_ending.specs.declared.stop.Stop.{Stop}
use Rattle.yd_ending.specs.declared.stop.Stop.TheVariants.{Usage, Refused, ReadFault, TooLarge, NoMemory, WriteFault, LinkFault, NoStep2}

-- the bytes are what the command makes of what the files stand for
abbrev pub MakesOf : Command → List File → Option Shelf → List ℕ → Type 0
MakesOf command files told bytes = (inputs : Inputs) × StandFor told files inputs × IsMadeOf command inputs bytes

-- reading the files stopped for this reason
abbrev pub StopsFor : Type 0 → Option Shelf → Option Shelf → List File → Count → Stop → Type 0
StopsFor Calm told told_now files reads stop = (fault : FileFault) × (stop ≡ stop_of_fault fault) × StopsAmong Calm told told_now files reads fault

-- why a command makes nothing of its inputs: it refuses them, or memory is wanted
abbrev pub StopsMaking : Command → Inputs → Stop → Type 0
StopsMaking command inputs NoMemory = Unit {0}
StopsMaking command inputs (Refused what) = IsRefusalOf command inputs (refusal_line what)
StopsMaking command inputs Usage = ⊥
StopsMaking command inputs (ReadFault file) = ⊥
StopsMaking command inputs (TooLarge file) = ⊥
StopsMaking command inputs WriteFault = ⊥
StopsMaking command inputs LinkFault = ⊥
StopsMaking command inputs NoStep2 = ⊥

-- so it is of what the files stand for
abbrev pub StopsOver : Command → List File → Option Shelf → Stop → Type 0
StopsOver command files told stop = (inputs : Inputs) × StandFor told files inputs × StopsMaking command inputs stop

-- what is made is what the command makes of the files; or reading them stopped, the command refuses what they stand for, or memory is
-- wanted
abbrev pub MakesOn : Type 0 → Command → List File → Option Shelf → Option Shelf → Count → Result (Vec ℕ) Stop → Type 0
MakesOn Calm command files told told_now reads (Ok bytes) = MakesOf command files told bytes.items
MakesOn Calm command files told told_now reads (Err stop) = (stop ≡ NoMemory) ⊎ StopsFor Calm told told_now files reads stop ⊎ StopsOver command files told stop

-- what is made is what the words ask for; or they are of no form, reading the files stopped, the command refuses what they stand for, or
-- memory is wanted
abbrev pub Makes : Type 0 → List (List ℕ) → Option Shelf → Option Shelf → Count → Result (Vec ℕ) Stop → Type 0
Makes Calm words told told_now reads (Ok bytes) = AsksFor words (λ command files. MakesOf command files told bytes.items)
Makes Calm words told told_now reads (Err stop) = (stop ≡ NoMemory) ⊎ ((stop ≡ Usage) × AreOfNoForm words)
    ⊎ AsksFor words (λ command files. StopsFor Calm told told_now files reads stop) ⊎ AsksFor words (λ command files. StopsOver command files told stop)

-- of the files that the words ask for, reading counts no fault where the first that is not accepted, if there is one, is there
abbrev pub ReadsAsked : List (List ℕ) → Option Shelf → Count → Type 0
ReadsAsked words told reads = (command : Command) (files : List File) → Asks words command files → ReadsCalmly told files reads

-- ---- over the network

-- why a command makes nothing over the network: it refuses a message, no step 2 came, the network failed, or memory is wanted
abbrev pub StopsOnline : Link → Command → Inputs → Stop → Type 0
StopsOnline link command inputs NoMemory = Unit {0}
StopsOnline link command inputs (Refused what) = IsRefusalOver link command inputs (refusal_line what)
StopsOnline link command inputs NoStep2 = WantsStep2 link command inputs
StopsOnline link command inputs LinkFault = LosesNetwork link command inputs
StopsOnline link command inputs Usage = ⊥
StopsOnline link command inputs (ReadFault file) = ⊥
StopsOnline link command inputs (TooLarge file) = ⊥
StopsOnline link command inputs WriteFault = ⊥

-- all files are accepted, and what is made of what they stand for is what the command writes over the network; or it stops there
abbrev pub MakesOver : Link → Command → Inputs → Result (Vec ℕ) Stop → Type 0
MakesOver link command inputs (Ok bytes) = IsOutputOver link command inputs bytes.items
MakesOver link command inputs (Err stop) = StopsOnline link command inputs stop

-- what is made of files is so of them alone, or over the network
abbrev pub MakesIn : Type 0 → Link → Command → List File → Option Shelf → Option Shelf → Count → Result (Vec ℕ) Stop → Type 0
MakesIn Calm link command files told told_now reads result =
    MakesOn Calm command files told told_now reads result ⊎ OfInputs told files (λ inputs. MakesOver link command inputs result)

-- and so is what is made of what the words ask for
abbrev pub MakesAsked : Type 0 → Link → List (List ℕ) → Option Shelf → Option Shelf → Count → Result (Vec ℕ) Stop → Type 0
MakesAsked Calm link words told told_now reads result =
    Makes Calm words told told_now reads result ⊎ AsksFor words (λ command files. OfInputs told files (λ inputs. MakesOver link command inputs result))

-- it did not stop for the network
abbrev pub IsNoLinkFault : {X : Type 0} → Result X Stop → Type 0
IsNoLinkFault (Ok x) = Unit {0}
IsNoLinkFault (Err NoMemory) = Unit {0}
IsNoLinkFault (Err (Refused what)) = Unit {0}
IsNoLinkFault (Err NoStep2) = Unit {0}
IsNoLinkFault (Err LinkFault) = ⊥
IsNoLinkFault (Err Usage) = Unit {0}
IsNoLinkFault (Err (ReadFault file)) = Unit {0}
IsNoLinkFault (Err (TooLarge file)) = Unit {0}
IsNoLinkFault (Err WriteFault) = Unit {0}
