-- What is due in a run, by its words, its files and its network: one thing, with its status and its line on err (own).
use Rattle.std.specs.Prelude.{◌≡◌, ◌⊎◌, ℕ, List, [], ◌∷◌, Option}
use Rattle.yd_parts.specs.Fault.{Fault}
use Rattle.yd_world.specs.Shelf.{Shelf}
use Rattle.yd_ending.specs.Lines.{limit_line, no_step_2_line, read_fault_line, refused_line, usage_line}
use Rattle.yd_ending.specs.Status as status
use Rattle.yd_files.specs.Files.{File}
use Rattle.yd_files.specs.Verdict.{Inputs, StandFor, StopsAt, missing, refused, too_large}
use Rattle.yd_asking.specs.Command.{Command}
use Rattle.yd_app.specs.Link.{Link}
use Rattle.yd_app.specs.Online.{IsOutputOver, IsRefusalOver, OfInputs, WantsStep2}
use Rattle.yd_app.specs.Output.{IsOutputOf, IsRefusalOf, KeepsRules}
use Rattle.yd_asking.specs.Words.{AreOfNoForm, Asks, AsksFor}

-- how the program is used; the line of what is refused; the name of a file that is too large; the name that the library lacks; that
-- no step 2 came; or the bytes that the command makes
pub data Due : Type 0 where
  usage : Due
  refusal : List ℕ → Due
  over_limit : List ℕ → Due
  lacking : List ℕ → Due
  no_step_2 : Due
  output : List ℕ → Due

-- the line says what is refused: the first of the files that is not accepted, or by the command something of what they all stand for
abbrev pub Refuses : Option Shelf → Command → List File → List ℕ → Type 0
Refuses told command files line =
    ((file : File) × (fault : Fault) × StopsAt told files file (refused fault) × (line ≡ refused_line file fault))
    ⊎ ((inputs : Inputs) × StandFor told files inputs × IsRefusalOf command inputs line)

-- by the words and the files alone: usage where the words are of no form; what the command makes of its files where all are accepted; and
-- else what the first is that is not: refused, too large or missing; or what the command refuses of its files where all are accepted
abbrev pub IsDue : List (List ℕ) → Option Shelf → Due → Type 0
IsDue words told usage = AreOfNoForm words
IsDue words told (refusal line) = AsksFor words (λ command files. Refuses told command files line)
IsDue words told (over_limit name) = AsksFor words (λ command files. (file : File) × StopsAt told files file too_large × (name ≡ file.name))
IsDue words told (lacking name) = AsksFor words (λ command files. (file : File) × StopsAt told files file missing × (name ≡ file.name))
IsDue words told no_step_2 = ⊥
IsDue words told (output bytes) = AsksFor words (λ command files. (inputs : Inputs) × StandFor told files inputs × IsOutputOf command inputs bytes)

-- so the edit rules are kept by what the words ask for, where all files are accepted
abbrev pub AreKept : List (List ℕ) → Option Shelf → Type 0
AreKept words told = (command : Command) (files : List File) (inputs : Inputs) → Asks words command files → StandFor told files inputs → KeepsRules command inputs

-- by what came over the network, where all files are accepted: what the command writes, the line of the message that it refuses, or that
-- no step 2 came
abbrev pub IsDueOver : List (List ℕ) → Option Shelf → Link → Due → Type 0
IsDueOver words told link usage = ⊥
IsDueOver words told link (refusal line) = AsksFor words (λ command files. OfInputs told files (λ inputs. IsRefusalOver link command inputs line))
IsDueOver words told link (over_limit name) = ⊥
IsDueOver words told link (lacking name) = ⊥
IsDueOver words told link no_step_2 = AsksFor words (λ command files. OfInputs told files (WantsStep2 link command))
IsDueOver words told link (output bytes) = AsksFor words (λ command files. OfInputs told files (λ inputs. IsOutputOver link command inputs bytes))

-- in the one way or the other
abbrev pub IsDueIn : List (List ℕ) → Option Shelf → Link → Due → Type 0
IsDueIn words told link due = IsDue words told due ⊎ IsDueOver words told link due

-- its status
abbrev pub status_of_due : Due → ℕ
status_of_due usage = status.wrong_use
status_of_due (refusal line) = status.refused
status_of_due (over_limit name) = status.too_large
status_of_due (lacking name) = status.read_fault
status_of_due no_step_2 = status.no_step_2
status_of_due (output bytes) = status.done

-- the statuses that can come where it is due: its own, want of memory, and a fault of what it uses
abbrev pub statuses_of_due : Due → List ℕ
statuses_of_due usage = status.wrong_use ∷ status.no_memory ∷ []
statuses_of_due (refusal line) = status.refused ∷ status.no_memory ∷ status.read_fault ∷ []
statuses_of_due (over_limit name) = status.too_large ∷ status.no_memory ∷ status.read_fault ∷ []
statuses_of_due (lacking name) = status.read_fault ∷ status.no_memory ∷ []
statuses_of_due no_step_2 = status.no_step_2 ∷ status.no_memory ∷ status.read_fault ∷ status.link_fault ∷ []
statuses_of_due (output bytes) = status.done ∷ status.no_memory ∷ status.read_fault ∷ status.write_fault ∷ []

-- its line on err
abbrev pub line_of_due : Due → List ℕ
line_of_due usage = usage_line
line_of_due (refusal line) = line
line_of_due (over_limit name) = limit_line name
line_of_due (lacking name) = read_fault_line name
line_of_due no_step_2 = no_step_2_line
line_of_due (output bytes) = []
