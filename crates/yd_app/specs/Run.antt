-- What a run promises: why each status comes, and what stands on out and on err then (own).
use Rattle.std.specs.Prelude.{◌≡◌, ◌⊎◌, ℕ, List, [], ◌∷◌, Option}
use Rattle.yd_world.specs.Faults.{Rose}
use Rattle.yd_world.specs.Shelf.{Shelf}
use Rattle.yd_files.specs.Counts.{Count, RoseIn}
use Rattle.yd_files.specs.Files.{File}
use Rattle.yd_files.specs.Reading.{FailsAt}
use Rattle.yd_files.specs.Verdict.{Inputs, IsTold, NoneIsMissing, StandFor}
use Rattle.yd_app.specs.Due.{Due, IsDue, IsDueIn, line_of_due, output, status_of_due, statuses_of_due}
use Rattle.yd_asking.specs.Command.{Command}
use Rattle.yd_ending.specs.Lines.{link_fault_line, no_memory_line, read_fault_line, write_fault_line}
use Rattle.yd_ending.specs.Status.{IsOneOf}
use Rattle.yd_ending.specs.Writing.{TakesAll, TakesFront, TakesPart}
use Rattle.yd_app.specs.Link.{Link}
use Rattle.yd_app.specs.Online.{GoesOnline, HasItsTurns, IsOutputOver, LosesItsNetwork, OfInputs}
use Rattle.yd_app.specs.Output.{IsMadeOf}
use Rattle.yd_asking.specs.Words.{AreOfNoForm, Asks, AsksFor}

-- ---- statuses

-- why the status comes: it is that of what is due, or a count rose; want of memory, status 5, has no reason
pub record HasReason (words : List (List ℕ)) (told : Option Shelf) (link : Link) (reads writes : Count) (status : ℕ) : Type 0 where
  pub as_due : IsOneOf status (0 ∷ 1 ∷ 2 ∷ 7 ∷ 8 ∷ []) → (due : Due) × IsDueIn words told link due × (status ≡ status_of_due due)
  pub read_fault : status ≡ 3 → RoseIn reads
  pub write_fault : status ≡ 4 → RoseIn writes
  pub link_fault : status ≡ 6 → LosesItsNetwork words told link

-- the status is one of these of something that is due
abbrev pub IsOfDue : List (List ℕ) → Option Shelf → (Due → List ℕ) → ℕ → Type 0
IsOfDue words told statuses status = (due : Due) × IsDue words told due × IsOneOf status (statuses due)

-- which statuses there are, and which of them can come: by what is due, and where the words ask for the network and all files are accepted
pub record Comes (words : List (List ℕ)) (told : Option Shelf) (status : ℕ) : Type 0 where
  pub is_status : IsOneOf status (0 ∷ 1 ∷ 2 ∷ 3 ∷ 4 ∷ 5 ∷ 6 ∷ 7 ∷ 8 ∷ [])
  pub no_form : AreOfNoForm words → IsOneOf status (2 ∷ 5 ∷ [])
  pub where_told : (due : Due) → IsTold told → IsDue words told due → IsOfDue words told statuses_of_due status
  pub online : IsTold told → GoesOnline words told → IsOneOf status (0 ∷ 1 ∷ 3 ∷ 4 ∷ 5 ∷ 6 ∷ 8 ∷ [])

-- where something is due, the run does or tells what is, or memory is wanted
abbrev pub Follows : List (List ℕ) → Option Shelf → ℕ → Type 0
Follows words told status = (due : Due) → IsTold told → IsDue words told due → IsOfDue words told (λ done. status_of_due done ∷ 5 ∷ []) status

-- where the words ask for the network and all files are accepted, it does or tells what comes of that, or memory is wanted
abbrev pub FollowsOnline : List (List ℕ) → Option Shelf → ℕ → Type 0
FollowsOnline words told status = IsTold told → GoesOnline words told → IsOneOf status (0 ∷ 1 ∷ 5 ∷ 8 ∷ [])

-- no count of faults rises where the first file that is not accepted, if there is one, is there
abbrev pub CountsNothing : List (List ℕ) → Option Shelf → Count → Count → Type 0
CountsNothing words told reads writes =
    (command : Command) (files : List File) → Asks words command files → IsTold told → NoneIsMissing told files → (reads.now ≡ reads.before) × (writes.now ≡ writes.before)

-- the run is complete where nothing is set to fail, and then counts no fault; and it is complete where no count rose. Over the network so
-- it is where the board has an event for each turn
pub record Completes (ReadsCalmly WritesCalmly LinksCalmly : Type 0) (words : List (List ℕ)) (told : Option Shelf) (link : Link) (reads writes : Count) (status : ℕ) : Type 0 where
  pub calm : ReadsCalmly → WritesCalmly → Follows words told status × CountsNothing words told reads writes
  pub counted : ¬ (RoseIn reads) → ¬ (RoseIn writes) → Follows words told status
  pub calm_online : ReadsCalmly → WritesCalmly → LinksCalmly → HasItsTurns words link.before.told → FollowsOnline words told status × (link.now.faults ≡ link.before.faults)
  pub counted_online : ¬ (RoseIn reads) → ¬ (RoseIn writes) → ¬ (Rose link.before.faults link.now.faults) → FollowsOnline words told status

-- ---- output

-- all that the command makes of what the files stand for was written, whoever made their updates and however their bytes spell them; what
-- `convert`, `pack`, `merge`, `vector`, `cut` and `edit` wrote stands again for what was written
abbrev pub TakesAllOf : Command → List File → Option Shelf → Option (List ℕ) → Option (List ℕ) → Type 0
TakesAllOf command files told taken now =
    (inputs : Inputs) × StandFor told files inputs × (bytes : List ℕ) × IsMadeOf command inputs bytes × TakesAll taken now bytes

-- all that it makes over the network was written
abbrev pub TakesAllOver : Link → Command → List File → Option Shelf → Option (List ℕ) → Option (List ℕ) → Type 0
TakesAllOver link command files told taken now =
    OfInputs told files (λ inputs. (bytes : List ℕ) × IsOutputOver link command inputs bytes × TakesAll taken now bytes)

-- so it is of what the words ask for
abbrev pub Writes : List (List ℕ) → Option Shelf → Link → Option (List ℕ) → Option (List ℕ) → Type 0
Writes words told link taken now =
    AsksFor words (λ command files. TakesAllOf command files told taken now) ⊎ AsksFor words (λ command files. TakesAllOver link command files told taken now)

-- a part of the output that is due was written, which may be nothing, and not all
abbrev pub WritesPart : List (List ℕ) → Option Shelf → Link → Option (List ℕ) → Option (List ℕ) → Type 0
WritesPart words told link taken now = (bytes : List ℕ) × IsDueIn words told link (output bytes) × TakesPart taken now bytes

-- what stands on out where the run ended within its output
pub record CutsOff (words : List (List ℕ)) (told : Option Shelf) (link : Link) (taken now : Option (List ℕ)) (status : ℕ) : Type 0 where
  pub write_fault : status ≡ 4 → WritesPart words told link taken now
  pub no_memory : status ≡ 5 → (now ≡ taken) ⊎ WritesPart words told link taken now

-- ---- err

-- the line is that of what is due, or of the fault; a read fault names the file at which the library failed
pub record IsLine (Calm : Type 0) (words : List (List ℕ)) (told told_now : Option Shelf) (link : Link) (status : ℕ) (line : List ℕ) : Type 0 where
  pub as_due : IsOneOf status (1 ∷ 2 ∷ 7 ∷ 8 ∷ []) → (due : Due) × IsDueIn words told link due × (status ≡ status_of_due due) × (line ≡ line_of_due due)
  pub read_fault : status ≡ 3 → AsksFor words (λ command files. (file : File) × FailsAt Calm told told_now files file × (line ≡ read_fault_line file.name))
  pub write_fault : status ≡ 4 → line ≡ write_fault_line
  pub no_memory : status ≡ 5 → line ≡ no_memory_line
  pub link_fault : status ≡ 6 → line ≡ link_fault_line

-- what stands on err: the line, or a front of it where err failed; where memory is wanted a front of the line that says so, or a part of the
-- line that was due, and then err did not fail. So a line that was told to its end has its own status
pub record TellsErr (Calm : Type 0) (words : List (List ℕ)) (told told_now : Option Shelf) (link : Link) (reads writes errs : Count) (taken now : Option (List ℕ)) (status : ℕ) : Type 0 where
  pub done : status ≡ 0 → now ≡ taken
  pub line : IsOneOf status (1 ∷ 2 ∷ 3 ∷ 4 ∷ 6 ∷ 7 ∷ 8 ∷ []) → (text : List ℕ) × IsLine Calm words told told_now link status text × TakesFront taken now text × (TakesAll taken now text ⊎ RoseIn errs)
  pub no_memory : status ≡ 5 →
      (text : List ℕ) × TakesFront taken now text
      × (IsLine Calm words told told_now link 5 text
      ⊎ ((due : ℕ) × IsOneOf due (1 ∷ 2 ∷ 3 ∷ 4 ∷ 6 ∷ 7 ∷ 8 ∷ []) × HasReason words told link reads writes due × IsLine Calm words told told_now link due text × TakesPart taken now text × (errs.now ≡ errs.before)))
