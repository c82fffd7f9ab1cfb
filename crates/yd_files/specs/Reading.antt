-- What reading files answers, and why it stops (own).
use Rattle.std.specs.Prelude.{◌≡◌, ℕ, List, [], ◌∷◌, ◌++◌, Option, Result, Ok, Err}
use Rattle.yd_words.specs.Each.{Each}
use Rattle.yd_ops.specs.Valid.{IsValidUpdate}
use Rattle.yd_ops.specs.Value.{UpdateValue}
use Rattle.yd_parts.specs.Fault.{Fault}
use Rattle.yd_parts.specs.declared.fault.ReadError.{ReadError}
use Rattle.yd_parts.specs.declared.fault.ReadError.TheVariants as errors
use Rattle.yd_world.specs.Shelf.{Shelf}
use Rattle.yd_files.specs.Counts.{Count, RoseIn}
use Rattle.yd_files.specs.Files.{File}
use Rattle.yd_files.specs.Loading.{BeginsLast}
use Rattle.yd_files.specs.Seen.{file_of, inputs_with}
use Rattle.yd_files.specs.Verdict.{Content, HasVerdict, Inputs, IsReached, IsTold, NoneIsMissing, StandFor, StandsIn, StopsAt, accepted, missing, refused, scripts_of, too_large, updates_of, vectors_of}
use Rattle.yd_files.specs.declared.kind.Kind.{Kind}
use Rattle.yd_files.specs.declared.fault.FileFault.{FileFault}
use Rattle.yd_files.specs.declared.fault.FileFault.TheVariants.{Refused, ReadFault, TooLarge, NoMemory}
use Rattle.yd_files.specs.declared.inputs.Others.{Others}

-- ---- one file

-- the answer, where a value was read, is Ok and the value was taken in, or memory was wanted; else it is the error
abbrev pub TakesRead : {X : Type 0} → (X → Type 0) → Result X ReadError → Result (Unit {0}) ReadError → Type 0
TakesRead IsTaken (Ok x) (Ok done) = IsTaken x
TakesRead IsTaken (Ok x) (Err errors.NoMemory) = Unit {0}
TakesRead IsTaken (Ok x) (Err (errors.Fault cause spot)) = ⊥
TakesRead IsTaken (Err error) result = result ≡ Err error

-- those of no file
abbrev pub no_inputs : Inputs
no_inputs = record { kinds = []; vectors = []; scripts = []; updates = [] }

-- inputs with one more content behind them, of a file of the kind
abbrev pub with_content : Inputs → Kind → Content → Inputs
with_content inputs kind content = record { kinds = inputs.kinds ++ kind ∷ []; vectors = inputs.vectors ++ vectors_of content; scripts = inputs.scripts ++ scripts_of content; updates = inputs.updates ++ updates_of content }

-- whatever inputs it took before, it has taken this content of a file of the kind behind them now
abbrev pub TakesContent : (Inputs → Type 0) → (Inputs → Type 0) → Kind → Content → Type 0
TakesContent Took TookNow kind content = (before : Inputs) → Took before → TookNow (with_content before kind content)

-- the bytes of a file of the kind stand for a content, whose updates are valid, and it was taken
pub record TakesFile (kind : Kind) (bytes : List ℕ) (Took TookNow : Inputs → Type 0) : Type 0 where
  pub content : Content
  pub stands : StandsIn kind bytes content
  pub valid : Each IsValidUpdate (updates_of content)
  pub taken : TakesContent Took TookNow kind content

-- these are what the others have, with updates that were taken
pub record HaveTaken (others : Others) (Took : List UpdateValue → Type 0) (inputs : Inputs) : Type 0 where
  pub inputs_are : inputs ≡ inputs_with others inputs.updates
  pub updates : Took inputs.updates

-- the error is a fault that is so; want of memory has no reason
abbrev pub RefusedBy : (Fault → Type 0) → ReadError → Type 0
RefusedBy Fails errors.NoMemory = Unit {0}
RefusedBy Fails (errors.Fault cause spot) = Fails (record { cause = cause; spot = spot })

-- the file is accepted as a content, whose updates are valid, and it was taken
pub record ReadsOne (told : Option Shelf) (file : File) (Took TookNow : Inputs → Type 0) : Type 0 where
  pub content : Content
  pub is_read : HasVerdict told file (accepted content)
  pub valid : Each IsValidUpdate (updates_of content)
  pub taken : TakesContent Took TookNow file.kind content

-- why reading a file stopped: it is refused or too large, or the library failed at it; want of memory has no reason
abbrev pub StopsReading : Type 0 → Option Shelf → Option Shelf → File → Count → FileFault → Type 0
StopsReading Calm told told_now file reads (Refused other cause spot) = (file_of other ≡ file) × HasVerdict told file (refused (record { cause = cause; spot = spot }))
StopsReading Calm told told_now file reads (ReadFault other) = (file_of other ≡ file) × RoseIn reads × BeginsLast told told_now file.name × (Calm → IsTold told → HasVerdict told file missing)
StopsReading Calm told told_now file reads (TooLarge other) = (file_of other ≡ file) × HasVerdict told file too_large
StopsReading Calm told told_now file reads NoMemory = Unit {0}

-- ---- several files

-- all files are accepted, the updates of what they stand for are valid, and it was taken
pub record TakesFiles (told : Option Shelf) (files : List File) (Took : Inputs → Type 0) : Type 0 where
  pub inputs : Inputs
  pub stand : StandFor told files inputs
  pub valid : Each IsValidUpdate inputs.updates
  pub took : Took inputs

-- the library failed at this file: it was reached, and begun last or missing; where no call is set to fail, it is missing
pub record FailsAt (Calm : Type 0) (told told_now : Option Shelf) (files : List File) (file : File) : Type 0 where
  pub reached : IsReached told files file
  pub begun : BeginsLast told told_now file.name
  pub is_missing : Calm → IsTold told → HasVerdict told file missing

-- why reading files stopped: this one is the first that is not accepted, as it is refused or too large, or the library failed at it; want
-- of memory has no reason
abbrev pub StopsAmong : Type 0 → Option Shelf → Option Shelf → List File → Count → FileFault → Type 0
StopsAmong Calm told told_now files reads (Refused file cause spot) = StopsAt told files (file_of file) (refused (record { cause = cause; spot = spot }))
StopsAmong Calm told told_now files reads (ReadFault file) = RoseIn reads × FailsAt Calm told told_now files (file_of file)
StopsAmong Calm told told_now files reads (TooLarge file) = StopsAt told files (file_of file) too_large
StopsAmong Calm told told_now files reads NoMemory = Unit {0}

-- where the library tells, and the first file that is not accepted, if there is one, is there, reading counts no fault
abbrev pub ReadsCalmly : Option Shelf → List File → Count → Type 0
ReadsCalmly told files reads = IsTold told → NoneIsMissing told files → reads.now ≡ reads.before
