-- What a file is, and which of several is the first that is not accepted (own).
use Rattle.std.specs.Prelude.{◌≡◌, ℕ, ◌^◌, ◌<◌, ◌≤◌, List, ◌++◌, ◌∷◌, [], length, map, Option, Some, None}
use Rattle.yd_fields.specs.UpdatePlan.{vector_plan}
use Rattle.yd_ids.specs.declared.id.Client.{Client}
use Rattle.yd_parts.specs.Fault.{Fault}
use Rattle.yd_script.specs.File.{HasFirstFaultScript, StandsForScript}
use Rattle.yd_v1.specs.Grammar.{FailsV1, FillsV1, HasFirstFaultV1, StandsForV1}
use Rattle.yd_v1.specs.Log.{HasFirstFaultLog, StandsForLog}
use Rattle.yd_v2.specs.Grammar.{HasFirstFaultV2, StandsForV2}
use Rattle.yd_ops.specs.Value.{UpdateValue}
use Rattle.yd_world.specs.Shelf.{Shelf}
use Rattle.yd_files.specs.Files.{File}
use Rattle.yd_files.specs.declared.kind.Kind.{Kind}
use Rattle.yd_files.specs.declared.kind.Kind.TheVariants.{V1, V2, Log, Vector, Script}

-- ---- bytes

-- what a file stands for: updates in order, a state vector, or the text of a script. A further kind of file brings what it stands for
pub data Content : Type 0 where
  updates : List UpdateValue → Content
  vector : List (Client × ℕ) → Content
  script : List ℕ → Content

-- one update
abbrev pub one_update : UpdateValue → Content
one_update u = updates (u ∷ [])

-- the content is made of a value for which the bytes stand
abbrev pub StandsAs : {X : Type 0} → (X → Content) → (X → Type 0) → Content → Type 0
StandsAs {X} made Stands content = (x : X) × (content ≡ made x) × Stands x

-- the bytes stand for it, by the grammar of the kind
abbrev pub StandsIn : Kind → List ℕ → Content → Type 0
StandsIn V1 bytes = StandsAs one_update (StandsForV1 bytes)
StandsIn V2 bytes = StandsAs one_update (StandsForV2 bytes)
StandsIn Log bytes = StandsAs updates (StandsForLog bytes)
StandsIn Vector bytes = StandsAs vector (FillsV1 vector_plan bytes)
StandsIn Script bytes = StandsAs script (StandsForScript bytes)

-- the fault is the first in them, by the grammar of the kind
abbrev pub HasFirstFaultIn : Kind → List ℕ → Fault → Type 0
HasFirstFaultIn V1 bytes = HasFirstFaultV1 bytes
HasFirstFaultIn V2 bytes = HasFirstFaultV2 bytes
HasFirstFaultIn Log bytes = HasFirstFaultLog bytes
HasFirstFaultIn Vector bytes = FailsV1 vector_plan bytes
HasFirstFaultIn Script bytes = HasFirstFaultScript bytes

-- they are at most 256 MiB
abbrev pub IsWithin : List ℕ → Type 0
IsWithin bytes = length bytes ≤ 2 ^ 28

-- they are more
abbrev pub IsTooLarge : List ℕ → Type 0
IsTooLarge bytes = 2 ^ 28 < length bytes

-- the updates of a content
abbrev pub updates_of : Content → List UpdateValue
updates_of (updates us) = us
updates_of (vector v) = []
updates_of (script text) = []

-- the updates of contents, in order
abbrev pub updates_in : List Content → List UpdateValue
updates_in [] = []
updates_in (content ∷ contents) = updates_of content ++ updates_in contents

-- the state vectors of a content
abbrev pub vectors_of : Content → List (List (Client × ℕ))
vectors_of (updates us) = []
vectors_of (vector v) = v ∷ []
vectors_of (script text) = []

-- the state vectors of contents, in order
abbrev pub vectors_in : List Content → List (List (Client × ℕ))
vectors_in [] = []
vectors_in (content ∷ contents) = vectors_of content ++ vectors_in contents

-- the scripts of a content
abbrev pub scripts_of : Content → List (List ℕ)
scripts_of (updates us) = []
scripts_of (vector v) = []
scripts_of (script text) = text ∷ []

-- the scripts of contents, in order
abbrev pub scripts_in : List Content → List (List ℕ)
scripts_in [] = []
scripts_in (content ∷ contents) = scripts_of content ++ scripts_in contents

-- what files stand for together: of which kinds they are, their state vectors, their scripts and their updates, each in order
pub record Inputs : Type 0 where
  pub kinds : List Kind
  pub vectors : List (List (Client × ℕ))
  pub scripts : List (List ℕ)
  pub updates : List UpdateValue

-- the files' kinds, and what is in their contents
abbrev pub inputs_in : List File → List Content → Inputs
inputs_in files contents = record { kinds = map (λ (file : File). file.kind) files; vectors = vectors_in contents; scripts = scripts_in contents; updates = updates_in contents }

-- ---- what a library tells

-- the library tells
abbrev pub IsTold : Option Shelf → Type 0
IsTold None = ⊥
IsTold (Some shelf) = Unit {0}

-- where the library tells, it has bytes under the name, of which this holds
abbrev pub WhereTold : Option Shelf → List ℕ → (List ℕ → Type 0) → Type 0
WhereTold None name Holds = Unit {0}
WhereTold (Some shelf) name Holds = (bytes : List ℕ) × (shelf.bytes_under name ≡ Some bytes) × Holds bytes

-- where the library tells, it has none
abbrev pub LacksName : Option Shelf → List ℕ → Type 0
LacksName None name = Unit {0}
LacksName (Some shelf) name = shelf.bytes_under name ≡ None

-- ---- files

-- what a file is: accepted as what it stands for, refused for what is wrong first, too large, or missing
pub data Verdict : Type 0 where
  accepted : Content → Verdict
  refused : Fault → Verdict
  too_large : Verdict
  missing : Verdict

-- the file is so: its bytes stand for the content by its kind, or are outside the grammar, or are too many, or are not there
abbrev pub HasVerdict : Option Shelf → File → Verdict → Type 0
HasVerdict told file (accepted content) = WhereTold told file.name (λ bytes. IsWithin bytes × StandsIn file.kind bytes content)
HasVerdict told file (refused fault) = WhereTold told file.name (λ bytes. IsWithin bytes × HasFirstFaultIn file.kind bytes fault)
HasVerdict told file too_large = WhereTold told file.name IsTooLarge
HasVerdict told file missing = LacksName told file.name

-- the file is not accepted
abbrev pub IsNotAccepted : Verdict → Type 0
IsNotAccepted (accepted content) = ⊥
IsNotAccepted (refused fault) = Unit {0}
IsNotAccepted too_large = Unit {0}
IsNotAccepted missing = Unit {0}

-- all files are accepted, as these contents
abbrev pub AreRead : Option Shelf → List File → List Content → Type 0
AreRead told [] [] = Unit {0}
AreRead told [] (content ∷ contents) = ⊥
AreRead told (file ∷ files) [] = ⊥
AreRead told (file ∷ files) (content ∷ contents) = HasVerdict told file (accepted content) × AreRead told files contents

-- all files are accepted, and this is what they stand for
pub record StandFor (told : Option Shelf) (files : List File) (inputs : Inputs) : Type 0 where
  pub contents : List Content
  pub are_read : AreRead told files contents
  pub inputs_are : inputs ≡ inputs_in files contents

-- the file is one of these, and all before it are accepted
pub record IsReached (told : Option Shelf) (files : List File) (file : File) : Type 0 where
  pub before : List File
  pub behind : List File
  pub contents : List Content
  pub files_are : files ≡ before ++ file ∷ behind
  pub are_read : AreRead told before contents

-- the first of the files that is not accepted is this one, for what it is
pub record StopsAt (told : Option Shelf) (files : List File) (file : File) (verdict : Verdict) : Type 0 where
  pub reached : IsReached told files file
  pub not_accepted : IsNotAccepted verdict
  pub verdict_is : HasVerdict told file verdict

-- the first that is not accepted, if there is one, is there
abbrev pub NoneIsMissing : Option Shelf → List File → Type 0
NoneIsMissing told files = (file : File) → ¬ (StopsAt told files file missing)
