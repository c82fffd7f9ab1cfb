-- The commands: what each is called, how its words go on, and which files it wants (own).
use Rattle.std.specs.Prelude.{◌≡◌, ℕ, ◌<◌, ◌≤◌, ◌^◌, List, [], ◌∷◌, ◌++◌, length, codes, decimal, Option, Some, None}
use Rattle.yd_ids.specs.declared.id.Client.{Client}
use Rattle.yd_ids.specs.Id.{IsClient}
use Rattle.yd_files.specs.Files.{AreOneUpdate, File}
use Rattle.yd_files.specs.declared.kind.Kind.TheVariants as kinds
use Rattle.yd_asking.specs.declared.command.Command.{Command as CommandSeen}
use Rattle.yd_asking.specs.declared.command.Command.TheVariants.{Show, Convert, Pack, Merge, Vector, Cut, Edit, Check, Serve, Sync, Generate}
use Rattle.yd_asking.specs.declared.command.Wanted.{Wanted}
use Rattle.yd_asking.specs.declared.command.Wanted.TheVariants.{Several, OneUpdate, Any, NoFile}
use Rattle.yd_asking.specs.declared.format.Format.{Format}
use Rattle.yd_asking.specs.declared.format.Format.TheVariants.{V1, V2}
use Rattle.yd_modes.specs.declared.mode.Mode.{Mode}
use Rattle.yd_modes.specs.declared.mode.Mode.TheVariants.{Text, Delta, Array, Map, Tree}

-- what is done with files: a root is shown in a mode of all that they hold, the one file is written in a format, all updates as one log
-- or as one update in a format, the vector that all reach together, or what the one file has from the vector in a file on; a client plays
-- the script in a file on all that they hold, and what its lines made is written as one update; or it is told what was found of all updates;
-- or the one file's update is served at an address for so many turns, or brought in step with a server there, and all that is there at the end is written;
-- or a large text is made by so many steps of three replicas, and it is told how much of it is there and whether they end equal
pub data Command : Type 0 where
  show : Mode → List ℕ → Command
  convert : Format → Command
  pack : Command
  merge : Format → Command
  vector : Command
  cut : List ℕ → Command
  edit : Client → List ℕ → Command
  check : Command
  serve : List ℕ → ℕ → Command
  sync : List ℕ → ℕ → Command
  generate : ℕ → Command

-- the command that the code has, without where its texts lie in memory
abbrev pub command_of : CommandSeen → Command
command_of (Show mode root) = show mode root.now
command_of (Convert form) = convert form
command_of Pack = pack
command_of (Merge form) = merge form
command_of Vector = vector
command_of (Cut name) = cut name.now
command_of (Edit client name) = edit client name.now
command_of Check = check
command_of (Serve address turns) = serve address.now turns
command_of (Sync address turns) = sync address.now turns
command_of (Generate steps) = generate steps

-- its name
abbrev pub name_of : Command → List ℕ
name_of (show mode root) = codes "show"
name_of (convert form) = codes "convert"
name_of pack = codes "pack"
name_of (merge form) = codes "merge"
name_of vector = codes "vector"
name_of (cut name) = codes "cut"
name_of (edit client name) = codes "edit"
name_of check = codes "check"
name_of (serve address turns) = codes "serve"
name_of (sync address turns) = codes "sync"
name_of (generate steps) = codes "generate"

-- the word that names a format
abbrev pub word_of : Format → List ℕ
word_of V1 = codes "v1"
word_of V2 = codes "v2"

-- the word that names a mode
abbrev pub word_of_mode : Mode → List ℕ
word_of_mode Text = codes "--text"
word_of_mode Delta = codes "--delta"
word_of_mode Array = codes "--array"
word_of_mode Map = codes "--map"
word_of_mode Tree = codes "--tree"

-- the words behind its name that say how
abbrev pub arguments_of : Command → List (List ℕ)
arguments_of (show mode root) = word_of_mode mode ∷ root ∷ []
arguments_of (convert form) = word_of form ∷ []
arguments_of pack = []
arguments_of (merge form) = word_of form ∷ []
arguments_of vector = []
arguments_of (cut name) = name ∷ []
arguments_of (edit client name) = decimal client.0 ∷ name ∷ []
arguments_of check = []
arguments_of (serve address turns) = address ∷ decimal turns ∷ []
arguments_of (sync address turns) = address ∷ decimal turns ∷ []
arguments_of (generate steps) = decimal steps ∷ []

-- the numbers among its arguments are in range
abbrev pub HasRange : Command → Type 0
HasRange (edit client name) = IsClient client
HasRange (serve address turns) = turns < 2 ^ 32
HasRange (sync address turns) = turns < 2 ^ 32
HasRange (generate steps) = steps ≤ 1000000
HasRange command = Unit {0}

-- it uses the network
abbrev pub IsOnline : Command → Type 0
IsOnline (serve address turns) = Unit {0}
IsOnline (sync address turns) = Unit {0}
IsOnline command = ⊥

-- it is of what the files stand for together, and of nothing else: all are, but `pack`, `vector` and `cut`, which work while files are
-- read, and those that use the network. `generate` has no file
abbrev pub IsOfInputs : Command → Type 0
IsOfInputs pack = ⊥
IsOfInputs vector = ⊥
IsOfInputs (cut name) = ⊥
IsOfInputs (serve address turns) = ⊥
IsOfInputs (sync address turns) = ⊥
IsOfInputs command = Unit {0}

-- which files it wants
abbrev pub wanted_by : Command → Wanted
wanted_by (show mode root) = Several
wanted_by (convert form) = OneUpdate
wanted_by pack = Several
wanted_by (merge form) = Several
wanted_by vector = Several
wanted_by (cut name) = OneUpdate
wanted_by (edit client name) = Any
wanted_by check = Several
wanted_by (serve address turns) = OneUpdate
wanted_by (sync address turns) = OneUpdate
wanted_by (generate steps) = NoFile

-- the files that its own words name, which are read before all others
abbrev pub own_files : Command → List File
own_files (cut name) = record { kind = kinds.Vector; name = name } ∷ []
own_files (edit client name) = record { kind = kinds.Script; name = name } ∷ []
own_files command = []

-- a file, if it is given
abbrev pub given_files : Option File → List File
given_files None = []
given_files (Some file) = file ∷ []

-- these are such: one or more, or one that stands for one update, or any, or none
abbrev pub AreWanted : Wanted → List File → Type 0
AreWanted Several files = 0 < length files
AreWanted OneUpdate files = AreOneUpdate files
AreWanted Any files = Unit {0}
AreWanted NoFile files = files ≡ []

-- the command's words, and then those that name the files
abbrev pub words_of : Command → List (List ℕ) → List (List ℕ)
words_of command names = name_of command ∷ arguments_of command ++ names
