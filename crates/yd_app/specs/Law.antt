-- Laws over words, files, and what is shown of them.
use Rattle.std.specs.Prelude.{◌≡◌, ◌⊎◌, ◌++◌, ℕ, ◌≤◌, true, List, [], ◌∷◌, codes, Option, Some}
use Rattle.yd_checking.specs.Law.{AreToldAlike}
use Rattle.yd_fields.specs.UpdatePlan.{structs_in}
use Rattle.yd_generator.specs.Generated.{ended}
use Rattle.yd_grouping.specs.Merged.{merge_of}
use Rattle.yd_ops.specs.Value.{UpdateValue}
use Rattle.yd_ops.specs.Agreement.{AreAlike, Agree, HaveSameContents, SayTheSame, operations_of_all}
use Rattle.yd_v2.specs.Reading.{most_structs}
use Rattle.yd_world.specs.Shelf.{Shelf}
use Rattle.yd_world.specs.Traffic.{Traffic}
use Rattle.yd_ending.specs.Writing.{TakesAll}
use Rattle.yd_files.specs.Files.{File}
use Rattle.yd_files.specs.Verdict.{Inputs, StandFor}
use Rattle.yd_files.specs.declared.kind.Kind.{Kind}
use Rattle.yd_files.specs.declared.kind.Kind.TheVariants as kinds
use Rattle.yd_asking.specs.Command.{Command, check, convert, generate, merge, show, vector}
use Rattle.yd_app.specs.Commands.Generate.{generated_line}
use Rattle.yd_app.specs.Due.{AreKept, Due, IsDue, IsDueOver, line_of_due, status_of_due}
use Rattle.yd_app.specs.Link.{Link}
use Rattle.yd_app.specs.Online.{GoesOnline}
use Rattle.yd_app.specs.Output.{BringHonest, IsMadeOf, IsOutputOf}
use Rattle.yd_app.specs.Run.{Writes}
use Rattle.yd_asking.specs.Words.{Asks}
use Rattle.yd_asking.specs.declared.format.Format.{Format}
use Rattle.yd_asking.specs.declared.format.Format.TheVariants.{V1, V2}
use Rattle.yd_modes.specs.declared.mode.Mode.{Mode}

-- words ask for one command of one list of files at most
abbrev pub AskForOne : Type 0
AskForOne = (words : List (List ℕ)) (command other : Command) (files others : List File) → Asks words command files → Asks words other others → (command ≡ other) × (files ≡ others)

-- where a library tells, something is due by the words and the files alone, or the words ask for the network. It is one thing; of `show`,
-- `check` and `edit` where the edit rules are kept
pub record OneIsDue : Type 0 where
  pub some : (words : List (List ℕ)) (shelf : Shelf) → ((due : Due) × IsDue words (Some shelf) due) ⊎ GoesOnline words (Some shelf)
  pub one : (words : List (List ℕ)) (shelf : Shelf) → AreKept words (Some shelf) → (due other : Due) → IsDue words (Some shelf) due → IsDue words (Some shelf) other → due ≡ other
  pub apart : (words : List (List ℕ)) (shelf : Shelf) (due : Due) → IsDue words (Some shelf) due → GoesOnline words (Some shelf) → ⊥

-- all that is due over one network that tells has one status and one line on err; outputs may list their deletions in one way or another
abbrev pub OneEndsOnline : Type 0
OneEndsOnline = (words : List (List ℕ)) (shelf : Shelf) (traffic : Traffic) (link : Link) (due other : Due) → link.before.told ≡ Some traffic →
    IsDueOver words (Some shelf) link due → IsDueOver words (Some shelf) link other → (status_of_due due ≡ status_of_due other) × (line_of_due due ≡ line_of_due other)

-- the updates of both have the same operations and deletions, in any order and repeated, and operations with one id are alike
pub record HaveOneContents (one other : List UpdateValue) : Type 0 where
  pub alike : AreAlike (operations_of_all one)
  pub same : HaveSameContents one other

-- the updates of both agree, and say the same, so that some of one may be merged in the other
pub record SayOneThing (one other : List UpdateValue) : Type 0 where
  pub agree : Agree one
  pub others_agree : Agree other
  pub same : SayTheSame one other

-- the updates are the same changes: in any order, repeated, or merged
abbrev pub AreSameChanges : List UpdateValue → List UpdateValue → Type 0
AreSameChanges one other = HaveOneContents one other ⊎ SayOneThing one other

-- files in any formats, by any names and in any libraries, show the same of each root, in every mode, where they are the same changes and
-- bring what keeps the edit rules
abbrev pub ShowsConverge : Type 0
ShowsConverge = (shelf other : Shelf) (files others : List File) (one another : Inputs) (mode : Mode) (root : List ℕ) → StandFor (Some shelf) files one →
    StandFor (Some other) others another → AreSameChanges one.updates another.updates → BringHonest one.updates →
    (bytes others_bytes : List ℕ) → IsOutputOf (show mode root) one bytes → IsOutputOf (show mode root) another others_bytes → bytes ≡ others_bytes

-- the words ask to show the root in the mode, of files that are read as these inputs, and what is promised for status 0 was written
pub record Shows (mode : Mode) (root : List ℕ) (inputs : Inputs) (words : List (List ℕ)) (shelf : Shelf) (link : Link) (taken now : Option (List ℕ)) : Type 0 where
  pub files : List File
  pub asks : Asks words (show mode root) files
  pub stand : StandFor (Some shelf) files inputs
  pub writes : Writes words (Some shelf) link taken now

-- two runs that show a root in one mode of the same changes, which bring what keeps the edit rules, and answer 0 have written the same
abbrev pub RunsConverge : Type 0
RunsConverge = (mode : Mode) (root : List ℕ) (one another : Inputs) (words others : List (List ℕ)) (shelf other : Shelf) (link another_link : Link) (taken now took took_now : Option (List ℕ)) →
    Shows mode root one words shelf link taken now → Shows mode root another others other another_link took took_now → AreSameChanges one.updates another.updates →
    BringHonest one.updates →
    (written : List ℕ) × TakesAll taken now written × TakesAll took took_now written

-- ---- merges

-- the command writes the merge of its files, or what only that tells
abbrev pub WritesOfMerge : Command → Type 0
WritesOfMerge (merge form) = Unit {0}
WritesOfMerge vector = Unit {0}
WritesOfMerge command = ⊥

-- files in any formats, by any names and in any libraries, have the same merge and the same vector where they are the same changes
abbrev pub MergesConverge : Type 0
MergesConverge = (command : Command) (shelf other : Shelf) (files others : List File) (one another : Inputs) → WritesOfMerge command → StandFor (Some shelf) files one →
    StandFor (Some other) others another → AreSameChanges one.updates another.updates →
    (bytes others_bytes : List ℕ) → IsOutputOf command one bytes → IsOutputOf command another others_bytes → bytes ≡ others_bytes

-- the words ask for the command of files that are read as these inputs, and what is promised for status 0 was written
pub record Runs (command : Command) (inputs : Inputs) (words : List (List ℕ)) (shelf : Shelf) (link : Link) (taken now : Option (List ℕ)) : Type 0 where
  pub files : List File
  pub asks : Asks words command files
  pub stand : StandFor (Some shelf) files inputs
  pub writes : Writes words (Some shelf) link taken now

-- two runs that merge the same changes in one format, or tell their vector, and answer 0 have written the same
abbrev pub MergeRunsConverge : Type 0
MergeRunsConverge = (command : Command) (one another : Inputs) (words others : List (List ℕ)) (shelf other : Shelf) (link another_link : Link) (taken now took took_now : Option (List ℕ)) → WritesOfMerge command →
    Runs command one words shelf link taken now → Runs command another others other another_link took took_now → AreSameChanges one.updates another.updates →
    (written : List ℕ) × TakesAll taken now written × TakesAll took took_now written

-- ---- checks

-- files in any formats, by any names and in any libraries, are told alike, in all seven lines but that of deleted units, where they are the same
-- changes and agree; and in all seven, where they bring what keeps the edit rules
pub record ChecksConverge : Type 0 where
  pub alike : (shelf other : Shelf) (files others : List File) (one another : Inputs) → StandFor (Some shelf) files one → StandFor (Some other) others another →
      Agree one.updates → Agree another.updates → AreSameChanges one.updates another.updates →
      (bytes others_bytes : List ℕ) → (a : IsOutputOf check one bytes) → (b : IsOutputOf check another others_bytes) → AreToldAlike a.found b.found
  pub same : (shelf other : Shelf) (files others : List File) (one another : Inputs) → StandFor (Some shelf) files one → StandFor (Some other) others another →
      Agree one.updates → Agree another.updates → AreSameChanges one.updates another.updates → BringHonest one.updates →
      (bytes others_bytes : List ℕ) → IsOutputOf check one bytes → IsOutputOf check another others_bytes → bytes ≡ others_bytes

-- two runs that check the same changes, which agree and bring what keeps the edit rules, and answer 0 have written the same
abbrev pub CheckRunsConverge : Type 0
CheckRunsConverge = (one another : Inputs) (words others : List (List ℕ)) (shelf other : Shelf) (link another_link : Link) (taken now took took_now : Option (List ℕ)) →
    Runs check one words shelf link taken now → Runs check another others other another_link took took_now →
    Agree one.updates → Agree another.updates → AreSameChanges one.updates another.updates → BringHonest one.updates →
    (written : List ℕ) × TakesAll taken now written × TakesAll took took_now written

-- ---- a large text that is made

-- the line of `generate` is one of the number of steps, and ends with `equal yes`; and a run of it that answers 0 has written that line
pub record GeneratesEqual : Type 0 where
  pub line : (steps : ℕ) (inputs : Inputs) (bytes : List ℕ) → steps ≤ 1000000 → IsOutputOf (generate steps) inputs bytes → bytes ≡ generated_line (ended steps) true
  pub ends : (steps : ℕ) (inputs : Inputs) (bytes : List ℕ) → steps ≤ 1000000 → IsOutputOf (generate steps) inputs bytes → (before : List ℕ) × (bytes ≡ before ++ codes "equal yes\n")
  pub runs : (steps : ℕ) (inputs : Inputs) (words : List (List ℕ)) (shelf : Shelf) (link : Link) (taken now : Option (List ℕ)) →
      Runs (generate steps) inputs words shelf link taken now → TakesAll taken now (generated_line (ended steps) true)

-- ---- conversions

-- a file in the format
abbrev pub kind_of : Format → Kind
kind_of V1 = kinds.V1
kind_of V2 = kinds.V2

abbrev pub file_in : Format → List ℕ → File
file_in form name = record { kind = kind_of form; name = name }

-- a file in the format may have as many structs as the update
abbrev pub FitsIn : Format → UpdateValue → Type 0
FitsIn V1 u = Unit {0}
FitsIn V2 u = structs_in u.blocks ≤ most_structs

-- `convert` of what `merge` wrote in one format is the merge in the other
abbrev pub MergesAreConverted : Type 0
MergesAreConverted = (shelf other : Shelf) (files : List File) (name : List ℕ) (form to : Format) (inputs others : Inputs) (bytes written : List ℕ) → StandFor (Some shelf) files inputs →
    IsMadeOf (merge form) inputs bytes → FitsIn form (merge_of inputs.updates) →
    other.bytes_under name ≡ Some bytes → StandFor (Some other) (file_in form name ∷ []) others → IsOutputOf (convert to) others written → IsOutputOf (merge to) inputs written
