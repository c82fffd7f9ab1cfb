-- Why words ask for nothing.
use Rattle.std.specs.Prelude.{◌≢◌, ℕ, List, map}
use Rattle.yd_words.specs.Each.{Each}
use Rattle.yd_files.specs.Files.{File, IsNamed, file_word}
use Rattle.yd_asking.specs.Words.{AreOfNoForm}
use Rattle.yd_ending.specs.declared.stop.Stop.{Stop}
use Rattle.yd_ending.specs.declared.stop.Stop.TheVariants.{Usage, Refused, ReadFault, TooLarge, NoMemory, WriteFault, LinkFault, NoStep2}

-- no files have these words
abbrev pub NameNoFiles : List (List ℕ) → Type 0
NameNoFiles names = (files : List File) → Each IsNamed files → names ≢ map file_word files

-- this is said of the words, or memory is wanted
abbrev pub IsUsage : Type 0 → Stop → Type 0
IsUsage Said Usage = Said
IsUsage Said NoMemory = Unit {0}
IsUsage Said (Refused what) = ⊥
IsUsage Said (ReadFault file) = ⊥
IsUsage Said (TooLarge file) = ⊥
IsUsage Said WriteFault = ⊥
IsUsage Said LinkFault = ⊥
IsUsage Said NoStep2 = ⊥

-- the words are of no form, or memory is wanted
abbrev pub StopsAsking : List (List ℕ) → Stop → Type 0
StopsAsking words stop = IsUsage (AreOfNoForm words) stop

-- they name no files, or memory is wanted
abbrev pub StopsNaming : List (List ℕ) → Stop → Type 0
StopsNaming names stop = IsUsage (NameNoFiles names) stop
