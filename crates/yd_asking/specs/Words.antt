-- What the words ask for (own).
use Rattle.std.specs.Prelude.{◌≡◌, ◌++◌, ℕ, List, map}
use Rattle.yd_words.specs.Each.{Each}
use Rattle.yd_files.specs.Files.{File, IsNamed, file_word}
use Rattle.yd_asking.specs.Command.{AreWanted, Command, HasRange, own_files, wanted_by, words_of}

-- the words are those of the command and of files that a word of their own names; with those that the command's words name in front of
-- them these are the files
pub record Asks (words : List (List ℕ)) (command : Command) (files : List File) : Type 0 where
  pub named : List File
  pub words_are : words ≡ words_of command (map file_word named)
  pub in_range : HasRange command
  pub are_wanted : AreWanted (wanted_by command) named
  pub are_named : Each IsNamed named
  pub files_are : files ≡ own_files command ++ named

-- the words are of none of the forms that run
abbrev pub AreOfNoForm : List (List ℕ) → Type 0
AreOfNoForm words = (command : Command) (files : List File) → ¬ (Asks words command files)

-- the words ask for a command of files, of which this holds
pub record AsksFor (words : List (List ℕ)) (Holds : Command → List File → Type 0) : Type 0 where
  pub command : Command
  pub files : List File
  pub asks : Asks words command files
  pub holds : Holds command files
