-- Laws of files (own).
use Rattle.std.specs.Prelude.{◌≡◌, ◌⊎◌, List, map, Some}
use Rattle.yd_words.specs.Each.{Each}
use Rattle.yd_ops.specs.Valid.{IsValidUpdate}
use Rattle.yd_world.specs.Shelf.{Shelf}
use Rattle.yd_files.specs.Files.{File, IsNamed, file_word}
use Rattle.yd_files.specs.Verdict.{HasVerdict, Inputs, StandFor, StopsAt, Verdict}

-- every file is one thing; all files of a list are accepted, and stand for inputs whose updates are valid, or there is one first that is not,
-- for one thing that it is; and never both
pub record FilesAreJudged : Type 0 where
  pub file : (shelf : Shelf) (file : File) → (verdict : Verdict) × HasVerdict (Some shelf) file verdict
  pub one : (shelf : Shelf) (file : File) (verdict other : Verdict) → HasVerdict (Some shelf) file verdict → HasVerdict (Some shelf) file other → verdict ≡ other
  pub files : (shelf : Shelf) (files : List File) →
      ((inputs : Inputs) × StandFor (Some shelf) files inputs) ⊎ ((file : File) × (verdict : Verdict) × StopsAt (Some shelf) files file verdict)
  pub inputs : (shelf : Shelf) (files : List File) (inputs others : Inputs) → StandFor (Some shelf) files inputs → StandFor (Some shelf) files others → inputs ≡ others
  pub valid : (shelf : Shelf) (files : List File) (inputs : Inputs) → StandFor (Some shelf) files inputs → Each IsValidUpdate inputs.updates
  pub first : (shelf : Shelf) (files : List File) (file other : File) (verdict thing : Verdict) → StopsAt (Some shelf) files file verdict → StopsAt (Some shelf) files other thing →
      (file ≡ other) × (verdict ≡ thing)
  pub apart : (shelf : Shelf) (files : List File) (inputs : Inputs) (file : File) (verdict : Verdict) → StandFor (Some shelf) files inputs → StopsAt (Some shelf) files file verdict → ⊥

-- words name one list of files at most
abbrev pub WordsNameFiles : Type 0
WordsNameFiles = (files others : List File) → Each IsNamed files → Each IsNamed others → map file_word files ≡ map file_word others → files ≡ others
