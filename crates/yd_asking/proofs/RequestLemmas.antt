-- What words ask for, as the code finds it.
use Rattle.std.proofs.Common.{◌≡◌, ◌≢◌, ℕ, zero, suc, ◌<◌, List, [], ◌∷◌, length, map, get_or, take, Result, Ok, Err, IfErr, IsErr, IsErrAnd, subst, sym, ap, ◌∙◌, arith}
use Rattle.yd_words.specs.Each.{Each}
use Rattle.yd_files.specs.Files.{File, IsNamed, file_word}
use Rattle.yd_files.specs.Seen.{file_of}
use Rattle.yd_files.specs.declared.file.File.{File as FileSeen}
use Rattle.yd_ending.specs.declared.stop.Stop.{Stop}
use Rattle.yd_ending.specs.declared.stop.Stop.TheVariants.{Usage, Refused, ReadFault, TooLarge, NoMemory, WriteFault, LinkFault, NoStep2}
use Rattle.yd_asking.specs.Asking.{NameNoFiles, StopsAsking, StopsNaming}
use Rattle.yd_asking.specs.Words.{AreOfNoForm}

-- so many of the words name these files
pub record NamesFront (words : List (List ℕ)) (count : ℕ) (files : List FileSeen) : Type 0 where
  pub words_are : take count words ≡ map file_word (map file_of files)
  pub are_named : Each IsNamed (map file_of files)

-- a word that names no file stands in no words of files
pub names_none : (words : List (List ℕ)) (i : ℕ) (word : List ℕ) → i < length words → word ≡ get_or words i word → ((file : File) → IsNamed file → word ≢ file_word file) → NameNoFiles words
names_none words i word lt here never files named e =
    at files i (subst (λ (ws : List (List ℕ)). i < length ws) e lt) named (here ∙ ap (λ (ws : List (List ℕ)). get_or ws i word) e)
  where
    at : (fs : List File) (n : ℕ) → n < length (map file_word fs) → Each IsNamed fs → word ≡ get_or (map file_word fs) n word → ⊥
    at [] n l all is = absurd (omega arith)
    at (f ∷ fs) zero l all is = never f all.0 is
    at (f ∷ fs) (suc n) l all is = at fs n (omega arith) all.1 is

-- words that name no files are of no form
pub asking_stopped : {X : Type 0} (words names : List (List ℕ)) (result : Result X Stop) (stop : Stop) → IsErr result × IsErrAnd result (λ s. s ≡ stop) → (NameNoFiles names → AreOfNoForm words) → StopsNaming names stop
    → IfErr result (StopsAsking words)
asking_stopped words names (Ok x) stop is none stops = tt
asking_stopped words names (Err other) stop is none stops = subst (StopsAsking words) (sym is.1) (by_stop stop stops)
  where
    by_stop : (s : Stop) → StopsNaming names s → StopsAsking words s
    by_stop Usage said = none said
    by_stop NoMemory said = tt
    by_stop (Refused what) said = said
    by_stop (ReadFault file) said = said
    by_stop (TooLarge file) said = said
    by_stop WriteFault said = said
    by_stop LinkFault said = said
    by_stop NoStep2 said = said
