-- Words, and the one command that they ask for, if they are of a form.
use Rattle.std.proofs.Common.{◌≡◌, ◌⊎◌, ◌∙◌, ℕ, List, [], ◌∷◌, ◌++◌, map, Some, None, inl, inr, refl, sym, ap, subst, arith}
use Rattle.yd_words.specs.Each.{Each}
use Rattle.yd_files.proofs.NameLemmas.{NameAll, files_or_not, files_same}
use Rattle.yd_files.specs.Files.{AreOneUpdate, File, IsNamed, file_word}
use Rattle.yd_files.specs.declared.kind.Kind.{Kind}
use Rattle.yd_files.specs.declared.kind.Kind.TheVariants as kinds
use Rattle.yd_asking.proofs.TableLemmas.{command_found, command_read, range_found, read_one}
use Rattle.yd_asking.specs.Asking.{NameNoFiles}
use Rattle.yd_asking.specs.Command.{AreWanted, Command, HasRange, own_files, wanted_by, words_of}
use Rattle.yd_asking.specs.Table.{Begun, command_in}
use Rattle.yd_asking.specs.Words.{AreOfNoForm, Asks}
use Rattle.yd_asking.specs.declared.command.Wanted.{Wanted}
use Rattle.yd_asking.specs.declared.command.Wanted.TheVariants.{Several, OneUpdate, Any, NoFile}

-- ---- what they ask for is one

-- words are those of one command and of one rest
pub words_same : (command other : Command) (names others : List (List ℕ)) → HasRange command → HasRange other → words_of command names ≡ words_of other others → (command ≡ other) × (names ≡ others)
words_same command other names others range other_range e =
    read_one command other names others (command_in (words_of command names)) (command_read command names range) (ap command_in e ∙ command_read other others other_range)

-- words ask for one command of one list of files
pub asks_same : (words : List (List ℕ)) (command other : Command) (files others : List File) → Asks words command files → Asks words other others → (command ≡ other) × (files ≡ others)
asks_same words command other files others a b =
    let same = words_same command other (map file_word a.named) (map file_word b.named) a.in_range b.in_range (sym a.words_are ∙ b.words_are) in
    let named : a.named ≡ b.named = files_same a.named b.named a.are_named b.are_named same.1 in
    (same.0, a.files_are ∙ ap (λ (fs : List File). own_files command ++ fs) named ∙ ap (λ (c : Command). own_files c ++ b.named) same.0 ∙ sym b.files_are)

-- ---- words of no form

-- they begin with no command
pub no_command : (words : List (List ℕ)) → command_in words ≡ None → AreOfNoForm words
no_command words none command files asks = let read = sym (ap command_in asks.words_are ∙ command_read command (map file_word asks.named) asks.in_range) ∙ none in absurd cc

-- they name no files
pub no_files : (words : List (List ℕ)) (command : Command) (names : List (List ℕ)) → HasRange command → words ≡ words_of command names → NameNoFiles names → AreOfNoForm words
no_files words command names range is never other files asks = never asks.named asks.are_named (words_same command other names (map file_word asks.named) range asks.in_range (sym is ∙ asks.words_are)).1

-- the files are not those that are wanted
pub unwanted : (words : List (List ℕ)) (command : Command) (files : List File) → HasRange command → words ≡ words_of command (map file_word files) → Each IsNamed files → ¬ (AreWanted (wanted_by command) files) → AreOfNoForm words
unwanted words command files range is named never other others asks =
    let both = words_same command other (map file_word files) (map file_word asks.named) range asks.in_range (sym is ∙ asks.words_are) in
    let one : files ≡ asks.named = files_same files asks.named named asks.are_named both.1 in
    never (subst (λ (c : Command). AreWanted (wanted_by c) files) (sym both.0) (subst (λ (fs : List File). AreWanted (wanted_by other) fs) (sym one) asks.are_wanted))

-- ---- of a form, or of none

-- files are those that are wanted, or not
one_or_not : (kind : Kind) (name : List ℕ) → AreOneUpdate (record { kind = kind; name = name } ∷ []) ⊎ (¬ (AreOneUpdate (record { kind = kind; name = name } ∷ [])))
one_or_not kinds.V1 name = inl tt
one_or_not kinds.V2 name = inl tt
one_or_not kinds.Log name = inr (λ one. one)
one_or_not kinds.Vector name = inr (λ one. one)
one_or_not kinds.Script name = inr (λ one. one)

wanted_or_not : (wanted : Wanted) (files : List File) → AreWanted wanted files ⊎ (¬ (AreWanted wanted files))
wanted_or_not Several [] = inr (λ has. omega (arith, has))
wanted_or_not Several (file ∷ files) = inl (omega arith)
wanted_or_not OneUpdate [] = inr (λ has. has)
wanted_or_not OneUpdate (file ∷ []) = one_or_not file.kind file.name
wanted_or_not OneUpdate (file ∷ other ∷ files) = inr (λ has. has)
wanted_or_not Any files = inl tt
wanted_or_not NoFile [] = inl refl
wanted_or_not NoFile (file ∷ files) = inr (λ none. absurd cc)

-- words ask for a command of files, or are of no form
pub asked_or_not : (words : List (List ℕ)) → ((command : Command) × (files : List File) × Asks words command files) ⊎ AreOfNoForm words
asked_or_not words = by_command (command_in words) refl
  where
    by_wanted : (command : Command) (names : List (List ℕ)) → HasRange command → words ≡ words_of command names → (files : List File) → NameAll names files → AreWanted (wanted_by command) files ⊎ (¬ (AreWanted (wanted_by command) files))
        → ((c : Command) × (fs : List File) × Asks words c fs) ⊎ AreOfNoForm words
    by_wanted command names range is files all (inl wanted) = inl (command, own_files command ++ files, record { named = files; words_are = is ∙ ap (words_of command) all.1; in_range = range; are_wanted = wanted; are_named = all.0; files_are = refl })
    by_wanted command names range is files all (inr never) = inr (unwanted words command files range (is ∙ ap (words_of command) all.1) all.0 never)

    by_names : (command : Command) (names : List (List ℕ)) → HasRange command → words ≡ words_of command names → ((files : List File) × NameAll names files) ⊎ ((files : List File) → ¬ (NameAll names files))
        → ((c : Command) × (fs : List File) × Asks words c fs) ⊎ AreOfNoForm words
    by_names command names range is (inl all) = by_wanted command names range is all.0 all.1 (wanted_or_not (wanted_by command) all.0)
    by_names command names range is (inr never) = inr (no_files words command names range is (λ files named same. never files (named, same)))

    by_command : (found : Begun) → command_in words ≡ found → ((c : Command) × (fs : List File) × Asks words c fs) ⊎ AreOfNoForm words
    by_command None is = inr (no_command words is)
    by_command (Some found) is = by_names found.0 found.1 (range_found words found.0 found.1 is) (command_found words found.0 found.1 is) (files_or_not found.1)
