-- The table of commands: a row for each, with its name and how the words behind it are read (own).
use Rattle.std.specs.Prelude.{ℕ, ◌^◌, ◌&&◌, List, [], ◌∷◌, Bool, true, false, nat_lt, Option, Some, None, codes, decimal}
use Rattle.std.specs.Str.Parse.{digits_value}
use Rattle.std.specs.Str.{bytes_eq}
use Rattle.yd_asking.specs.Command.{Command, check, convert, cut, edit, generate, merge, pack, serve, show, sync, vector}
use Rattle.yd_asking.specs.declared.format.Format.{Format}
use Rattle.yd_asking.specs.declared.format.Format.TheVariants.{V1, V2}
use Rattle.yd_modes.specs.declared.mode.Mode.{Mode}
use Rattle.yd_modes.specs.declared.mode.Mode.TheVariants.{Text, Delta, Array, Map, Tree}

-- the first where the test holds, and else the second
abbrev pub either : {X : Type 0} → Bool → X → X → X
either true x y = x
either false x y = y

-- words read as a command and the words behind it, if they begin with one
abbrev pub Begun : Type 0
Begun = Option (Command × List (List ℕ))

-- a name, and how the words behind it are read
pub record Row : Type 0 where
  pub name : List ℕ
  pub arguments : List (List ℕ) → Begun

-- the format that a word names
abbrev pub format_in : List ℕ → Option Format
format_in word = either (bytes_eq word (codes "v1")) (Some V1) (either (bytes_eq word (codes "v2")) (Some V2) None)

-- the mode that a word names
abbrev pub mode_in : List ℕ → Option Mode
mode_in word =
    either (bytes_eq word (codes "--text")) (Some Text)
    (either (bytes_eq word (codes "--delta")) (Some Delta)
    (either (bytes_eq word (codes "--array")) (Some Array)
    (either (bytes_eq word (codes "--map")) (Some Map)
    (either (bytes_eq word (codes "--tree")) (Some Tree) None))))

-- the number that is read of a word, where it is below this and the word writes it in decimal digits without a zero in front
abbrev pub number_with : ℕ → List ℕ → ℕ → Option ℕ
number_with end word number = either (nat_lt number end && bytes_eq word (decimal number)) (Some number) None

-- the number below this that a word writes
abbrev pub number_in : ℕ → List ℕ → Option ℕ
number_in end word = number_with end word (digits_value 10 word)

-- ---- rows

-- `show MODE NAME`
abbrev pub show_to : Option Mode → List ℕ → List (List ℕ) → Begun
show_to None root names = None
show_to (Some mode) root names = Some (show mode root, names)

-- the words behind `show`, read so
abbrev pub show_in : List (List ℕ) → Begun
show_in [] = None
show_in (word ∷ []) = None
show_in (word ∷ root ∷ names) = show_to (mode_in word) root names

-- `convert FORM`
abbrev pub convert_to : Option Format → List (List ℕ) → Begun
convert_to None names = None
convert_to (Some form) names = Some (convert form, names)

-- the words behind `convert`, read so
abbrev pub convert_in : List (List ℕ) → Begun
convert_in [] = None
convert_in (form ∷ names) = convert_to (format_in form) names

-- `pack`
abbrev pub pack_in : List (List ℕ) → Begun
pack_in names = Some (pack, names)

-- `merge FORM`
abbrev pub merge_to : Option Format → List (List ℕ) → Begun
merge_to None names = None
merge_to (Some form) names = Some (merge form, names)

-- the words behind `merge`, read so
abbrev pub merge_in : List (List ℕ) → Begun
merge_in [] = None
merge_in (form ∷ names) = merge_to (format_in form) names

-- `vector`
abbrev pub vector_in : List (List ℕ) → Begun
vector_in names = Some (vector, names)

-- `cut VECTORFILE`
abbrev pub cut_in : List (List ℕ) → Begun
cut_in [] = None
cut_in (name ∷ names) = Some (cut name, names)

-- `edit CLIENT SCRIPT`
abbrev pub edit_by : Option ℕ → List ℕ → List (List ℕ) → Begun
edit_by None name names = None
edit_by (Some client) name names = Some (edit (record { 0 = client }) name, names)

-- the words behind `edit`, read so
abbrev pub edit_in : List (List ℕ) → Begun
edit_in [] = None
edit_in (word ∷ []) = None
edit_in (word ∷ name ∷ names) = edit_by (number_in (2 ^ 53) word) name names

-- `check`
abbrev pub check_in : List (List ℕ) → Begun
check_in names = Some (check, names)

-- `serve ADDRESS TURNS`
abbrev pub serve_for : Option ℕ → List ℕ → List (List ℕ) → Begun
serve_for None address names = None
serve_for (Some turns) address names = Some (serve address turns, names)

-- the words behind `serve`, read so
abbrev pub serve_in : List (List ℕ) → Begun
serve_in [] = None
serve_in (address ∷ []) = None
serve_in (address ∷ word ∷ names) = serve_for (number_in (2 ^ 32) word) address names

-- `sync ADDRESS TURNS`
abbrev pub sync_for : Option ℕ → List ℕ → List (List ℕ) → Begun
sync_for None address names = None
sync_for (Some turns) address names = Some (sync address turns, names)

-- the words behind `sync`, read so
abbrev pub sync_in : List (List ℕ) → Begun
sync_in [] = None
sync_in (address ∷ []) = None
sync_in (address ∷ word ∷ names) = sync_for (number_in (2 ^ 32) word) address names

-- `generate N`
abbrev pub generate_for : Option ℕ → List (List ℕ) → Begun
generate_for None names = None
generate_for (Some steps) names = Some (generate steps, names)

-- the words behind `generate`, read so
abbrev pub generate_in : List (List ℕ) → Begun
generate_in [] = None
generate_in (word ∷ names) = generate_for (number_in 1000001 word) names

-- ---- the table

-- each command that runs, with what reads the words behind its name
abbrev pub table : List Row
table =
    record { name = codes "show"; arguments = show_in }
    ∷ record { name = codes "convert"; arguments = convert_in }
    ∷ record { name = codes "pack"; arguments = pack_in }
    ∷ record { name = codes "merge"; arguments = merge_in }
    ∷ record { name = codes "vector"; arguments = vector_in }
    ∷ record { name = codes "cut"; arguments = cut_in }
    ∷ record { name = codes "edit"; arguments = edit_in }
    ∷ record { name = codes "check"; arguments = check_in }
    ∷ record { name = codes "serve"; arguments = serve_in }
    ∷ record { name = codes "sync"; arguments = sync_in }
    ∷ record { name = codes "generate"; arguments = generate_in }
    ∷ []

-- the row of the name reads the words behind it
abbrev pub row_in : List Row → List ℕ → List (List ℕ) → Begun
row_in [] name words = None
row_in (row ∷ rows) name words = either (bytes_eq name row.name) (row.arguments words) (row_in rows name words)

-- the command that the words begin with, and the words behind it
abbrev pub command_in : List (List ℕ) → Begun
command_in [] = None
command_in (name ∷ words) = row_in table name words
