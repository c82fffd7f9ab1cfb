-- Files, as the words name them: a kind, and the name of the bytes (own).
use Rattle.std.specs.Prelude.{ℕ, ◌<◌, List, [], ◌∷◌, ◌++◌, length, codes}
use Rattle.yd_files.specs.declared.kind.Kind.{Kind}
use Rattle.yd_files.specs.declared.kind.Kind.TheVariants.{V1, V2, Log, Vector, Script}

-- what stands before the name of a file of the kind; the name of a state vector or of a script stands alone
abbrev pub prefix_of : Kind → List ℕ
prefix_of V1 = codes "v1:"
prefix_of V2 = codes "v2:"
prefix_of Log = codes "log:"
prefix_of Vector = []
prefix_of Script = []

-- a word tells by its prefix that its file is of the kind
abbrev pub HasPrefix : Kind → Type 0
HasPrefix V1 = Unit {0}
HasPrefix V2 = Unit {0}
HasPrefix Log = Unit {0}
HasPrefix Vector = ⊥
HasPrefix Script = ⊥

-- a file: how its bytes are spelled, and their name
pub record File : Type 0 where
  pub kind : Kind
  pub name : List ℕ

-- the word that names the file
abbrev pub file_word : File → List ℕ
file_word file = prefix_of file.kind ++ file.name

-- a word of its own names the file: by a prefix, and a name that is not empty
abbrev pub IsNamed : File → Type 0
IsNamed file = HasPrefix file.kind × (0 < length file.name)

-- a file of the kind stands for one update
abbrev pub IsOneUpdate : Kind → Type 0
IsOneUpdate V1 = Unit {0}
IsOneUpdate V2 = Unit {0}
IsOneUpdate Log = ⊥
IsOneUpdate Vector = ⊥
IsOneUpdate Script = ⊥

-- they are one file, which stands for one update
abbrev pub AreOneUpdate : List File → Type 0
AreOneUpdate [] = ⊥
AreOneUpdate (file ∷ []) = IsOneUpdate file.kind
AreOneUpdate (file ∷ other ∷ files) = ⊥
