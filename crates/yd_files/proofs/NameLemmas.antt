-- Words and the files that they name.
use Rattle.std.proofs.Common.{◌≡◌, ◌≢◌, ◌⊎◌, ◌∙◌, ◌<◌, ◌≤◌, ℕ, List, [], ◌∷◌, ◌++◌, Bool, true, false, length, map, get_or, take, drop, inl, inr, refl, sym, ap, arith, take-append-drop}
use Rattle.std.proofs.lemmas.Bool.{cases_lt}
use Rattle.std.proofs.lemmas.List.{drop_at, take_at}
use Rattle.std.proofs.lemmas.Slice.Eq.{bytes_eq-Decides}
use Rattle.std.specs.Str.{bytes_eq}
use Rattle.yd_words.specs.Each.{Each}
use Rattle.yd_files.specs.Files.{File, HasPrefix, IsNamed, file_word, prefix_of}
use Rattle.yd_files.specs.declared.kind.Kind.{Kind}
use Rattle.yd_files.specs.declared.kind.Kind.TheVariants.{V1, V2, Log, Vector, Script}

-- ---- a word names one file

-- words whose second bytes are apart are not one
second_apart : (word other : List ℕ) → word ≡ other → get_or word 1 0 ≢ get_or other 1 0 → ⊥
second_apart word other e apart = apart (ap (λ (w : List ℕ). get_or w 1 0) e)

-- its kind and its name
pub word_same : (kind other : Kind) (name named : List ℕ) → HasPrefix kind → HasPrefix other → prefix_of kind ++ name ≡ prefix_of other ++ named → (kind ≡ other) × (name ≡ named)
word_same V1 V1 name named has had e = (refl, cc)
word_same V1 V2 name named has had e = absurd (second_apart (prefix_of V1 ++ name) (prefix_of V2 ++ named) e (omega arith))
word_same V1 Log name named has had e = absurd (second_apart (prefix_of V1 ++ name) (prefix_of Log ++ named) e (omega arith))
word_same V1 Vector name named has had e = absurd had
word_same V1 Script name named has had e = absurd had
word_same V2 V1 name named has had e = absurd (second_apart (prefix_of V2 ++ name) (prefix_of V1 ++ named) e (omega arith))
word_same V2 V2 name named has had e = (refl, cc)
word_same V2 Log name named has had e = absurd (second_apart (prefix_of V2 ++ name) (prefix_of Log ++ named) e (omega arith))
word_same V2 Vector name named has had e = absurd had
word_same V2 Script name named has had e = absurd had
word_same Log V1 name named has had e = absurd (second_apart (prefix_of Log ++ name) (prefix_of V1 ++ named) e (omega arith))
word_same Log V2 name named has had e = absurd (second_apart (prefix_of Log ++ name) (prefix_of V2 ++ named) e (omega arith))
word_same Log Log name named has had e = (refl, cc)
word_same Log Vector name named has had e = absurd had
word_same Log Script name named has had e = absurd had
word_same Vector other name named has had e = absurd has
word_same Script other name named has had e = absurd has

abbrev file_in : Kind → List ℕ → File
file_in kind name = record { kind = kind; name = name }

file_same : (file other : File) → IsNamed file → IsNamed other → file_word file ≡ file_word other → file ≡ other
file_same file other named also e =
    let same = word_same file.kind other.kind file.name other.name named.0 also.0 e in
    ap (λ (k : Kind). file_in k file.name) same.0 ∙ ap (file_in other.kind) same.1

-- words name one list of files
pub files_same : (files others : List File) → Each IsNamed files → Each IsNamed others → map file_word files ≡ map file_word others → files ≡ others
files_same [] [] named also e = refl
files_same [] (other ∷ others) named also e = absurd cc
files_same (file ∷ files) [] named also e = absurd cc
files_same (file ∷ files) (other ∷ others) named also e =
    let first : file_word file ≡ file_word other = cc in
    let rest : map file_word files ≡ map file_word others = cc in
    let same : file ≡ other = file_same file other named.0 also.0 first in
    let more : files ≡ others = files_same files others named.1 also.1 rest in cc

-- a word with no name behind the prefix names no file
pub nameless : (word : List ℕ) (kind : Kind) (name : List ℕ) → HasPrefix kind → word ≡ prefix_of kind ++ name → length name ≤ 0 → (file : File) → IsNamed file → word ≢ file_word file
nameless word kind name has is none file named e =
    let same : name ≡ file.name = (word_same kind file.kind name file.name has named.0 (sym is ∙ e)).1 in
    let len : length name ≡ length file.name = ap length same in
    let some : 0 < length file.name = named.1 in
    omega (arith, none, some, len)

-- ---- a word names a file, or none

-- two words are the same or not
pub same_or_not : (word other : List ℕ) → (word ≡ other) ⊎ (word ≢ other)
same_or_not word other = by_test (bytes_eq word other) refl
  where
    by_test : (test : Bool) → bytes_eq word other ≡ test → (word ≡ other) ⊎ (word ≢ other)
    by_test true is = inl ((bytes_eq-Decides word other).0 is)
    by_test false is = inr (λ same. let other_test = (bytes_eq-Decides word other).1 same in cc)

-- the word is the prefix and a name, or it is not
abbrev IsOfPrefix : List ℕ → List ℕ → Type 0
IsOfPrefix prefix word = (name : List ℕ) × (0 < length name) × (word ≡ prefix ++ name)

of_prefix : (prefix word : List ℕ) → IsOfPrefix prefix word ⊎ (¬ (IsOfPrefix prefix word))
of_prefix prefix word = by_front (same_or_not (take (length prefix) word) prefix)
  where
    rest : List ℕ
    rest = drop (length prefix) word

    by_rest : (0 < length rest) ⊎ (length rest ≤ 0) → word ≡ prefix ++ rest → IsOfPrefix prefix word ⊎ (¬ (IsOfPrefix prefix word))
    by_rest (inl some) is = inl (rest, some, is)
    by_rest (inr none) is = inr (λ of.
        let there : rest ≡ of.0 = ap (drop (length prefix)) of.2 ∙ drop_at prefix of.0 (length prefix) refl in
        let len : length rest ≡ length of.0 = ap length there in
        omega (arith, none, of.1, len))

    by_front : (take (length prefix) word ≡ prefix) ⊎ (take (length prefix) word ≢ prefix) → IsOfPrefix prefix word ⊎ (¬ (IsOfPrefix prefix word))
    by_front (inl same) = by_rest (cases_lt 0 (length rest)) (sym (take-append-drop (length prefix) word) ∙ ap (λ (first : List ℕ). first ++ rest) same)
    by_front (inr other) = inr (λ of. other (ap (take (length prefix)) of.2 ∙ take_at prefix of.0 (length prefix) refl))

-- the word names a file, or none
abbrev Names : List ℕ → Type 0
Names word = (file : File) × IsNamed file × (word ≡ file_word file)

-- it names one of a kind
of_kind : (kind : Kind) (word : List ℕ) → HasPrefix kind → IsOfPrefix (prefix_of kind) word → Names word
of_kind kind word has of = (record { kind = kind; name = of.0 }, (has, of.1), of.2)

names_or_not : (word : List ℕ) → Names word ⊎ (¬ (Names word))
names_or_not word = by_kinds (of_prefix (prefix_of V1) word) (of_prefix (prefix_of V2) word) (of_prefix (prefix_of Log) word)
  where
    none : ¬ (IsOfPrefix (prefix_of V1) word) → ¬ (IsOfPrefix (prefix_of V2) word) → ¬ (IsOfPrefix (prefix_of Log) word) → (kind : Kind) → HasPrefix kind → ¬ (IsOfPrefix (prefix_of kind) word)
    none first second third V1 has = first
    none first second third V2 has = second
    none first second third Log has = third
    none first second third Vector has = absurd has
    none first second third Script has = absurd has

    by_kinds : IsOfPrefix (prefix_of V1) word ⊎ (¬ (IsOfPrefix (prefix_of V1) word)) → IsOfPrefix (prefix_of V2) word ⊎ (¬ (IsOfPrefix (prefix_of V2) word)) → IsOfPrefix (prefix_of Log) word ⊎ (¬ (IsOfPrefix (prefix_of Log) word))
        → Names word ⊎ (¬ (Names word))
    by_kinds (inl a) second third = inl (of_kind V1 word tt a)
    by_kinds (inr first) (inl b) third = inl (of_kind V2 word tt b)
    by_kinds (inr first) (inr second) (inl c) = inl (of_kind Log word tt c)
    by_kinds (inr first) (inr second) (inr third) = inr (λ names. none first second third names.0.kind names.1.0 (names.0.name, names.1.1, names.2))

-- ---- lemmas for callers

-- the words name the files
abbrev pub NameAll : List (List ℕ) → List File → Type 0
NameAll words files = Each IsNamed files × (words ≡ map file_word files)

-- words name files, or they do not
pub files_or_not : (words : List (List ℕ)) → ((files : List File) × NameAll words files) ⊎ ((files : List File) → ¬ (NameAll words files))
files_or_not [] = inl ([], (tt, refl))
files_or_not (word ∷ words) = by_first (names_or_not word) (files_or_not words)
  where
    no_first : ¬ (Names word) → (files : List File) → ¬ (NameAll (word ∷ words) files)
    no_first never [] all = absurd (let is = all.1 in cc)
    no_first never (file ∷ files) all = let is = all.1 in let same : word ≡ file_word file = cc in never (file, all.0.0, same)

    no_rest : ((files : List File) → ¬ (NameAll words files)) → (files : List File) → ¬ (NameAll (word ∷ words) files)
    no_rest never [] all = absurd (let is = all.1 in cc)
    no_rest never (file ∷ files) all = let is = all.1 in let same : words ≡ map file_word files = cc in never files (all.0.1, same)

    by_first : Names word ⊎ (¬ (Names word)) → ((files : List File) × NameAll words files) ⊎ ((files : List File) → ¬ (NameAll words files))
        → ((files : List File) × NameAll (word ∷ words) files) ⊎ ((files : List File) → ¬ (NameAll (word ∷ words) files))
    by_first (inl a) (inl b) = inl (a.0 ∷ b.0, ((a.1, b.1.0), let first = a.2 in let rest = b.1.1 in cc))
    by_first (inr never) rest = inr (no_first never)
    by_first (inl a) (inr never) = inr (no_rest never)
