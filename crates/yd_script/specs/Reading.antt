-- Which line a text is: a JSON array of a word and what goes with it, for a change a target first (own; JSON as `serde_json` reads it).
use Rattle.std.specs.Prelude.{ℕ, ℤ, List, [], ◌∷◌, if◌then◌else◌, Option, Some, None, option_and_then, codes}
use Rattle.std.specs.Str.{bytes_eq}
use Rattle.serde_json.specs.Data.{Data}
use Rattle.serde_json.specs.Find.{as_array, as_str}
use Rattle.serde_json.specs.Read.{read as read_text}
use Rattle.yd_any.specs.Tree.{AnyTree, AnyTrees}
use Rattle.yd_ops.specs.declared.kinds.Kind.{Kind}
use Rattle.yd_script.specs.Given.{elements_of, number_in, assoc_in, value_in, values_in, kind_in, target_in}
use Rattle.yd_script.specs.Line.{Target, Change, insert, embed, delete, format, push, child, set, settype, unset, Line, changes, mark, insert_at, undo, redo}

-- ---- what goes with each word

-- an insertion of what stands behind its target
abbrev pub insert_of : Option ℕ → Option (List ℕ) → Option Change
insert_of (Some index) (Some text) = Some (insert index text)
insert_of _ _ = None

-- `INDEX, TEXT`
abbrev pub insert_in : List Data → Option Change
insert_in (index ∷ text ∷ []) = insert_of (number_in index) (as_str text)
insert_in _ = None

-- an embed
abbrev pub embed_of : Option ℕ → Option AnyTree → Option Change
embed_of (Some index) (Some value) = Some (embed index value)
embed_of _ _ = None

-- `INDEX, VALUE`
abbrev pub embed_in : List Data → Option Change
embed_in (index ∷ value ∷ []) = embed_of (number_in index) (value_in value)
embed_in _ = None

-- a deletion
abbrev pub delete_of : Option ℕ → Option ℕ → Option Change
delete_of (Some index) (Some len) = Some (delete index len)
delete_of _ _ = None

-- `INDEX, LEN`
abbrev pub delete_in : List Data → Option Change
delete_in (index ∷ len ∷ []) = delete_of (number_in index) (number_in len)
delete_in _ = None

-- a format
abbrev pub format_of : Option ℕ → Option ℕ → Option (List ℕ) → Option AnyTree → Option Change
format_of (Some index) (Some len) (Some key) (Some value) = Some (format index len key value)
format_of _ _ _ _ = None

-- `INDEX, LEN, KEY, VALUE`
abbrev pub format_in : List Data → Option Change
format_in (index ∷ len ∷ key ∷ value ∷ []) = format_of (number_in index) (number_in len) (as_str key) (value_in value)
format_in _ = None

-- values for a list
abbrev pub push_of : Option ℕ → Option AnyTrees → Option Change
push_of (Some index) (Some values) = Some (push index values)
push_of _ _ = None

-- `INDEX, [VALUE,..]`
abbrev pub push_in : List Data → Option Change
push_in (index ∷ values ∷ []) = push_of (number_in index) (values_in values)
push_in _ = None

-- a type for a list
abbrev pub child_of : Option ℕ → Option Kind → Option Change
child_of (Some index) (Some kind) = Some (child index kind)
child_of _ _ = None

-- `INDEX, KIND`
abbrev pub child_in : List Data → Option Change
child_in (index ∷ kind ∷ []) = child_of (number_in index) (kind_in kind)
child_in _ = None

-- a value for a key
abbrev pub set_of : Option (List ℕ) → Option AnyTree → Option Change
set_of (Some key) (Some value) = Some (set key value)
set_of _ _ = None

-- `KEY, VALUE`
abbrev pub set_in : List Data → Option Change
set_in (key ∷ value ∷ []) = set_of (as_str key) (value_in value)
set_in _ = None

-- a type for a key
abbrev pub settype_of : Option (List ℕ) → Option Kind → Option Change
settype_of (Some key) (Some kind) = Some (settype key kind)
settype_of _ _ = None

-- `KEY, KIND`
abbrev pub settype_in : List Data → Option Change
settype_in (key ∷ kind ∷ []) = settype_of (as_str key) (kind_in kind)
settype_in _ = None

-- a key that gives up its value
abbrev pub unset_of : Option (List ℕ) → Option Change
unset_of (Some key) = Some (unset key)
unset_of None = None

-- `KEY`
abbrev pub unset_in : List Data → Option Change
unset_in (key ∷ []) = unset_of (as_str key)
unset_in _ = None

-- ---- changes

-- a change of a text, by its word and what goes with it
abbrev pub text_change_in : List ℕ → List Data → Option Change
text_change_in word rest =
    if bytes_eq word (codes "insert") then insert_in rest
    else (if bytes_eq word (codes "embed") then embed_in rest
    else (if bytes_eq word (codes "delete") then delete_in rest
    else (if bytes_eq word (codes "format") then format_in rest else None)))

-- a change of any parent
abbrev pub change_in : List ℕ → List Data → Option Change
change_in word rest =
    if bytes_eq word (codes "push") then push_in rest
    else (if bytes_eq word (codes "child") then child_in rest
    else (if bytes_eq word (codes "set") then set_in rest
    else (if bytes_eq word (codes "settype") then settype_in rest
    else (if bytes_eq word (codes "unset") then unset_in rest else text_change_in word rest))))

-- a change with its target, where both are there
abbrev pub changes_of : Option Change → Option Target → Option Line
changes_of (Some change) (Some target) = Some (changes target change)
changes_of _ _ = None

-- `TARGET,..`, with the word of a change
abbrev pub changes_in : List ℕ → List Data → Option Line
changes_in word (target ∷ rest) = changes_of (change_in word rest) (target_in target)
changes_in word [] = None

-- ---- places that are kept

-- a mark
abbrev pub mark_of : Option (List ℕ) → Option Target → Option ℕ → Option ℤ → Option Line
mark_of (Some name) (Some target) (Some index) (Some assoc) = Some (mark name target index assoc)
mark_of _ _ _ _ = None

-- `NAME, TARGET, INDEX, ASSOC`
abbrev pub mark_in : List Data → Option Line
mark_in (name ∷ target ∷ index ∷ assoc ∷ []) = mark_of (as_str name) (target_in target) (number_in index) (assoc_in assoc)
mark_in _ = None

-- an insertion at a mark
abbrev pub insert_at_of : Option (List ℕ) → Option (List ℕ) → Option Line
insert_at_of (Some name) (Some text) = Some (insert_at name text)
insert_at_of _ _ = None

-- `NAME, TEXT`
abbrev pub insert_at_in : List Data → Option Line
insert_at_in (name ∷ text ∷ []) = insert_at_of (as_str name) (as_str text)
insert_at_in _ = None

-- ---- the line

-- a word that stands alone
abbrev pub alone : Line → List Data → Option Line
alone line [] = Some line
alone line _ = None

-- a line by its word, and what goes with it
abbrev pub line_of_word : List ℕ → List Data → Option Line
line_of_word word rest =
    if bytes_eq word (codes "mark") then mark_in rest
    else (if bytes_eq word (codes "insertat") then insert_at_in rest
    else (if bytes_eq word (codes "undo") then alone undo rest
    else (if bytes_eq word (codes "redo") then alone redo rest else changes_in word rest)))

-- the word stands first
abbrev pub line_in_list : List Data → Option Line
line_in_list (word ∷ rest) = option_and_then (λ w. line_of_word w rest) (as_str word)
line_in_list [] = None

-- the line that a JSON value is
abbrev pub line_in_data : Data → Option Line
line_in_data d = option_and_then (λ items. line_in_list (elements_of items)) (as_array d)

-- the line that a text is
abbrev pub line_in : List ℕ → Option Line
line_in text = option_and_then line_in_data (read_text text)
