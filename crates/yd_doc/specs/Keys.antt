-- The keys of a parent, by the names of the lists that have units (own).
use Rattle.std.specs.Prelude.{ℕ, Bool, true, false, ◌&&◌, List, [], ◌∷◌, if◌then◌else◌}
use Rattle.yd_ops.specs.declared.lists.List.{List as DocList}
use Rattle.yd_ops.specs.declared.lists.Parent.{Parent}
use Rattle.yd_meaning.specs.Names.{same_parent}
use Rattle.yd_meaning.specs.Document.{Document, with_key_of}

-- whether there are any
abbrev pub has_some : {X : Type 0} → List X → Bool
has_some [] = false
has_some (x ∷ xs) = true

-- whether a list is one of the parent's, and has a unit
abbrev pub is_used : Document → Parent → DocList → Bool
is_used document parent name = same_parent name.parent parent && has_some (document.units name)

-- the keys, with the one of a list, where it is one of the parent's and has a unit
abbrev pub with_name : Document → Parent → DocList → List (List ℕ) → List (List ℕ)
with_name document parent name keys = if is_used document parent name then with_key_of name.key keys else keys

-- the keys, with those of lists, from the last one on
abbrev pub with_names : Document → Parent → List DocList → List (List ℕ) → List (List ℕ)
with_names document parent [] keys = keys
with_names document parent (name ∷ names) keys = with_name document parent name (with_names document parent names keys)
