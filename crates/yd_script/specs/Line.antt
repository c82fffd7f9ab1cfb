-- What a line of a script asks for, without where its texts lie in memory (own).
use Rattle.std.specs.Prelude.{ℕ, ℤ, List, IsTrue}
use Rattle.yd_any.specs.Tree.{AnyTree, AnyTrees}
use Rattle.yd_any.specs.AnyView.{any_tree, any_trees}
use Rattle.yd_any.specs.JsonView.{json_tree}
use Rattle.yd_any.specs.Valid.{is_valid_any, is_valid_json}
use Rattle.yd_ops.specs.declared.kinds.Kind.{Kind}
use Rattle.yd_ops.specs.Valid.{AreValidTrees}
use Rattle.yd_script.specs.declared.line.Change.{Change as ChangeSeen}
use Rattle.yd_script.specs.declared.line.Change.TheVariants.{Insert, Embed, Delete, Format, Push, Child, Set, SetType, Unset}
use Rattle.yd_script.specs.declared.line.Line.{Line as LineSeen}
use Rattle.yd_script.specs.declared.line.Line.TheVariants.{Change as Changes, Mark, InsertAt, Undo, Redo}
use Rattle.yd_script.specs.declared.target.Target.{Target as TargetSeen}
use Rattle.yd_script.specs.declared.target.TargetStep.{TargetStep}

-- ---- targets

-- a root's name, and the steps that lead on from it
pub record Target : Type 0 where
  pub root : List ℕ
  pub steps : List TargetStep

-- the target that the code has
abbrev pub target_of : TargetSeen → Target
target_of target = record { root = target.root; steps = target.steps.items }

-- ---- changes

-- text, a value, values or a type come in at an index; so many units from an index on go, or get a value under a key; a value or a
-- type is set under a key, or nothing
pub data Change : Type 0 where
  insert : ℕ → List ℕ → Change
  embed : ℕ → AnyTree → Change
  delete : ℕ → ℕ → Change
  format : ℕ → ℕ → List ℕ → AnyTree → Change
  push : ℕ → AnyTrees → Change
  child : ℕ → Kind → Change
  set : List ℕ → AnyTree → Change
  settype : List ℕ → Kind → Change
  unset : List ℕ → Change

-- the change that the code has
abbrev pub change_of : ChangeSeen → Change
change_of (Insert index text) = insert index text
change_of (Embed index value) = embed index (json_tree value)
change_of (Delete index len) = delete index len
change_of (Format index len key value) = format index len key (json_tree value)
change_of (Push index values) = push index (any_trees values)
change_of (Child index kind) = child index kind
change_of (Set key value) = set key (any_tree value)
change_of (SetType key kind) = settype key kind
change_of (Unset key) = unset key

-- its values are ones that an update carries there
abbrev pub IsValidChange : Change → Type 0
IsValidChange (insert index text) = Unit {0}
IsValidChange (embed index value) = IsTrue (is_valid_json value)
IsValidChange (delete index len) = Unit {0}
IsValidChange (format index len key value) = IsTrue (is_valid_json value)
IsValidChange (push index values) = AreValidTrees values
IsValidChange (child index kind) = Unit {0}
IsValidChange (set key value) = IsTrue (is_valid_any value)
IsValidChange (settype key kind) = Unit {0}
IsValidChange (unset key) = Unit {0}

-- ---- lines

-- a change is made at a target; the place at an index of a target is kept under a name; a text comes in at the place of a name; the
-- newest entry is undone, or the newest undo
pub data Line : Type 0 where
  changes : Target → Change → Line
  mark : List ℕ → Target → ℕ → ℤ → Line
  insert_at : List ℕ → List ℕ → Line
  undo : Line
  redo : Line

-- the line that the code has
abbrev pub line_of : LineSeen → Line
line_of (Changes target change) = changes (target_of target) (change_of change)
line_of (Mark name place) = mark name (target_of place.target) place.index place.assoc
line_of (InsertAt name text) = insert_at name text
line_of Undo = undo
line_of Redo = redo

-- its change has values that an update carries
abbrev pub IsValidLine : Line → Type 0
IsValidLine (changes target change) = IsValidChange change
IsValidLine (mark name target index assoc) = Unit {0}
IsValidLine (insert_at name text) = Unit {0}
IsValidLine undo = Unit {0}
IsValidLine redo = Unit {0}
