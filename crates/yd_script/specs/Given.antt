-- What stands in the array of a line: numbers, values, kinds of types, and targets (own; JSON as `serde_json` reads it).
use Rattle.std.specs.Prelude.{◌≡◌, ℕ, ℤ, ◌^◌, ◌-◌, List, [], ◌∷◌, nat_le, unsigned_abs, if◌then◌else◌, Option, Some, None, option_and_then, Result, codes}
use Rattle.std.proofs.Common.{Ok, Err}
use Rattle.std.specs.Str.{bytes_eq}
use Rattle.serde_json.specs.Data.{Data, Items, no_items, item}
use Rattle.serde_json.specs.Find.{as_array, as_i64, as_number, as_str, as_u64}
use Rattle.yd_any.specs.Tree.{AnyTree, AnyTrees, no_trees, tree}
use Rattle.yd_any.specs.DataTree.{data_tree}
use Rattle.yd_any.specs.Outcome.{judged}
use Rattle.yd_any.specs.declared.fault.JsonFault.{JsonFault}
use Rattle.yd_ops.specs.declared.kinds.Kind.{Kind}
use Rattle.yd_ops.specs.declared.kinds.Kind.TheVariants.{Array, Map, Text, Element, Fragment, ElementText}
use Rattle.yd_script.specs.Line.{Target}
use Rattle.yd_script.specs.declared.target.TargetStep.{TargetStep}
use Rattle.yd_script.specs.declared.target.TargetStep.TheVariants.{Index, Key}
use Rattle.yd_script.specs.declared.fault.LineFault.{LineFault}
use Rattle.yd_script.specs.declared.fault.LineFault.TheVariants.{NoMemory, BadLine}

-- what is answered: what is found; that there is nothing, only where nothing is found; or that a growth found no memory
abbrev pub Answers : {X Y : Type 0} → (X → Y) → Option Y → Result X LineFault → Type 0
Answers seen found (Ok x) = found ≡ Some (seen x)
Answers seen found (Err BadLine) = found ≡ None
Answers seen found (Err NoMemory) = Unit {0}

-- the elements of an array
abbrev pub elements_of : Items → List Data
elements_of no_items = []
elements_of (item d ds) = d ∷ elements_of ds

-- ---- numbers and values

-- the greatest index or length
abbrev pub most_units : ℕ
most_units = 2 ^ 53 - 1

-- an index or a length: a whole number of that range
abbrev pub number_in : Data → Option ℕ
number_in d = option_and_then (λ n. if nat_le n most_units then Some n else None) (option_and_then as_u64 (as_number d))

-- an association: a whole number of that size, or one below 0
abbrev pub assoc_in : Data → Option ℤ
assoc_in d = option_and_then (λ z. if nat_le (unsigned_abs z) most_units then Some z else None) (option_and_then as_i64 (as_number d))

-- the tree, where there is one
abbrev pub tree_in : Result AnyTree JsonFault → Option AnyTree
tree_in (Ok t) = Some t
tree_in (Err fault) = None

-- a value that JSON values carry
abbrev pub value_in : Data → Option AnyTree
value_in d = tree_in (judged (data_tree d))

-- a tree in front of others, where all are there
abbrev pub tree_before : Option AnyTree → Option AnyTrees → Option AnyTrees
tree_before (Some t) (Some ts) = Some (tree t ts)
tree_before _ _ = None

-- values that are all such
abbrev pub trees_in : List Data → Option AnyTrees
trees_in [] = Some no_trees
trees_in (d ∷ ds) = tree_before (value_in d) (trees_in ds)

-- `[VALUE,..]`
abbrev pub values_in : Data → Option AnyTrees
values_in d = option_and_then (λ items. trees_in (elements_of items)) (as_array d)

-- ---- kinds of types

-- a kind that has no name of its own
abbrev pub kind_of_word : List ℕ → Option Kind
kind_of_word word =
    if bytes_eq word (codes "array") then Some Array
    else (if bytes_eq word (codes "map") then Some Map
    else (if bytes_eq word (codes "text") then Some Text
    else (if bytes_eq word (codes "fragment") then Some Fragment
    else (if bytes_eq word (codes "elementtext") then Some ElementText else None))))

-- an element with a name
abbrev pub element_named : Option (List ℕ) → Option (List ℕ) → Option Kind
element_named (Some word) (Some name) = if bytes_eq word (codes "element") then Some (Element name) else None
element_named _ _ = None

-- `["element",NAME]`
abbrev pub element_in : List Data → Option Kind
element_in (word ∷ name ∷ []) = element_named (as_str word) (as_str name)
element_in _ = None

-- a word, where there is one, and else an array
abbrev pub kind_of : Option (List ℕ) → Option Items → Option Kind
kind_of (Some word) items = kind_of_word word
kind_of None None = None
kind_of None (Some items) = element_in (elements_of items)

-- KIND
abbrev pub kind_in : Data → Option Kind
kind_in d = kind_of (as_str d) (as_array d)

-- ---- targets

-- a key, where there is one, and else an index
abbrev pub step_of : Option (List ℕ) → Option ℕ → Option TargetStep
step_of (Some key) index = Some (Key key)
step_of None (Some index) = Some (Index index)
step_of None None = None

-- a number or a text
abbrev pub step_in : Data → Option TargetStep
step_in d = step_of (as_str d) (number_in d)

-- a step in front of others, where all are there
abbrev pub step_before : Option TargetStep → Option (List TargetStep) → Option (List TargetStep)
step_before (Some step) (Some steps) = Some (step ∷ steps)
step_before _ _ = None

-- steps that are all such
abbrev pub steps_in : List Data → Option (List TargetStep)
steps_in [] = Some []
steps_in (d ∷ ds) = step_before (step_in d) (steps_in ds)

-- a root with steps, where both are there
abbrev pub path_of : Option (List ℕ) → Option (List TargetStep) → Option Target
path_of (Some root) (Some steps) = Some (record { root = root; steps = steps })
path_of _ _ = None

-- `[ROOT,STEP,..]`
abbrev pub path_in : List Data → Option Target
path_in [] = None
path_in (root ∷ steps) = path_of (as_str root) (steps_in steps)

-- a root alone, where there is one, and else an array
abbrev pub target_from : Option (List ℕ) → Option Items → Option Target
target_from (Some root) items = Some (record { root = root; steps = [] })
target_from None None = None
target_from None (Some items) = path_in (elements_of items)

-- TARGET
abbrev pub target_in : Data → Option Target
target_in d = target_from (as_str d) (as_array d)
