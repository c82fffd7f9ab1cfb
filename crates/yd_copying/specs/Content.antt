-- What is made again of units: one content that holds what they held (own).
use Rattle.std.specs.Prelude.{ℕ, Bool, true, false, ◌&&◌, ◌||◌, List, [], ◌∷◌, Option, if◌then◌else◌}
use Rattle.yd_any.specs.Tree.{AnyTree, AnyTrees, no_trees, tree}
use Rattle.yd_ops.specs.Operation.{UnitContent, text_unit, any_unit, json_unit, bytes, embedded, mark, nested_type, deleted_unit, gone_unit}
use Rattle.yd_ops.specs.Value.{ContentValue, json, binary, string, embed, format, nested, any, deleted}
use Rattle.yd_ops.specs.Pairs.{is_high, is_low}

-- ---- units

-- whether a unit can be made again: a type cannot, nor one of which nothing is told
abbrev pub can_be_made : UnitContent → Bool
can_be_made (text_unit unit) = true
can_be_made (any_unit value) = true
can_be_made (json_unit value) = true
can_be_made (bytes blob) = true
can_be_made (embedded value) = true
can_be_made (mark key value) = true
can_be_made (nested_type kind) = false
can_be_made deleted_unit = false
can_be_made gone_unit = false

-- the kind of a unit, among those of which one run may have several; 0 for one that is a run alone
abbrev pub kind_of : UnitContent → ℕ
kind_of (text_unit unit) = 1
kind_of (any_unit value) = 2
kind_of (json_unit value) = 3
kind_of (bytes blob) = 0
kind_of (embedded value) = 0
kind_of (mark key value) = 0
kind_of (nested_type kind) = 0
kind_of deleted_unit = 0
kind_of gone_unit = 0

-- ---- texts

-- a unit that stands alone: half of a pair becomes U+FFFD
abbrev pub alone : ℕ → ℕ
alone unit = if is_high unit || is_low unit then 0xFFFD else unit

-- units of which each half that has no partner beside it becomes U+FFFD
abbrev pub whole_units : List ℕ → List ℕ
whole_units [] = []
whole_units (u ∷ []) = alone u ∷ []
whole_units (u ∷ v ∷ us) = if is_high u && is_low v then u ∷ v ∷ whole_units us else alone u ∷ whole_units (v ∷ us)

-- ---- contents

-- the text units among units
abbrev pub texts_in : List UnitContent → List ℕ
texts_in [] = []
texts_in (text_unit unit ∷ us) = unit ∷ texts_in us
texts_in (u ∷ us) = texts_in us

-- the any-values among them
abbrev pub trees_in : List UnitContent → AnyTrees
trees_in [] = no_trees
trees_in (any_unit value ∷ us) = tree value (trees_in us)
trees_in (u ∷ us) = trees_in us

-- the JSON units among them
abbrev pub values_in : List UnitContent → List (Option AnyTree)
values_in [] = []
values_in (json_unit value ∷ us) = value ∷ values_in us
values_in (u ∷ us) = values_in us

-- the content of units of one kind, which is that of the first; what cannot be made is never asked
abbrev pub content_of : List UnitContent → ContentValue
content_of [] = deleted 0
content_of (text_unit unit ∷ us) = string (whole_units (unit ∷ texts_in us))
content_of (any_unit value ∷ us) = any (tree value (trees_in us))
content_of (json_unit value ∷ us) = json (value ∷ values_in us)
content_of (bytes blob ∷ us) = binary blob
content_of (embedded value ∷ us) = embed value
content_of (mark key value ∷ us) = format key value
content_of (nested_type kind ∷ us) = nested kind
content_of (deleted_unit ∷ us) = deleted 1
content_of (gone_unit ∷ us) = deleted 1
