-- The live units of a list as they are seen: U+FFFD stands for a half whose partner is not beside it (own).
use Rattle.std.specs.Prelude.{ℕ, List, [], ◌∷◌, Option, Some, None}
use Rattle.yd_ops.specs.declared.lists.List.{List as DocList}
use Rattle.yd_ops.specs.Operation.{UnitContent, text_unit, Operation}
use Rattle.yd_ops.specs.Pairs.{as_torn}
use Rattle.yd_meaning.specs.Document.{Document}
use Rattle.yd_meaning.specs.Text.{live_units, is_lone}

-- live units behind the one before them, without lone halves
abbrev pub without_lone : Option Operation → List Operation → List Operation
without_lone before [] = []
without_lone before (o ∷ os) = as_torn (is_lone before o os) o ∷ without_lone (Some o) os

-- the live units of a list, without lone halves
abbrev pub seen_units : Document → DocList → List Operation
seen_units document list = without_lone None (live_units document list)

-- a text unit in front of others; what is no text adds none
abbrev pub text_before : UnitContent → List ℕ → List ℕ
text_before (text_unit unit) units = unit ∷ units
text_before _ units = units

-- the text units among units
abbrev pub text_units : List Operation → List ℕ
text_units [] = []
text_units (o ∷ os) = text_before o.content (text_units os)
