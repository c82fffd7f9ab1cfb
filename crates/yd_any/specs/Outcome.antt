-- What making a JSON value comes to, with its faults in the order in which they are judged.
use Rattle.std.specs.Prelude.{◌≡◌, ℕ, List, if◌then◌else◌, nat_le, Option, Some, None, Result, MatchResult}
use Rattle.std.proofs.Common.{Ok, Err}
use Rattle.serde_json.specs.Data.{Data}
use Rattle.serde_json.specs.Read.{read as read_text}
use Rattle.yd_any.specs.Tree.{AnyTree, depth}
use Rattle.yd_any.specs.Valid.{most_depth}
use Rattle.yd_any.specs.Carried.{is_carried, settled}
use Rattle.yd_any.specs.DataTree.{data_tree}
use Rattle.yd_any.specs.JsonView.{json_tree}
use Rattle.yd_any.specs.declared.json_value.Json.{Json}
use Rattle.yd_any.specs.declared.fault.JsonFault.{JsonFault}
use Rattle.yd_any.specs.declared.fault.JsonFault.TheVariants.{NoMemory, BadJson, NumberNotCarried, TooDeep}

-- the tree, unless it nests too deep, or else holds what JSON values do not carry
abbrev pub judged : AnyTree → Result AnyTree JsonFault
judged t = if nat_le (depth t) most_depth then (if is_carried t then Ok t else Err NumberNotCarried) else Err TooDeep

-- the tree of what was read, where something was
abbrev pub judged_reading : Option Data → Result AnyTree JsonFault
judged_reading None = Err BadJson
judged_reading (Some d) = judged (data_tree d)

-- the tree of the JSON value that a text is
abbrev pub value_of_text : List ℕ → Result AnyTree JsonFault
value_of_text text = judged_reading (read_text text)

-- the tree of the JSON value that carries an any-value, where each value inside is carried
abbrev pub carried : AnyTree → Result AnyTree JsonFault
carried t = if is_carried t then Ok (settled t) else Err NumberNotCarried

-- a fault comes just where it has to, and a value unless a growth found no memory
abbrev pub Gives : Result AnyTree JsonFault → Result Json JsonFault → Type 0
Gives (Ok t) result = MatchResult result (λ j. json_tree j ≡ t) (λ e. e ≡ NoMemory)
Gives (Err fault) result = result ≡ Err fault
