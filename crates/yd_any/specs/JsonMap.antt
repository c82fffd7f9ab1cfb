-- The fields of a map from keys to JSON values.
use Rattle.std.specs.Prelude.{List, map, String, string_bytes}
use Rattle.std.specs.declared.alloc.Global.{Global}
use Rattle.yd_any.specs.Tree.{AnyFields, fields_of}
use Rattle.yd_any.specs.JsonView.{json_tree}
use Rattle.yd_any.specs.declared.json_value.Json.{Json}

-- the keys with the trees of their values, in the map's order
abbrev pub map_fields : List (String Global × Json) → AnyFields
map_fields es = fields_of (map (λ e. (string_bytes e.0, json_tree e.1)) es)
