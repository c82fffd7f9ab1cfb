-- When two optional values, two kinds and what two units hold are the same, as tests.
use Rattle.std.specs.Prelude.{Bool, true, false, ◌&&◌, Option, Some, None, nat_eq}
use Rattle.std.specs.Str.{bytes_eq}
use Rattle.yd_any.specs.Same.{same_tree}
use Rattle.yd_any.specs.Tree.{AnyTree}
use Rattle.yd_ops.specs.Operation.{UnitContent, any_unit, bytes, deleted_unit, embedded, gone_unit, json_unit, mark, nested_type, text_unit}
use Rattle.yd_ops.specs.declared.kinds.Kind.{Kind}
use Rattle.yd_ops.specs.declared.kinds.Kind.TheVariants.{Array, Map, Text, Element, Fragment, Hook, ElementText}

-- whether both are undefined, or the same value
abbrev pub same_value : Option AnyTree → Option AnyTree → Bool
same_value None None = true
same_value (Some a) (Some a2) = same_tree a a2
same_value x y = false

-- whether two kinds of nested types are the same
abbrev pub same_kind : Kind → Kind → Bool
same_kind Array Array = true
same_kind Map Map = true
same_kind Text Text = true
same_kind (Element a) (Element a2) = bytes_eq a a2
same_kind Fragment Fragment = true
same_kind (Hook a) (Hook a2) = bytes_eq a a2
same_kind ElementText ElementText = true
same_kind x y = false

-- whether two units hold the same
abbrev pub same_content : UnitContent → UnitContent → Bool
same_content (text_unit a) (text_unit a2) = nat_eq a a2
same_content (any_unit a) (any_unit a2) = same_tree a a2
same_content (json_unit a) (json_unit a2) = same_value a a2
same_content (bytes a) (bytes a2) = bytes_eq a a2
same_content (embedded a) (embedded a2) = same_tree a a2
same_content (mark a b) (mark a2 b2) = bytes_eq a a2 && same_tree b b2
same_content (nested_type a) (nested_type a2) = same_kind a a2
same_content deleted_unit deleted_unit = true
same_content gone_unit gone_unit = true
same_content x y = false
