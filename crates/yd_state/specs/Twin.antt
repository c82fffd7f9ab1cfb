-- A set of ids that is kept twice (own).
use Rattle.std.specs.Prelude.{◌≡◌, List, Option, None, Some}
use Rattle.yd_ids.specs.declared.id.Span.{Span}
use Rattle.yd_ids.specs.Set.{union_of}
use Rattle.yd_state.specs.declared.twin.Twin.{Twin as TwinValue}

-- a set is its twin with what that misses
abbrev pub IsTwinOf : List Span → Option TwinValue → Type 0
IsTwinOf now None = Unit {0}
IsTwinOf now (Some twin) = now ≡ union_of twin.ids twin.missing
