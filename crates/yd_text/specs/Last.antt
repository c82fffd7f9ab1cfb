-- The unit that stands last in a list, as it is told, and sets of one id (own).
use Rattle.std.specs.Prelude.{◌&&◌, not, List, [], ◌∷◌, Option, Some, None, if◌then◌else◌}
use Rattle.yd_ids.specs.declared.id.Id.{Id}
use Rattle.yd_ids.specs.declared.id.Span.{Span}
use Rattle.yd_ids.specs.Id.{IsSpan}
use Rattle.yd_ids.specs.Set.{set_of}
use Rattle.yd_ops.specs.Operation.{Operation}
use Rattle.yd_meaning.specs.Document.{Document}
use Rattle.yd_shown.specs.Shown.{is_counted}
use Rattle.yd_text.specs.declared.last.LastUnit.{LastUnit}

-- what is told of a unit
abbrev pub told_of : Document → Operation → LastUnit
told_of document o = record { id = o.id; live = not (document.deleted o.id); shown = not (document.deleted o.id) && is_counted o.content }

-- the id of a unit that is told, where there is one
abbrev pub id_told : Option LastUnit → Option Id
id_told None = None
id_told (Some unit) = Some unit.id

-- its id, where it is live
abbrev pub live_told : Option LastUnit → Option Id
live_told None = None
live_told (Some unit) = if unit.live then Some unit.id else None

-- its id, where it is a live value
abbrev pub shown_told : Option LastUnit → Option Id
shown_told None = None
shown_told (Some unit) = if unit.shown then Some unit.id else None

-- an id as a span
abbrev pub span_of : Id → Span
span_of id = record { client = id.client; clock = id.clock; len = 1 }

-- the id is that of a unit: the clock behind it is in range too
abbrev pub IsUnitId : Id → Type 0
IsUnitId id = IsSpan (span_of id)

-- the set of an id, and of none the empty set
abbrev pub set_of_one : Option Id → List Span
set_of_one None = []
set_of_one (Some id) = set_of (span_of id ∷ [])
