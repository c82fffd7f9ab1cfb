-- Where a unit stands: the list that it is in, and the type that it is (Yjs 13, the parent of an item, and the type of its content).
use Rattle.std.specs.Prelude.{◌≡◌, ◌<◌, ◌^◌, true, false, Bool, ◌&&◌, not, List, [], ◌∷◌, Option, Some, None, slice_get, if◌then◌else◌}
use Rattle.yd_words.specs.Member.{IsIn}
use Rattle.yd_ids.specs.declared.id.Id.{Id}
use Rattle.yd_ids.specs.Ids.{is_same}
use Rattle.yd_ops.specs.declared.kinds.Kind.{Kind}
use Rattle.yd_ops.specs.declared.lists.List.{List as DocList}
use Rattle.yd_ops.specs.declared.runs.Run.{Run}
use Rattle.yd_ops.specs.Operation.{Operation, UnitContent, text_unit, any_unit, json_unit, bytes, embedded, mark, nested_type, deleted_unit, gone_unit}
use Rattle.yd_ops.specs.Value.{ContentValue, json, binary, string, embed, format, nested, any, deleted}
use Rattle.yd_ops.specs.View.{content_value}
use Rattle.yd_ops.specs.Received.{Received, has_operation}
use Rattle.yd_meaning.specs.Held.{held_set, held_clock, standing}
use Rattle.yd_meaning.specs.Order.{list_of}
use Rattle.yd_entries.specs.declared.entry.Entry.{Entry}
use Rattle.yd_entries.specs.declared.place.Place.{Place}
use Rattle.yd_entries.specs.Entries.{covers, is_listed}
use Rattle.yd_received.specs.Received.{ReceivedValue}

-- the operations that are held and not lost
abbrev pub stands_in : Received → List Operation
stands_in r = standing (held_set r.operations)

-- the list of the operation with the id, where there is one
abbrev pub list_where : List Operation → Id → Option DocList
list_where stands x = if has_operation stands x then Some (list_of stands x) else None

-- the type that a unit is
abbrev pub kind_of_unit : UnitContent → Option Kind
kind_of_unit (text_unit unit) = None
kind_of_unit (any_unit value) = None
kind_of_unit (json_unit value) = None
kind_of_unit (bytes blob) = None
kind_of_unit (embedded value) = None
kind_of_unit (mark key value) = None
kind_of_unit (nested_type kind) = Some kind
kind_of_unit deleted_unit = None
kind_of_unit gone_unit = None

-- the type that the unit of the operation with the id is
abbrev pub kind_where : List Operation → Id → Option Kind
kind_where [] x = None
kind_where (o ∷ os) x = if is_same o.id x then kind_of_unit o.content else kind_where os x

-- ---- as they are kept

-- the id is in range, and below its client's clock in the state vector
abbrev pub IsReached : Received → Id → Type 0
IsReached r x = (x.client.0 < 2 ^ 53) × (x.clock < held_clock (held_set r.operations) x.client.0)

-- an entry that has the id stands at the place
abbrev pub IsPlaceOf : ReceivedValue → Id → Place → Type 0
IsPlaceOf r x place = (t : Entry) × IsIn t r.entries × (covers t x ≡ true) × (t.place ≡ place)

-- the type that a content is
abbrev pub kind_of_content : ContentValue → Option Kind
kind_of_content (json units) = None
kind_of_content (binary blob) = None
kind_of_content (string units) = None
kind_of_content (embed value) = None
kind_of_content (format key value) = None
kind_of_content (nested kind) = Some kind
kind_of_content (any values) = None
kind_of_content (deleted count) = None

-- that of a run, where there is one
abbrev pub kind_of_run : Option Run → Option Kind
kind_of_run None = None
kind_of_run (Some run) = kind_of_content (content_value run.content)

-- what is told of units: none where they are gone
abbrev pub kind_if : Bool → Option Kind → Option Kind
kind_if false kind = None
kind_if true kind = kind

-- the type that an entry's units are told to be, where they are in a list
abbrev pub kind_told : List Run → Entry → Option Kind
kind_told runs t = kind_if (is_listed t && not t.is_gone) (kind_of_run (slice_get runs t.run))
