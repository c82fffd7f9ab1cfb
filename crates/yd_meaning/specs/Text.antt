-- The text of a list: its live text units in order, with U+FFFD for a half that does not stand beside its partner (Yjs 13, toString of a text; that lone halves are replaced is own).
use Rattle.std.specs.Prelude.{ℕ, Bool, false, ◌&&◌, ◌||◌, not, List, [], ◌∷◌, Option, Some, None, filter, if◌then◌else◌}
use Rattle.yd_ops.specs.declared.lists.List.{List as DocList}
use Rattle.yd_ops.specs.Operation.{UnitContent, text_unit, any_unit, json_unit, bytes, embedded, mark, nested_type, deleted_unit, gone_unit, Operation}
use Rattle.yd_ops.specs.Pairs.{is_high, is_low, is_text_and, are_partners}
use Rattle.yd_meaning.specs.Document.{Document}

-- the live units of a list, in order
abbrev pub live_units : Document → DocList → List Operation
live_units document list = filter (λ o. not (document.deleted o.id)) (document.units list)

-- whether a unit is the partner of the one behind it
abbrev pub has_partner_before : Option Operation → Operation → Bool
has_partner_before None o = false
has_partner_before (Some before) o = are_partners before o

-- whether the unit in front of others is the partner of one before it
abbrev pub has_partner_behind : Operation → List Operation → Bool
has_partner_behind o [] = false
has_partner_behind o (behind ∷ others) = are_partners o behind

-- whether a unit between live units is half of a pair, and its partner does not stand beside it
abbrev pub is_lone : Option Operation → Operation → List Operation → Bool
is_lone before o behind =
    (is_text_and is_high o.content && not (has_partner_behind o behind))
    || (is_text_and is_low o.content && not (has_partner_before before o))

-- a text unit in front of others, as it is shown; what is no text shows none
abbrev pub shown_before : Bool → UnitContent → List ℕ → List ℕ
shown_before lone (text_unit unit) units = (if lone then 0xFFFD else unit) ∷ units
shown_before lone (any_unit value) units = units
shown_before lone (json_unit value) units = units
shown_before lone (bytes blob) units = units
shown_before lone (embedded value) units = units
shown_before lone (mark key value) units = units
shown_before lone (nested_type kind) units = units
shown_before lone deleted_unit units = units
shown_before lone gone_unit units = units

-- the text units of live units, behind the one before them
abbrev pub shown_units : Option Operation → List Operation → List ℕ
shown_units before [] = []
shown_units before (o ∷ os) = shown_before (is_lone before o os) o.content (shown_units (Some o) os)

-- the text of a list, as UTF-16 units
abbrev pub shown_text : Document → DocList → List ℕ
shown_text document list = shown_units None (live_units document list)
