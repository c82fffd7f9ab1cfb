-- Pairs: the two operations of one character, and what becomes of a half whose partner is not there (that it becomes U+FFFD is own).
use Rattle.std.specs.Prelude.{ℕ, Bool, true, false, ◌&&◌, ◌||◌, not, List, [], ◌∷◌, Some, nat_le}
use Rattle.yd_ids.specs.Ids.{is_same, is_same_neighbour}
use Rattle.yd_ops.specs.Operation.{UnitContent, text_unit, any_unit, json_unit, bytes, embedded, mark, nested_type, deleted_unit, gone_unit, Operation, later_id}

-- whether a number is the first half of a pair
abbrev pub is_high : ℕ → Bool
is_high unit = nat_le 0xD800 unit && nat_le unit 0xDBFF

-- whether a number is the second half of a pair
abbrev pub is_low : ℕ → Bool
is_low unit = nat_le 0xDC00 unit && nat_le unit 0xDFFF

-- whether a content is a text unit that passes a test
abbrev pub is_text_and : (ℕ → Bool) → UnitContent → Bool
is_text_and test (text_unit unit) = test unit
is_text_and test (any_unit value) = false
is_text_and test (json_unit value) = false
is_text_and test (bytes blob) = false
is_text_and test (embedded value) = false
is_text_and test (mark key value) = false
is_text_and test (nested_type kind) = false
is_text_and test deleted_unit = false
is_text_and test gone_unit = false

-- whether the two are one pair: a high half, and a low half with the client's next clock that was made behind it
abbrev pub are_partners : Operation → Operation → Bool
are_partners high low =
    is_text_and is_high high.content && is_text_and is_low low.content
    && is_same low.id (later_id high.id 1) && is_same_neighbour low.left_origin (Some high.id)

-- whether a content is half of a pair
abbrev pub is_half : UnitContent → Bool
is_half content = is_text_and is_high content || is_text_and is_low content

-- whether the partner of an operation is there
abbrev pub has_partner : List Operation → Operation → Bool
has_partner [] o = false
has_partner (p ∷ ps) o = (are_partners o p || are_partners p o) || has_partner ps o

-- whether an operation is half of a pair, and its partner is not there
abbrev pub is_alone : List Operation → Operation → Bool
is_alone os o = is_half o.content && not (has_partner os o)

-- an operation as it is, or, where it is a half that is alone, as U+FFFD
abbrev pub as_torn : Bool → Operation → Operation
as_torn true o = record { id = o.id; left_origin = o.left_origin; right_origin = o.right_origin; list = o.list; content = text_unit 0xFFFD }
as_torn false o = o
