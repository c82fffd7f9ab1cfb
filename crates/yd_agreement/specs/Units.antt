-- Which unit a content has at a place, and of which kind contents and units are (own).
use Rattle.std.specs.Prelude.{ℕ, get_or}
use Rattle.yd_ops.specs.Operation.{UnitContent, any_unit, bytes, deleted_unit, embedded, gone_unit, json_unit, mark, nested_type, text_unit, units_of_content}
use Rattle.yd_ops.specs.Value.{ContentValue, any, binary, deleted, embed, format, json, nested, string}

-- the unit of a content at a place; behind its last there is none
abbrev pub unit_of : ContentValue → ℕ → UnitContent
unit_of content n = get_or (units_of_content content) n gone_unit

-- a number for each kind of unit
abbrev pub kind_of_unit : UnitContent → ℕ
kind_of_unit (json_unit value) = 0
kind_of_unit (bytes blob) = 1
kind_of_unit (text_unit unit) = 2
kind_of_unit (embedded t) = 3
kind_of_unit (mark key t) = 4
kind_of_unit (nested_type kind) = 5
kind_of_unit (any_unit t) = 6
kind_of_unit deleted_unit = 7
kind_of_unit gone_unit = 8

-- and for each kind of content, that of its units
abbrev pub kind_of_content : ContentValue → ℕ
kind_of_content (json values) = 0
kind_of_content (binary blob) = 1
kind_of_content (string units) = 2
kind_of_content (embed t) = 3
kind_of_content (format key t) = 4
kind_of_content (nested kind) = 5
kind_of_content (any ts) = 6
kind_of_content (deleted count) = 7
