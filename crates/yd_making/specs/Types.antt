-- Which entries hold a type.
use Rattle.std.specs.Prelude.{Bool, true, false, ◌&&◌, not, List, Option, Some, None, slice_get}
use Rattle.yd_ops.specs.declared.runs.Run.{Run}
use Rattle.yd_ops.specs.Value.{ContentValue, json, binary, string, embed, format, nested, any, deleted}
use Rattle.yd_ops.specs.View.{content_value}
use Rattle.yd_entries.specs.declared.entry.Entry.{Entry}
use Rattle.yd_entries.specs.Entries.{is_listed}

-- whether a content is a type
abbrev pub is_type_content : ContentValue → Bool
is_type_content (json units) = false
is_type_content (binary blob) = false
is_type_content (string units) = false
is_type_content (embed value) = false
is_type_content (format key value) = false
is_type_content (nested kind) = true
is_type_content (any values) = false
is_type_content (deleted count) = false

-- whether a run, where there is one, is of a type
abbrev pub is_type_run : Option Run → Bool
is_type_run None = false
is_type_run (Some run) = is_type_content (content_value run.content)

-- whether units in a list hold a type
abbrev pub holds_type : List Run → Entry → Bool
holds_type runs t = is_listed t && (not t.is_gone && is_type_run (slice_get runs t.run))
