-- Writing fields in V2: what is written so far, and the bytes that it is in the end (Yjs 13, UpdateEncoderV2).
use Rattle.std.specs.Prelude.{◌≡◌, ℕ, suc, ◌-◌, ◌^◌, ◌<◌, List, [], ◌++◌, length}
use Rattle.yd_cols.specs.Writing.{DiffsWritten, RunsWritten, StringsWritten, byte_column, diff_column, no_diffs, no_runs, no_strings, put_byte, put_diff, put_string, put_uint, string_column, uint_column}
use Rattle.yd_fields.specs.Field.{Field, FieldType, FieldValue}
use Rattle.yd_fields.specs.Field as field
use Rattle.yd_fields.specs.UpdateFields.{fields_of_update}
use Rattle.yd_fields.specs.Writes.{with_fields}
use Rattle.yd_num.specs.Writing.{shortest, shortest_blob}
use Rattle.yd_ops.specs.Value.{UpdateValue}
use Rattle.yd_parts.specs.AnyBytes.{bytes_of_any}
use Rattle.yd_v2.specs.Reading.{Columns}

-- what is written of the nine columns and of the rest, and how many keys are numbered
pub record V2Written : Type 0 where
  pub keys : DiffsWritten
  pub clients : RunsWritten ℕ
  pub lefts : DiffsWritten
  pub rights : DiffsWritten
  pub infos : RunsWritten ℕ
  pub strings : StringsWritten
  pub parents : RunsWritten ℕ
  pub kinds : RunsWritten ℕ
  pub lengths : RunsWritten ℕ
  pub rest : List ℕ
  pub known : ℕ

-- no field is written
abbrev pub no_fields : V2Written
no_fields = record {
  keys = no_diffs;
  clients = no_runs;
  lefts = no_diffs;
  rights = no_diffs;
  infos = no_runs;
  strings = no_strings;
  parents = no_runs;
  kinds = no_runs;
  lengths = no_runs;
  rest = [];
  known = 0;
}

-- ---- one more of a column

-- one more client
abbrev pub more_clients : ℕ → V2Written → V2Written
more_clients v w = record w { clients = put_uint v w.clients }

-- one more clock of a left origin
abbrev pub more_lefts : ℕ → V2Written → V2Written
more_lefts v w = record w { lefts = put_diff v w.lefts }

-- one more clock of a right origin
abbrev pub more_rights : ℕ → V2Written → V2Written
more_rights v w = record w { rights = put_diff v w.rights }

-- one more info byte
abbrev pub more_infos : ℕ → V2Written → V2Written
more_infos v w = record w { infos = put_byte v w.infos }

-- one more string
abbrev pub more_strings : List ℕ → V2Written → V2Written
more_strings v w = record w { strings = put_string v w.strings }

-- one more flag of a parent
abbrev pub more_parents : ℕ → V2Written → V2Written
more_parents v w = record w { parents = put_byte v w.parents }

-- one more number of a type
abbrev pub more_kinds : ℕ → V2Written → V2Written
more_kinds v w = record w { kinds = put_uint v w.kinds }

-- one more length
abbrev pub more_lengths : ℕ → V2Written → V2Written
more_lengths v w = record w { lengths = put_uint v w.lengths }

-- a key: its number, which is how many keys came before it, and its text; a key is never named again, as in Yjs
abbrev pub more_keys : List ℕ → V2Written → V2Written
more_keys text w = record w { keys = put_diff w.known w.keys; strings = put_string text w.strings; known = suc w.known }

-- more bytes in the rest
abbrev pub more_rest : List ℕ → V2Written → V2Written
more_rest bytes w = record w { rest = w.rest ++ bytes }

-- ---- fields

-- a range, by how far it is behind another one's end, and by its length less one
abbrev pub bytes_of_range : ℕ → ℕ × ℕ → List ℕ
bytes_of_range before r = shortest (r.0 - before) ++ shortest (r.1 - 1)

-- a field of each type behind others
abbrev pub put_value : (t : FieldType) → FieldValue t → V2Written → V2Written
put_value field.info v w = more_infos v w
put_value field.client v w = more_clients v w
put_value field.left id w = more_lefts id.clock (more_clients id.client.0 w)
put_value field.right id w = more_rights id.clock (more_clients id.client.0 w)
put_value field.flag v w = more_parents v w
put_value field.string text w = more_strings text w
put_value field.key text w = more_keys text w
put_value field.kind v w = more_kinds v w
put_value field.len v w = more_lengths v w
put_value field.any t w = more_rest (bytes_of_any t) w
put_value field.blob bytes w = more_rest (shortest_blob bytes) w
put_value field.json t w = more_rest (bytes_of_any t) w
put_value field.number v w = more_rest (shortest v) w
put_value (field.range before) r w = more_rest (bytes_of_range before r) w

-- a field behind others
abbrev pub v2_put : Field → V2Written → V2Written
v2_put f w = put_value f.0 f.1 w

-- ---- files

-- the bytes of the columns
abbrev pub columns_written : V2Written → Columns
columns_written w = record {
  keys = diff_column w.keys;
  clients = uint_column w.clients;
  lefts = diff_column w.lefts;
  rights = diff_column w.rights;
  infos = byte_column w.infos;
  strings = string_column w.strings;
  parents = byte_column w.parents;
  kinds = uint_column w.kinds;
  lengths = uint_column w.lengths;
}

-- the columns, each a byte string, and the rest behind them
abbrev pub columns_bytes : Columns → List ℕ → List ℕ
columns_bytes columns rest =
    shortest_blob columns.keys ++ (shortest_blob columns.clients ++ (shortest_blob columns.lefts ++ (shortest_blob columns.rights
    ++ (shortest_blob columns.infos ++ (shortest_blob columns.strings ++ (shortest_blob columns.parents ++ (shortest_blob columns.kinds ++ (shortest_blob columns.lengths ++ rest))))))))

-- the flag, the columns and the rest
abbrev pub file_bytes : Columns → List ℕ → List ℕ
file_bytes columns rest = shortest 0 ++ columns_bytes columns rest

-- the file of what is written
abbrev pub v2_bytes : V2Written → List ℕ
v2_bytes w = file_bytes (columns_written w) w.rest

-- the file of fields
abbrev pub v2_bytes_of_all : List Field → List ℕ
v2_bytes_of_all fields = v2_bytes (with_fields v2_put fields no_fields)

-- the file that an update is written as
abbrev pub v2_file : UpdateValue → List ℕ
v2_file u = v2_bytes_of_all (fields_of_update u)

-- ---- what can be read again

-- each column is in as many bytes as are read
pub record ColumnsFit (columns : Columns) : Type 0 where
  pub keys : length columns.keys < 2 ^ 53
  pub clients : length columns.clients < 2 ^ 53
  pub lefts : length columns.lefts < 2 ^ 53
  pub rights : length columns.rights < 2 ^ 53
  pub infos : length columns.infos < 2 ^ 53
  pub strings : length columns.strings < 2 ^ 53
  pub parents : length columns.parents < 2 ^ 53
  pub kinds : length columns.kinds < 2 ^ 53
  pub lengths : length columns.lengths < 2 ^ 53

-- the bytes have one more column, which can be read again
pub record PushesColumn (old new column : List ℕ) : Type 0 where
  pub bytes : new ≡ old ++ shortest_blob column
  pub fits : length column < 2 ^ 53

-- the bytes have three more columns, which can be read again
pub record PushesThree (old new first second third : List ℕ) : Type 0 where
  pub bytes : new ≡ old ++ (shortest_blob first ++ (shortest_blob second ++ shortest_blob third))
  pub first_fits : length first < 2 ^ 53
  pub second_fits : length second < 2 ^ 53
  pub third_fits : length third < 2 ^ 53

-- columns, the text that joins the strings, and the numbers of keys can be read again
pub record FitsFile (w : V2Written) : Type 0 where
  pub columns : ColumnsFit (columns_written w)
  pub text : length w.strings.text < 2 ^ 53
  pub known : w.known < 2 ^ 53
