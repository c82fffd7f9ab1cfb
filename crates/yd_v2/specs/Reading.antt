-- Reading a file in V2: the columns at its head, then the fields, then the end of the rest and of each column (Yjs 13, UpdateDecoderV2).
use Rattle.std.specs.Prelude.{ℕ, zero, suc, List, [], ◌∷◌, Some, Result, Ok, Err}
use Rattle.yd_cols.specs.Reading.{StringsLeft, bytes_in, diffs_in, end_of_bytes, end_of_diffs, end_of_strings, end_of_uints, strings_in, uints_in}
use Rattle.yd_fields.specs.Again.{FileReading, whole_by}
use Rattle.yd_fields.specs.Field.{FieldPlan, FieldType, FieldValue}
use Rattle.yd_fields.specs.UpdatePlan.{update_plan}
use Rattle.yd_ops.specs.Value.{UpdateValue}
use Rattle.yd_parts.specs.Fault.{Fault}
use Rattle.yd_parts.specs.Part as part
use Rattle.yd_parts.specs.Part.{PartPlan, all_of, here, last_spot, part_at}
use Rattle.yd_parts.specs.Plan.{and_then, give, read_by, refuse, want}
use Rattle.yd_parts.specs.declared.fault.Cause.TheVariants.{BadFlag, Trailing}
use Rattle.yd_parts.specs.declared.fault.Column.TheVariants.{Head, Keys, Clients, Lefts, Rights, Infos, Strings, Parents, Kinds, Lengths, Rest}
use Rattle.yd_parts.specs.declared.fault.Spot.{Spot}
use Rattle.yd_v2.specs.Left.{V2Left}
use Rattle.yd_v2.specs.Part.{V2Turn, in_column, v2_last, v2_part_at}
use Rattle.yd_v2.specs.Plan.{v2_plan}

-- ---- the head

-- the bytes of the nine columns
pub record Columns : Type 0 where
  pub keys : List ℕ
  pub clients : List ℕ
  pub lefts : List ℕ
  pub rights : List ℕ
  pub infos : List ℕ
  pub strings : List ℕ
  pub parents : List ℕ
  pub kinds : List ℕ
  pub lengths : List ℕ

-- the nine columns, each a byte string
unfoldable pub columns_plan : PartPlan Columns
columns_plan = want part.blob (λ keys at. want part.blob (λ clients at. want part.blob (λ lefts at. want part.blob (λ rights at. want part.blob (λ infos at.
    want part.blob (λ strings at. want part.blob (λ parents at. want part.blob (λ kinds at. want part.blob (λ lengths at.
    give (record { keys = keys; clients = clients; lefts = lefts; rights = rights; infos = infos; strings = strings; parents = parents; kinds = kinds; lengths = lengths }))))))))))

-- what a flag other than 0 is refused for
abbrev pub flagged_plan : Spot → ℕ → PartPlan Columns
flagged_plan spot zero = columns_plan
flagged_plan spot (suc flag) = refuse BadFlag spot

-- the head: a flag, which is 0, and the columns
unfoldable pub head_plan : PartPlan Columns
head_plan = want part.unsigned (λ flag spot. flagged_plan spot flag)

-- ---- the fields

-- what is left of a file, the keys that are known, and the spot of the field that was read last
pub record V2Now : Type 0 where
  pub left : V2Left
  pub known : List (List ℕ)
  pub spot : Spot

-- before the first field: all of the columns, of which the text of the strings is read, and of the rest
abbrev pub v2_begin : Columns → StringsLeft → List ℕ → V2Now
v2_begin columns strings rest = record {
  left = record {
    keys = diffs_in columns.keys;
    clients = uints_in columns.clients;
    lefts = diffs_in columns.lefts;
    rights = diffs_in columns.rights;
    infos = bytes_in columns.infos;
    strings = strings;
    parents = bytes_in columns.parents;
    kinds = uints_in columns.kinds;
    lengths = uints_in columns.lengths;
    rest = all_of Rest rest;
  };
  known = [];
  spot = record { column = Head; at = 0 };
}

-- the head of a file, and the text that joins its strings
unfoldable pub v2_start : List ℕ → Result V2Now Fault
v2_start bytes =
    and_then (read_by part_at last_spot head_plan (all_of Head bytes)) (λ head.
    and_then (in_column Strings (strings_in head.0.strings)) (λ strings. Ok (v2_begin head.0 strings head.1.bytes)))

-- where the parts of the next field begin
abbrev pub turn_of : V2Now → V2Turn
turn_of now = record { left = now.left; last = now.spot }

-- the field of a type
unfoldable pub v2_at : (t : FieldType) → V2Now → Result (FieldValue t × V2Now) Fault
v2_at t now = and_then (read_by v2_part_at v2_last (v2_plan t now.known) (turn_of now)) (λ read. Ok (read.0.value, record { left = read.1.left; known = read.0.known; spot = read.0.spot }))

-- the spot of the field that was read last
abbrev pub v2_spot : V2Now → Spot
v2_spot now = now.spot

-- how many structs a file may declare (own)
abbrev pub most_structs : ℕ
most_structs = 4194304

-- ---- the end

-- nothing may follow the last field in the rest
abbrev pub rest_done : Spot → List ℕ → Result (Unit {0}) Fault
rest_done spot [] = Ok tt
rest_done spot (b ∷ bytes) = Err (record { cause = Trailing; spot = spot })

-- one end, and behind it the next one
infixl 10 ◌>>◌
abbrev pub ◌>>◌ : Result (Unit {0}) Fault → Result (Unit {0}) Fault → Result (Unit {0}) Fault
(Ok done) >> next = next
(Err fault) >> next = Err fault

-- the end of the rest, and then of the columns in their order
unfoldable pub v2_end : V2Now → Result (Unit {0}) Fault
v2_end now = rest_done (here now.left.rest) now.left.rest.bytes
    >> in_column Keys (end_of_diffs now.left.keys)
    >> in_column Clients (end_of_uints now.left.clients)
    >> in_column Lefts (end_of_diffs now.left.lefts)
    >> in_column Rights (end_of_diffs now.left.rights)
    >> in_column Infos (end_of_bytes now.left.infos)
    >> in_column Strings (end_of_strings now.left.strings)
    >> in_column Parents (end_of_bytes now.left.parents)
    >> in_column Kinds (end_of_uints now.left.kinds)
    >> in_column Lengths (end_of_uints now.left.lengths)

-- ---- whole files

-- how V2 reads a file: the head, the fields, and the ends
abbrev pub v2_files : FileReading V2Now
v2_files = record { start = v2_start; field_at = v2_at; spot_of = v2_spot; end_at = v2_end }

-- what the fields of a file give by a plan, or the first fault
unfoldable pub v2_whole : {X : Type 0} → FieldPlan X → List ℕ → Result X Fault
v2_whole plan bytes = whole_by v2_files plan bytes

-- the update that a file stands for, or the first fault
abbrev pub v2_reading : List ℕ → Result UpdateValue Fault
v2_reading bytes = v2_whole (update_plan (Some most_structs)) bytes
