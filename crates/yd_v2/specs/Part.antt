-- What a file in V2 is read in: values of columns, and parts of the rest (Yjs 13, UpdateDecoderV2).
use Rattle.std.specs.Prelude.{ℕ, List, Result, Ok, Err}
use Rattle.yd_cols.specs.Reading.{next_byte, next_diff, next_string, next_uint}
use Rattle.yd_cols.specs.declared.fault.ColCause.{ColCause}
use Rattle.yd_cols.specs.declared.fault.ColCause.TheVariants as col_causes
use Rattle.yd_cols.specs.declared.fault.ColFault.{ColFault}
use Rattle.yd_parts.specs.Fault.{Fault}
use Rattle.yd_parts.specs.Part.{Part, PartValue, Unread, here, last_spot, part_at}
use Rattle.yd_parts.specs.Plan.{Plan}
use Rattle.yd_parts.specs.declared.fault.Cause.{Cause}
use Rattle.yd_parts.specs.declared.fault.Cause.TheVariants as causes
use Rattle.yd_parts.specs.declared.fault.Column.{Column}
use Rattle.yd_parts.specs.declared.fault.Column.TheVariants.{Keys, Clients, Lefts, Rights, Infos, Strings, Parents, Kinds, Lengths}
use Rattle.yd_parts.specs.declared.fault.Spot.{Spot}
use Rattle.yd_v2.specs.Left.{V2Left, with_clients, with_infos, with_keys, with_kinds, with_lefts, with_lengths, with_parents, with_rest, with_rights, with_strings}

-- a value of each column, a part of the rest, or the spot of the next part of the rest
pub data V2Part : Type 0 where
  key_number : V2Part
  client : V2Part
  left_clock : V2Part
  right_clock : V2Part
  info : V2Part
  string : V2Part
  flag : V2Part
  kind : V2Part
  len : V2Part
  rest : Part → V2Part
  mark : V2Part

-- what each of these holds
abbrev pub V2Value : V2Part → Type 0
V2Value key_number = ℕ
V2Value client = ℕ
V2Value left_clock = ℕ
V2Value right_clock = ℕ
V2Value info = ℕ
V2Value string = List ℕ
V2Value flag = ℕ
V2Value kind = ℕ
V2Value len = ℕ
V2Value (rest part) = PartValue part
V2Value mark = Unit {0}

-- a plan of reading them
abbrev pub V2Plan : Type 0 → Type 0
V2Plan X = Plan V2Value X

-- ---- reading

-- the cause of a column's fault
abbrev pub of_column : ColCause → Cause
of_column col_causes.ShortInput = causes.ShortInput
of_column col_causes.NumberTooLarge = causes.NumberTooLarge
of_column col_causes.BadUtf8 = causes.BadUtf8
of_column col_causes.HalfPair = causes.HalfPair
of_column col_causes.ColumnLeft = causes.ColumnLeft

-- a column's fault, with its place in that column
abbrev pub fault_in : Column → ColFault → Fault
fault_in column fault = record { cause = of_column fault.cause; spot = record { column = column; at = fault.at } }

-- what a column gives, with its faults in it
abbrev pub in_column : {X : Type 0} → Column → Result X ColFault → Result X Fault
in_column column (Ok x) = Ok x
in_column column (Err fault) = Err (fault_in column fault)

-- what is left, and the spot of what was read last
pub record V2Turn : Type 0 where
  pub left : V2Left
  pub last : Spot

-- what a column gives; it has moved on, and the place of its run is where it was read last
abbrev pub turned : {X L : Type 0} → (L → V2Left) → Column → (L → ℕ) → Result (X × L) ColFault → Result (X × V2Turn) Fault
turned with_next column place (Ok read) = Ok (read.0, record { left = with_next read.1; last = record { column = column; at = place read.1 } })
turned with_next column place (Err fault) = Err (fault_in column fault)

-- what the rest gives
abbrev pub rest_turned : {X : Type 0} → V2Left → Result (X × Unread) Fault → Result (X × V2Turn) Fault
rest_turned left (Ok read) = Ok (read.0, record { left = with_rest left read.1; last = last_spot read.1 })
rest_turned left (Err fault) = Err fault

-- the next value of a column, the next part of the rest, or its spot
abbrev pub v2_part_at : (t : V2Part) → V2Turn → Result (V2Value t × V2Turn) Fault
v2_part_at key_number now = turned (with_keys now.left) Keys (λ keys. keys.runs.at) (next_diff now.left.keys)
v2_part_at client now = turned (with_clients now.left) Clients (λ clients. clients.at) (next_uint now.left.clients)
v2_part_at left_clock now = turned (with_lefts now.left) Lefts (λ lefts. lefts.runs.at) (next_diff now.left.lefts)
v2_part_at right_clock now = turned (with_rights now.left) Rights (λ rights. rights.runs.at) (next_diff now.left.rights)
v2_part_at info now = turned (with_infos now.left) Infos (λ infos. infos.runs.at) (next_byte now.left.infos)
v2_part_at string now = turned (with_strings now.left) Strings (λ strings. strings.lengths.at) (next_string now.left.strings)
v2_part_at flag now = turned (with_parents now.left) Parents (λ parents. parents.runs.at) (next_byte now.left.parents)
v2_part_at kind now = turned (with_kinds now.left) Kinds (λ kinds. kinds.at) (next_uint now.left.kinds)
v2_part_at len now = turned (with_lengths now.left) Lengths (λ lengths. lengths.at) (next_uint now.left.lengths)
v2_part_at (rest part) now = rest_turned now.left (part_at part now.left.rest)
v2_part_at mark now = Ok (tt, record { left = now.left; last = here now.left.rest })

-- the spot of what was read last
abbrev pub v2_last : V2Turn → Spot
v2_last now = now.last
