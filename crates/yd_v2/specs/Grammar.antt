-- Which files in V2 stand for an update, and what is first wrong with the others (Yjs 13, update format V2): the grammar, without reading.
use Rattle.std.specs.Prelude.{◌≡◌, ◌⊎◌, ℕ, List, Some, Ok, Err}
use Rattle.yd_cols.specs.Reading.{StringsLeft, runs_from}
use Rattle.yd_cols.specs.Taking.{LacksByte, LacksDiff, LacksString, LacksUint, TakesByte, TakesDiff, TakesString, TakesUint}
use Rattle.yd_cols.specs.declared.fault.ColFault.{ColFault}
use Rattle.yd_fields.specs.Field.{FieldPlan, FieldType, FieldValue}
use Rattle.yd_fields.specs.UpdatePlan.{update_plan}
use Rattle.yd_ops.specs.Value.{UpdateValue}
use Rattle.yd_parts.specs.Fault.{Fault}
use Rattle.yd_parts.specs.Part.{Unread, all_of, here, last_spot}
use Rattle.yd_parts.specs.Part as part
use Rattle.yd_parts.specs.PartGrammar.{FailsPart, StandsPart}
use Rattle.yd_parts.specs.Plan.{Found, PlanFails, PlanGives}
use Rattle.yd_parts.specs.declared.fault.Column.{Column}
use Rattle.yd_parts.specs.declared.fault.Column.TheVariants.{Head, Keys, Clients, Lefts, Rights, Infos, Strings, Parents, Kinds, Lengths}
use Rattle.yd_v2.specs.Left.{V2Left, with_clients, with_infos, with_keys, with_kinds, with_lefts, with_lengths, with_parents, with_rest, with_rights, with_strings}
use Rattle.yd_v2.specs.Part.{V2Part, V2Turn, V2Value, client, fault_in, flag, info, key_number, kind, left_clock, len, mark, rest, right_clock, string}
use Rattle.yd_v2.specs.Plan.{v2_plan}
use Rattle.yd_v2.specs.Reading.{Columns, V2Now, head_plan, most_structs, turn_of, v2_begin, v2_end}

-- ---- parts

-- the value is the next of a column, which is moved on; the place of its run is where it was read last
pub record TakesIn {X L : Type 0} (Takes : L → X → L → Type 0) (with_next : L → V2Left) (column : Column) (place : L → ℕ) (before : L) (v : X) (next : V2Turn) : Type 0 where
  pub behind : L
  pub taken : Takes before v behind
  pub next_is : next ≡ record { left = with_next behind; last = record { column = column; at = place behind } }

-- the part stands at the front of the rest
pub record TakesRest (part : Found part.PartValue) (now : V2Left) (next : V2Turn) : Type 0 where
  pub behind : Unread
  pub stands : StandsPart now.rest part behind
  pub next_is : next ≡ record { left = with_rest now behind; last = last_spot behind }

-- the value is the next of its column, or the part stands at the front of the rest
abbrev pub TakesPart : (t : V2Part) → V2Left → V2Value t → V2Turn → Type 0
TakesPart key_number now v next = TakesIn TakesDiff (with_keys now) Keys (λ keys. keys.runs.at) now.keys v next
TakesPart client now v next = TakesIn TakesUint (with_clients now) Clients (λ clients. clients.at) now.clients v next
TakesPart left_clock now v next = TakesIn TakesDiff (with_lefts now) Lefts (λ lefts. lefts.runs.at) now.lefts v next
TakesPart right_clock now v next = TakesIn TakesDiff (with_rights now) Rights (λ rights. rights.runs.at) now.rights v next
TakesPart info now v next = TakesIn TakesByte (with_infos now) Infos (λ infos. infos.runs.at) now.infos v next
TakesPart string now v next = TakesIn TakesString (with_strings now) Strings (λ strings. strings.lengths.at) now.strings v next
TakesPart flag now v next = TakesIn TakesByte (with_parents now) Parents (λ parents. parents.runs.at) now.parents v next
TakesPart kind now v next = TakesIn TakesUint (with_kinds now) Kinds (λ kinds. kinds.at) now.kinds v next
TakesPart len now v next = TakesIn TakesUint (with_lengths now) Lengths (λ lengths. lengths.at) now.lengths v next
TakesPart (rest part) now v next = TakesRest (record { type = part; value = v; spot = here now.rest }) now next
TakesPart mark now v next = next ≡ record { left = now; last = here now.rest }

-- the part is the next, and it was read where the turn behind it says
pub record StandsV2Part (now : V2Turn) (part : Found V2Value) (next : V2Turn) : Type 0 where
  pub taken : TakesPart part.type now.left part.value next
  pub spot : part.spot ≡ next.last

-- the column has no next value, for this fault in it
abbrev pub LacksIn : {L : Type 0} → (L → ColFault → Type 0) → Column → L → Fault → Type 0
LacksIn Lacks column before fault = (why : ColFault) × Lacks before why × (fault ≡ fault_in column why)

-- there is no next part, for this fault
abbrev pub FailsV2Part : V2Part → V2Turn → Fault → Type 0
FailsV2Part key_number now fault = LacksIn LacksDiff Keys now.left.keys fault
FailsV2Part client now fault = LacksIn LacksUint Clients now.left.clients fault
FailsV2Part left_clock now fault = LacksIn LacksDiff Lefts now.left.lefts fault
FailsV2Part right_clock now fault = LacksIn LacksDiff Rights now.left.rights fault
FailsV2Part info now fault = LacksIn LacksByte Infos now.left.infos fault
FailsV2Part string now fault = LacksIn LacksString Strings now.left.strings fault
FailsV2Part flag now fault = LacksIn LacksByte Parents now.left.parents fault
FailsV2Part kind now fault = LacksIn LacksUint Kinds now.left.kinds fault
FailsV2Part len now fault = LacksIn LacksUint Lengths now.left.lengths fault
FailsV2Part (rest part) now fault = FailsPart part now.left.rest fault
FailsV2Part mark now fault = ⊥

-- ---- fields

-- the field's parts stand one after another, with the keys that were known and those that are known then; its spot is that of the first
pub record StandsField (now : V2Now) (field : Found FieldValue) (next : V2Now) : Type 0 where
  pub end : V2Turn
  pub parts : PlanGives StandsV2Part (v2_plan field.type now.known) (turn_of now) (record { value = field.value; spot = next.spot; known = next.known }) end
  pub left : next.left ≡ end.left
  pub spot : field.spot ≡ next.spot

-- no field of the type stands there, for the fault that comes first
abbrev pub FailsField : FieldType → V2Now → Fault → Type 0
FailsField t now fault = PlanFails StandsV2Part FailsV2Part (v2_plan t now.known) (turn_of now) fault

-- ---- files

-- a text stands at the front of the column of strings, and behind it the lengths
pub record JoinsStrings (bytes : List ℕ) (strings : StringsLeft) : Type 0 where
  pub behind : Unread
  pub stands : StandsPart (all_of Strings bytes) (record { type = part.text; value = strings.text; spot = here (all_of Strings bytes) }) behind
  pub lengths : strings.lengths ≡ runs_from 0 behind.place behind.bytes

-- a flag and the nine columns stand at the head of a file, the strings in one text, and behind them the rest
pub record BeginsV2 (bytes : List ℕ) (start : V2Now) : Type 0 where
  pub columns : Columns
  pub behind : Unread
  pub strings : StringsLeft
  pub head : PlanGives StandsPart head_plan (all_of Head bytes) columns behind
  pub joined : JoinsStrings columns.strings strings
  pub start_is : start ≡ v2_begin columns strings behind.bytes

-- fields that give the value by the plan fill the file, and nothing is left of the rest and of the columns
pub record FillsV2 {X : Type 0} (plan : FieldPlan X) (bytes : List ℕ) (x : X) : Type 0 where
  pub start : V2Now
  pub end : V2Now
  pub begins : BeginsV2 bytes start
  pub fields : PlanGives StandsField plan start x end
  pub ended : v2_end end ≡ Ok tt

-- the head fails
abbrev pub HeadFails : List ℕ → Fault → Type 0
HeadFails bytes fault = PlanFails StandsPart FailsPart head_plan (all_of Head bytes) fault

-- behind the head, no text joins the strings
pub record TextFails (bytes : List ℕ) (fault : Fault) : Type 0 where
  pub columns : Columns
  pub behind : Unread
  pub head : PlanGives StandsPart head_plan (all_of Head bytes) columns behind
  pub fails : FailsPart part.text (all_of Strings columns.strings) fault

-- behind these, the fields fail
pub record FieldsFail {X : Type 0} (plan : FieldPlan X) (bytes : List ℕ) (fault : Fault) : Type 0 where
  pub start : V2Now
  pub begins : BeginsV2 bytes start
  pub fails : PlanFails StandsField FailsField plan start fault

-- behind these, something is left of the rest, or else of a column
pub record EndFails {X : Type 0} (plan : FieldPlan X) (bytes : List ℕ) (fault : Fault) : Type 0 where
  pub start : V2Now
  pub end : V2Now
  pub value : X
  pub begins : BeginsV2 bytes start
  pub fields : PlanGives StandsField plan start value end
  pub left : v2_end end ≡ Err fault

-- the fault is the first in the file, in reading order
abbrev pub FailsV2 : {X : Type 0} → FieldPlan X → List ℕ → Fault → Type 0
FailsV2 plan bytes fault = HeadFails bytes fault ⊎ TextFails bytes fault ⊎ FieldsFail plan bytes fault ⊎ EndFails plan bytes fault

-- the file stands for the update
abbrev pub StandsForV2 : List ℕ → UpdateValue → Type 0
StandsForV2 bytes u = FillsV2 (update_plan (Some most_structs)) bytes u

-- the fault is the first in the file of an update
abbrev pub HasFirstFaultV2 : List ℕ → Fault → Type 0
HasFirstFaultV2 bytes fault = FailsV2 (update_plan (Some most_structs)) bytes fault
