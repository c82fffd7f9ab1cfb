-- Which files in V1 stand for an update, and what is first wrong with the others (Yjs 13, update format V1): the grammar, without reading.
use Rattle.std.specs.Prelude.{◌≡◌, ◌≢◌, ◌⊎◌, ℕ, List, [], None}
use Rattle.yd_ops.specs.Value.{UpdateValue}
use Rattle.yd_parts.specs.Fault.{Fault}
use Rattle.yd_fields.specs.Field.{FieldPlan, FieldType, FieldValue}
use Rattle.yd_parts.specs.Part.{here}
use Rattle.yd_parts.specs.PartGrammar.{FailsPart, StandsPart}
use Rattle.yd_parts.specs.Plan.{Found, PlanFails, PlanGives}
use Rattle.yd_fields.specs.UpdatePlan.{update_plan}
use Rattle.yd_v1.specs.Reading.{V1Left, v1_plan, v1_start}
use Rattle.yd_parts.specs.declared.fault.Cause.TheVariants.{Trailing}

-- the field's parts stand at the front of what is left; its spot is that of the first
pub record StandsField (now : V1Left) (field : Found FieldValue) (next : V1Left) : Type 0 where
  pub parts : PlanGives StandsPart (v1_plan field.type) now.left field.value next.left
  pub spot : field.spot ≡ here now.left
  pub next_spot : next.spot ≡ here now.left

-- no field of the type stands there, for the fault that comes first
abbrev pub FailsField : FieldType → V1Left → Fault → Type 0
FailsField t now fault = PlanFails StandsPart FailsPart (v1_plan t) now.left fault

-- fields that give the value by the plan stand in the file from its first byte on, and this is left behind them
abbrev pub BeginsV1 : {X : Type 0} → FieldPlan X → List ℕ → X → V1Left → Type 0
BeginsV1 plan bytes x end = PlanGives StandsField plan (v1_start bytes) x end

-- fields that give the value by the plan fill the file
abbrev pub FillsV1 : {X : Type 0} → FieldPlan X → List ℕ → X → Type 0
FillsV1 plan bytes x = (end : V1Left) × BeginsV1 plan bytes x end × (end.left.bytes ≡ [])

-- bytes follow the last field
abbrev pub TrailsV1 : {X : Type 0} → FieldPlan X → List ℕ → Fault → Type 0
TrailsV1 {X} plan bytes fault = (x : X) × (end : V1Left) × BeginsV1 plan bytes x end × (end.left.bytes ≢ []) × (fault ≡ record { cause = Trailing; spot = here end.left })

-- the fault is the first in the file, in reading order
abbrev pub FailsV1 : {X : Type 0} → FieldPlan X → List ℕ → Fault → Type 0
FailsV1 plan bytes fault = PlanFails StandsField FailsField plan (v1_start bytes) fault ⊎ TrailsV1 plan bytes fault

-- the file stands for the update
abbrev pub StandsForV1 : List ℕ → UpdateValue → Type 0
StandsForV1 bytes u = FillsV1 (update_plan None) bytes u

-- the fault is the first in the file of an update
abbrev pub HasFirstFaultV1 : List ℕ → Fault → Type 0
HasFirstFaultV1 bytes fault = FailsV1 (update_plan None) bytes fault
