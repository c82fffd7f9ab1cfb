-- Which bytes are a position, and what is first wrong with the others: the grammar, without reading.
use Rattle.std.specs.Prelude.{◌≡◌, ◌≢◌, ◌⊎◌, ℕ, ℤ, pos, List, [], Option, Some, None, Result, Ok, Err}
use Rattle.yd_num.specs.declared.fault.NumFault.TheVariants as numbers
use Rattle.yd_num.specs.declared.signed.Signed.{Signed}
use Rattle.yd_parts.specs.AnyPlan.{whole_number}
use Rattle.yd_parts.specs.Fault.{Fault}
use Rattle.yd_parts.specs.Part.{PartPlan, Unread, all_of, signed}
use Rattle.yd_parts.specs.PartGrammar.{FailsPart, StandsPart}
use Rattle.yd_parts.specs.Plan.{PlanFails, PlanGives, give, want}
use Rattle.yd_parts.specs.declared.fault.Cause.{Cause}
use Rattle.yd_parts.specs.declared.fault.Cause.TheVariants as causes
use Rattle.yd_parts.specs.declared.fault.Column.TheVariants.{Whole}
use Rattle.yd_position.specs.declared.fault.PositionFault.{PositionFault}
use Rattle.yd_position.specs.declared.fault.PositionFault.TheVariants as faults
use Rattle.yd_position.specs.declared.position.Position.{Position}
use Rattle.yd_position.specs.declared.position.Target.{Target}
use Rattle.yd_position.specs.Target.{target_plan}

-- ---- positions

-- a signed number
unfoldable pub assoc_plan : PartPlan Signed
assoc_plan = want signed (λ number spot. give number)

-- the bytes begin with a target, or with the number of none, and this is left behind it
abbrev pub BeginsWith : List ℕ → Option Target → Unread → Type 0
BeginsWith bytes target left = PlanGives StandsPart target_plan (all_of Whole bytes) target left

-- nothing is left, and the association is 0, or it is the number that is all that is left
abbrev pub HasAssoc : Unread → ℤ → Type 0
HasAssoc left assoc = ((left.bytes ≡ []) × (assoc ≡ pos 0))
    ⊎ ((left.bytes ≢ []) × ((number : Signed) × (rest : Unread) × PlanGives StandsPart assoc_plan left number rest × (rest.bytes ≡ []) × (assoc ≡ whole_number number)))

-- the bytes stand for the position
abbrev pub StandsForPosition : List ℕ → Position → Type 0
StandsForPosition bytes p = (left : Unread) × BeginsWith bytes (Some p.target) left × HasAssoc left p.assoc

-- ---- deviations

-- the fault of a number or a text, by its cause and its place
abbrev pub IsNumberFault : Cause → ℕ → PositionFault → Type 0
IsNumberFault causes.ShortInput at fault = fault ≡ faults.Number (numbers.ShortInput at)
IsNumberFault causes.NumberTooLarge at fault = fault ≡ faults.Number (numbers.NumberTooLarge at)
IsNumberFault causes.BadUtf8 at fault = fault ≡ faults.Number (numbers.BadUtf8 at)
IsNumberFault other at fault = ⊥

-- a part that the plan wants cannot be read
abbrev pub DeviatesIn : {X : Type 0} → PartPlan X → Unread → PositionFault → Type 0
DeviatesIn plan left fault = (inner : Fault) × PlanFails StandsPart FailsPart plan left inner × IsNumberFault inner.cause inner.spot.at fault

-- bytes follow the number that is the association
abbrev pub TrailsBehind : Unread → PositionFault → Type 0
TrailsBehind left fault = (number : Signed) × (rest : Unread) × PlanGives StandsPart assoc_plan left number rest × (rest.bytes ≢ []) × (fault ≡ faults.Trailing rest.place)

-- the first deviation behind a target, or where there is none
abbrev pub DeviatesBehind : Option Target → Unread → PositionFault → Type 0
DeviatesBehind None left fault = fault ≡ faults.BadForm 0
DeviatesBehind (Some target) left fault = (left.bytes ≢ []) × (DeviatesIn assoc_plan left fault ⊎ TrailsBehind left fault)

-- the fault is the first deviation of the bytes, in reading order
abbrev pub HasFirstDeviation : List ℕ → PositionFault → Type 0
HasFirstDeviation bytes fault =
    DeviatesIn target_plan (all_of Whole bytes) fault ⊎ ((target : Option Target) × (left : Unread) × BeginsWith bytes target left × DeviatesBehind target left fault)

-- ---- answers

-- a position that is answered is the one that the bytes stand for, and a fault is the first deviation
abbrev pub AnswersPosition : List ℕ → Result Position PositionFault → Type 0
AnswersPosition bytes (Ok p) = StandsForPosition bytes p
AnswersPosition bytes (Err faults.NoMemory) = Unit {0}
AnswersPosition bytes (Err fault) = HasFirstDeviation bytes fault

-- the answer is this one, unless a growth found no memory
abbrev pub IsThisAnswer : Result Position PositionFault → Result Position PositionFault → Type 0
IsThisAnswer answer (Err faults.NoMemory) = Unit {0}
IsThisAnswer answer result = result ≡ answer

-- the answer is what the bytes are, in both directions: the position that they stand for, or their first deviation
pub record ReadsPosition (bytes : List ℕ) (result : Result Position PositionFault) : Type 0 where
  pub rightly : AnswersPosition bytes result
  pub positions : (p : Position) → StandsForPosition bytes p → IsThisAnswer (Ok p) result
  pub faults : (fault : PositionFault) → HasFirstDeviation bytes fault → IsThisAnswer (Err fault) result
