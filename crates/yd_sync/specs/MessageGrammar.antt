-- Which bytes are a message, and what is first wrong with the others: the grammar, without reading.
--
-- first  then   body
-- 0      0      a byte string: a state vector        (step 1)
-- 0      1      a byte string: an update in V1       (step 2)
-- 0      2      a byte string: an update in V1       (change)
-- 1             a byte string: entries               (who is there)
-- 2             all bytes that follow                (permission)
-- 3                                                  (who is asked for)
use Rattle.std.specs.Prelude.{◌≡◌, ◌≢◌, ◌⊎◌, ℕ, List, [], Result, Ok, Err}
use Rattle.yd_fields.specs.UpdatePlan.{vector_plan}
use Rattle.yd_parts.specs.Fault.{Fault}
use Rattle.yd_parts.specs.Part.{Unread, all_of}
use Rattle.yd_parts.specs.PartGrammar.{FailsPart, StandsPart}
use Rattle.yd_parts.specs.Plan.{PlanFails, PlanGives}
use Rattle.yd_parts.specs.declared.fault.Cause.{Cause}
use Rattle.yd_parts.specs.declared.fault.Cause.TheVariants as causes
use Rattle.yd_parts.specs.declared.fault.Column.TheVariants.{Whole}
use Rattle.yd_v1.specs.Grammar.{FailsV1, FillsV1, HasFirstFaultV1, StandsForV1}
use Rattle.yd_sync.specs.declared.fault.MessageError.{MessageError}
use Rattle.yd_sync.specs.declared.fault.MessageError.TheVariants as refusals
use Rattle.yd_sync.specs.declared.fault.MessageFault.{MessageFault}
use Rattle.yd_sync.specs.declared.fault.MessageFault.TheVariants.{BadMessage, Inner, NumberTooLarge, ShortInput, Trailing}
use Rattle.yd_sync.specs.declared.kind.Kind.{Kind}
use Rattle.yd_sync.specs.declared.kind.Kind.TheVariants as kinds
use Rattle.yd_sync.specs.declared.message.Message.{Message}
use Rattle.yd_sync.specs.Entry.{aware_plan}
use Rattle.yd_sync.specs.Envelope.{envelope_plan}
use Rattle.yd_sync.specs.Message.{MessageValue, aware, auth, change, message_value, query, step1, step2}

-- ---- messages

-- the bytes begin with the numbers of a kind and with its body, and this is left behind them
abbrev pub BeginsAs : List ℕ → Kind → List ℕ → Unread → Type 0
BeginsAs bytes kind body left = PlanGives StandsPart envelope_plan (all_of Whole bytes) (kind, body) left

-- the body stands for what the message is made of, and nothing follows
abbrev pub IsMadeOf : {X : Type 0} → (X → MessageValue) → (List ℕ → X → Type 0) → List ℕ → Unread → MessageValue → Type 0
IsMadeOf {X} make Stands body left m = (x : X) × Stands body x × (left.bytes ≡ []) × (m ≡ make x)

-- the message of the kind, with the body, behind which this is left
abbrev pub IsOfKind : Kind → List ℕ → Unread → MessageValue → Type 0
IsOfKind kinds.Step1 body left m = IsMadeOf step1 (FillsV1 vector_plan) body left m
IsOfKind kinds.Step2 body left m = IsMadeOf step2 StandsForV1 body left m
IsOfKind kinds.Change body left m = IsMadeOf change StandsForV1 body left m
IsOfKind kinds.Aware body left m = IsMadeOf aware (FillsV1 aware_plan) body left m
IsOfKind kinds.Auth body left m = m ≡ auth left.bytes
IsOfKind kinds.Query body left m = (left.bytes ≡ []) × (m ≡ query)
IsOfKind (kinds.Other number) body left m = ⊥

-- the bytes stand for the message
abbrev pub StandsForMessage : List ℕ → MessageValue → Type 0
StandsForMessage bytes m = (kind : Kind) × (body : List ℕ) × (left : Unread) × BeginsAs bytes kind body left × IsOfKind kind body left m

-- ---- deviations

-- bytes follow, and this says where
abbrev pub TrailsAt : Unread → MessageFault → Type 0
TrailsAt left fault = (left.bytes ≢ []) × (fault ≡ Trailing left.place)

-- the body has a first fault, or it stands for something and bytes follow
abbrev pub DeviatesAs : {X : Type 0} → (List ℕ → X → Type 0) → (List ℕ → Fault → Type 0) → List ℕ → Unread → MessageFault → Type 0
DeviatesAs {X} Stands Fails body left fault =
    ((inner : Fault) × Fails body inner × (fault ≡ Inner inner.cause inner.spot)) ⊎ ((x : X) × Stands body x × TrailsAt left fault)

-- the first deviation behind the numbers and the body of a kind
abbrev pub DeviatesOfKind : Kind → List ℕ → Unread → MessageFault → Type 0
DeviatesOfKind kinds.Step1 body left fault = DeviatesAs (FillsV1 vector_plan) (FailsV1 vector_plan) body left fault
DeviatesOfKind kinds.Step2 body left fault = DeviatesAs StandsForV1 HasFirstFaultV1 body left fault
DeviatesOfKind kinds.Change body left fault = DeviatesAs StandsForV1 HasFirstFaultV1 body left fault
DeviatesOfKind kinds.Aware body left fault = DeviatesAs (FillsV1 aware_plan) (FailsV1 aware_plan) body left fault
DeviatesOfKind kinds.Auth body left fault = ⊥
DeviatesOfKind kinds.Query body left fault = TrailsAt left fault
DeviatesOfKind (kinds.Other number) body left fault = fault ≡ BadMessage number

-- the fault of a number or a byte string in front, which is short or too large
abbrev pub IsFrontFault : Cause → ℕ → MessageFault → Type 0
IsFrontFault causes.ShortInput at fault = fault ≡ ShortInput at
IsFrontFault causes.NumberTooLarge at fault = fault ≡ NumberTooLarge at
IsFrontFault other at fault = ⊥

-- a number or the byte string of the body cannot be read
abbrev pub DeviatesInFront : List ℕ → MessageFault → Type 0
DeviatesInFront bytes fault =
    (outer : Fault) × PlanFails StandsPart FailsPart envelope_plan (all_of Whole bytes) outer × IsFrontFault outer.cause outer.spot.at fault

-- the fault is the first deviation of the bytes, in reading order
abbrev pub HasFirstDeviation : List ℕ → MessageFault → Type 0
HasFirstDeviation bytes fault =
    DeviatesInFront bytes fault ⊎ ((kind : Kind) × (body : List ℕ) × (left : Unread) × BeginsAs bytes kind body left × DeviatesOfKind kind body left fault)

-- ---- answers

-- a message that is answered is the one that the bytes stand for, and a fault is the first deviation
abbrev pub AnswersMessage : List ℕ → Result Message MessageError → Type 0
AnswersMessage bytes (Ok m) = StandsForMessage bytes (message_value m)
AnswersMessage bytes (Err refusals.NoMemory) = Unit {0}
AnswersMessage bytes (Err (refusals.Fault fault)) = HasFirstDeviation bytes fault

-- the answer is this message, unless a growth found no memory
abbrev pub IsThisMessage : MessageValue → Result Message MessageError → Type 0
IsThisMessage m (Ok answer) = message_value answer ≡ m
IsThisMessage m (Err refusals.NoMemory) = Unit {0}
IsThisMessage m (Err (refusals.Fault fault)) = ⊥

-- the answer is this fault, unless a growth found no memory
abbrev pub IsThisFault : MessageFault → Result Message MessageError → Type 0
IsThisFault fault (Ok answer) = ⊥
IsThisFault fault (Err refusals.NoMemory) = Unit {0}
IsThisFault fault (Err (refusals.Fault other)) = other ≡ fault

-- the answer is what the bytes are, in both directions: the message that they stand for, or their first deviation
pub record ReadsMessage (bytes : List ℕ) (result : Result Message MessageError) : Type 0 where
  pub rightly : AnswersMessage bytes result
  pub messages : (m : MessageValue) → StandsForMessage bytes m → IsThisMessage m result
  pub faults : (fault : MessageFault) → HasFirstDeviation bytes fault → IsThisFault fault result
