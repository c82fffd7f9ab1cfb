-- What contracts see of the steps of an edit, and of a fault.
use Rattle.std.specs.Prelude.{◌≡◌, ◌<◌, ℕ, List, map, Option, Some, None, IfSome}
use Rattle.yd_ids.specs.declared.id.Span.{Span}
use Rattle.yd_ids.specs.Id.{IsId}
use Rattle.yd_ids.specs.Set.{union_of}
use Rattle.yd_ops.specs.Value.{len_of}
use Rattle.yd_ops.specs.Valid.{IsValidContent, IsParent}
use Rattle.yd_ops.specs.View.{content_value}
use Rattle.yd_editing.specs.Law.{IsMakeable}
use Rattle.yd_editing.specs.Step.{Step, make, remove, Refusal, no_place, not_held, clock_full, inside_pair, own_waiting, past_end, no_key}
use Rattle.yd_making.specs.declared.step.Step.{Step as StepGiven}
use Rattle.yd_making.specs.declared.step.Step.TheVariants.{Make, Remove}
use Rattle.yd_making.specs.declared.fault.EditFault.{EditFault}
use Rattle.yd_making.specs.declared.fault.EditFault.TheVariants.{NoMemory, NoPlace, NotHeld, ClockFull, InsidePair, OwnWaiting, PastEnd, NoKey, Nothing}

-- ---- steps

-- a step, with the value of its content
abbrev pub step_value : StepGiven → Step
step_value (Make list after content) = make list after (content_value content)
step_value (Remove spans) = remove spans

-- steps, each so
abbrev pub steps_value : List StepGiven → List Step
steps_value steps = map step_value steps

-- a step that makes something has a valid content of at least one unit, none of them spelled deleted, and ids in range
abbrev pub IsProper : Step → Type 0
IsProper (make name after content) = IsValidContent content × (0 < len_of content) × IsMakeable content × IsParent name.parent × IfSome after IsId
IsProper (remove spans) = Unit {0}

-- how many units a step makes
abbrev pub len_of_step : Step → ℕ
len_of_step (make name after content) = len_of content
len_of_step (remove spans) = 0

-- the ids with those that a step removes
abbrev pub removed_with : Step → List Span → List Span
removed_with (make name after content) spans = spans
removed_with (remove more) spans = union_of more spans

-- ---- faults

-- the fault that says why an edit is refused
abbrev pub fault_of : Refusal → EditFault
fault_of (no_place id) = NoPlace id
fault_of (not_held id) = NotHeld id
fault_of (clock_full clock) = ClockFull clock
fault_of (inside_pair place) = InsidePair place
fault_of (own_waiting clock) = OwnWaiting clock
fault_of (past_end length) = PastEnd length
fault_of no_key = NoKey

-- the fault of the first refusal, where there is one
abbrev pub fault_given : Option Refusal → Option EditFault
fault_given None = None
fault_given (Some refusal) = Some (fault_of refusal)

-- a fault is want of memory, or says why the edit is refused
abbrev pub IsCause : EditFault → Option Refusal → Type 0
IsCause NoMemory refusal = Unit {0}
IsCause (NoPlace id) refusal = refusal ≡ Some (no_place id)
IsCause (NotHeld id) refusal = refusal ≡ Some (not_held id)
IsCause (ClockFull clock) refusal = refusal ≡ Some (clock_full clock)
IsCause (InsidePair place) refusal = refusal ≡ Some (inside_pair place)
IsCause (OwnWaiting clock) refusal = refusal ≡ Some (own_waiting clock)
IsCause (PastEnd length) refusal = refusal ≡ Some (past_end length)
IsCause NoKey refusal = refusal ≡ Some no_key
IsCause Nothing refusal = ⊥

-- of a step, where so much of the own client waits
abbrev pub waits_refusal : Option ℕ → Step → Option Refusal
waits_refusal waits (make name after content) = elim waits [ None ↦ None | Some clock ↦ Some (own_waiting clock) ]
waits_refusal waits (remove spans) = None
