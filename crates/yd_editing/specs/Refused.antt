-- When an edit is refused: the first refusal, all judged on the state before the edit (own).
--
-- All steps are asked for one kind before any is asked for the next: NoPlace, NotHeld, InsidePair, OwnWaiting, ClockFull.
-- What is held is what is below the state vector.
use Rattle.std.specs.Prelude.{ℕ, ◌+◌, ◌^◌, Bool, false, ◌&&◌, List, [], ◌∷◌, Option, Some, None, nat_le, nat_lt, if◌then◌else◌}
use Rattle.yd_ids.specs.declared.id.Id.{Id}
use Rattle.yd_ids.specs.declared.id.Span.{Span}
use Rattle.yd_ids.specs.Ids.{is_same}
use Rattle.yd_ops.specs.Operation.{Operation}
use Rattle.yd_ops.specs.Value.{len_of}
use Rattle.yd_ops.specs.Pairs.{is_high, is_text_and}
use Rattle.yd_ops.specs.Received.{has_operation}
use Rattle.yd_meaning.specs.Names.{item_of_list}
use Rattle.yd_editing.specs.Step.{Step, make, remove, Refusal, no_place, not_held, clock_full, inside_pair, own_waiting, first_or}
use Rattle.yd_editing.specs.Basis.{Basis}

-- the first step that has a refusal
abbrev pub first_of_steps : (Step → Option Refusal) → List Step → Option Refusal
first_of_steps asks [] = None
first_of_steps asks (step ∷ steps) = first_or (asks step) (first_of_steps asks steps)

-- ---- places

-- the parent of a list is a root, or a type item that is held
abbrev pub parent_refusal : Basis → Option Id → Option Refusal
parent_refusal basis None = None
parent_refusal basis (Some y) = if basis.has_type y then None else Some (no_place y)

-- the unit is one of the list's; an absent one is the front
abbrev pub after_refusal : List Operation → Option Id → Option Refusal
after_refusal units None = None
after_refusal units (Some y) = if has_operation units y then None else Some (no_place y)

-- of a step that makes something: its list's parent, and then the unit behind which it makes
abbrev pub place_refusal : Basis → Step → Option Refusal
place_refusal basis (make name after content) = first_or (parent_refusal basis (item_of_list name)) (after_refusal (basis.document.units name) after)
place_refusal basis (remove spans) = None

-- ---- removals

-- the first id of a span that is not below the vector
abbrev pub span_refusal : (ℕ → ℕ) → Span → Option Refusal
span_refusal vector span =
    if nat_le (span.clock + span.len) (vector span.client.0) then None
    else Some (not_held (record { client = span.client; clock = if nat_le (vector span.client.0) span.clock then span.clock else vector span.client.0 }))

-- the first id of some spans that is not below it
abbrev pub spans_refusal : (ℕ → ℕ) → List Span → Option Refusal
spans_refusal vector [] = None
spans_refusal vector (span ∷ spans) = first_or (span_refusal vector span) (spans_refusal vector spans)

-- of a step that removes ids: all of them are held
abbrev pub removal_refusal : Basis → Step → Option Refusal
removal_refusal basis (make name after content) = None
removal_refusal basis (remove spans) = spans_refusal basis.vector spans

-- ---- pairs

-- whether the unit with the id is the first half of a pair
abbrev pub has_high : List Operation → Id → Bool
has_high [] x = false
has_high (o ∷ os) x = if is_same o.id x then is_text_and is_high o.content else has_high os x

-- the unit is a high half, and the client's next clock is held
abbrev pub half_refusal : Basis → List Operation → Option Id → Option Refusal
half_refusal basis units None = None
half_refusal basis units (Some y) = if has_high units y && nat_lt (y.clock + 1) (basis.vector y.client.0) then Some (inside_pair y.clock) else None

-- of a step that makes something: it parts no pair
abbrev pub pair_refusal : Basis → Step → Option Refusal
pair_refusal basis (make name after content) = half_refusal basis (basis.document.units name) after
pair_refusal basis (remove spans) = None

-- ---- the own client

-- the smallest of the own clocks that wait
abbrev pub waiting_refusal : Basis → Step → Option Refusal
waiting_refusal basis (make name after content) = elim basis.waits [ None ↦ None | Some clock ↦ Some (own_waiting clock) ]
waiting_refusal basis (remove spans) = None

-- the first step whose run would end past the last clock
abbrev pub clock_refusal : ℕ → List Step → Option Refusal
clock_refusal clock [] = None
clock_refusal clock (make name after content ∷ steps) =
    if nat_le (2 ^ 53) (clock + len_of content) then Some (clock_full clock) else clock_refusal (clock + len_of content) steps
clock_refusal clock (remove spans ∷ steps) = clock_refusal clock steps

-- ---- the first refusal of an edit

-- all steps are asked for one kind before any is asked for the next
abbrev pub refusal_of : Basis → List Step → Option Refusal
refusal_of basis steps =
    first_or (first_of_steps (place_refusal basis) steps)
    (first_or (first_of_steps (removal_refusal basis) steps)
    (first_or (first_of_steps (pair_refusal basis) steps)
    (first_or (first_of_steps (waiting_refusal basis) steps)
    (clock_refusal (basis.vector basis.client.0) steps))))
