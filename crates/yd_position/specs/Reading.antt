-- Reading positions: what is pointed at, then the association where something is left, and then that nothing follows.
use Rattle.std.specs.Prelude.{◌≡◌, ℕ, pos, List, [], ◌∷◌, Option, Some, None, Result, Ok, Err}
use Rattle.yd_num.specs.declared.fault.NumFault.{NumFault}
use Rattle.yd_num.specs.declared.fault.NumFault.TheVariants as numbers
use Rattle.yd_num.specs.declared.signed.Signed.{Signed}
use Rattle.yd_parts.specs.AnyPlan.{whole_number}
use Rattle.yd_parts.specs.Fault.{Fault}
use Rattle.yd_parts.specs.Part.{Unread, all_of, last_spot, part_at, signed}
use Rattle.yd_parts.specs.Plan.{read_by}
use Rattle.yd_parts.specs.declared.fault.Cause.{Cause}
use Rattle.yd_parts.specs.declared.fault.Cause.TheVariants as causes
use Rattle.yd_parts.specs.declared.fault.Column.TheVariants.{Whole}
use Rattle.yd_parts.specs.declared.fault.ReadError.{ReadError}
use Rattle.yd_parts.specs.declared.fault.ReadError.TheVariants as errors
use Rattle.yd_position.specs.declared.fault.PositionFault.{PositionFault}
use Rattle.yd_position.specs.declared.fault.PositionFault.TheVariants as faults
use Rattle.yd_position.specs.declared.position.Position.{Position}
use Rattle.yd_position.specs.declared.position.Target.{Target}
use Rattle.yd_position.specs.Target.{target_plan}

-- the fault of a number or a text: too large, unless it is short or no UTF-8, since no other comes of these
abbrev pub number_fault : Cause → ℕ → NumFault
number_fault causes.ShortInput at = numbers.ShortInput at
number_fault causes.BadUtf8 at = numbers.BadUtf8 at
number_fault other at = numbers.NumberTooLarge at

-- the fault of what could not be read; want of memory is passed on
abbrev pub error_of : ReadError → PositionFault
error_of errors.NoMemory = faults.NoMemory
error_of (errors.Fault cause spot) = faults.Number (number_fault cause spot.at)

-- the position, where no bytes follow its association, which begin at a place
abbrev pub ended : Target → Signed → ℕ → List ℕ → Result Position PositionFault
ended target number place [] = Ok (record { target = target; assoc = whole_number number })
ended target number place (b ∷ bytes) = Err (faults.Trailing place)

-- the position with the association that was read
abbrev pub of_assoc : Target → Result (Signed × Unread) Fault → Result Position PositionFault
of_assoc target (Ok read) = ended target read.0 read.1.place read.1.bytes
of_assoc target (Err fault) = Err (faults.Number (number_fault fault.cause fault.spot.at))

-- the position with the association that these bytes are; of no bytes it is 0
abbrev pub with_bytes : Target → Unread → List ℕ → Result Position PositionFault
with_bytes target left [] = Ok (record { target = target; assoc = pos 0 })
with_bytes target left (b ∷ bytes) = of_assoc target (part_at signed left)

-- the position with the association that is left
abbrev pub with_assoc : Target → Unread → Result Position PositionFault
with_assoc target left = with_bytes target left left.bytes

-- the position of a target, where there is one
abbrev pub with_target : Option Target → Unread → Result Position PositionFault
with_target None left = Err (faults.BadForm 0)
with_target (Some target) left = with_assoc target left

-- the position, behind its target
abbrev pub of_target : Result (Option Target × Unread) Fault → Result Position PositionFault
of_target (Ok read) = with_target read.0 read.1
of_target (Err fault) = Err (faults.Number (number_fault fault.cause fault.spot.at))

-- the position that the bytes are, or their first deviation
unfoldable pub position_reading : List ℕ → Result Position PositionFault
position_reading bytes = of_target (read_by part_at last_spot target_plan (all_of Whole bytes))

-- the answer is the one that is read; want of memory has no reason
abbrev pub MakesPosition : Result Position PositionFault → Result Position PositionFault → Type 0
MakesPosition (Err faults.NoMemory) reading = Unit {0}
MakesPosition result reading = reading ≡ result
