-- Faults: a cause and a spot, and what a call that reads answers.
use Rattle.std.specs.Prelude.{◌≡◌, Result, Ok, Err}
use Rattle.yd_num.specs.Reading.{Cause as NumCause, short_input, number_too_large, bad_utf8}
use Rattle.yd_parts.specs.declared.fault.Cause.{Cause}
use Rattle.yd_parts.specs.declared.fault.Cause.TheVariants.{ShortInput, NumberTooLarge, BadUtf8}
use Rattle.yd_parts.specs.declared.fault.ReadError.{ReadError}
use Rattle.yd_parts.specs.declared.fault.ReadError.TheVariants as errors
use Rattle.yd_parts.specs.declared.fault.Spot.{Spot}

-- what is wrong, and where
pub record Fault : Type 0 where
  pub cause : Cause
  pub spot : Spot

-- the cause of a number, a text or a byte string that cannot be read
abbrev pub of_number : NumCause → Cause
of_number short_input = ShortInput
of_number number_too_large = NumberTooLarge
of_number bad_utf8 = BadUtf8

-- the fault is the one that reading has; want of memory has no reason
abbrev pub IsFaultOf : {Y : Type 0} → Result Y Fault → ReadError → Type 0
IsFaultOf reading errors.NoMemory = Unit {0}
IsFaultOf reading (errors.Fault cause spot) = reading ≡ Err (record { cause = cause; spot = spot })

-- Ok has the value that reading gives, and leaves the reader behind it; an error is of its fault
abbrev pub Gives : {X Y S : Type 0} → (X → Y) → Result X ReadError → S → Result (Y × S) Fault → Type 0
Gives value (Ok x) new reading = reading ≡ Ok (value x, new)
Gives value (Err e) new reading = IsFaultOf reading e

-- Ok has the value that is made; an error is of its fault
abbrev pub Makes : {X Y : Type 0} → (X → Y) → Result X ReadError → Result Y Fault → Type 0
Makes value (Ok x) making = making ≡ Ok (value x)
Makes value (Err e) making = IsFaultOf making e

-- an error is of the fault that reading has
abbrev pub FailsAs : {X Y : Type 0} → Result X ReadError → Result Y Fault → Type 0
FailsAs (Ok x) reading = Unit {0}
FailsAs (Err e) reading = IsFaultOf reading e

-- the answer is not that memory was wanted
abbrev pub TakesNoMemory : {X : Type 0} → Result X ReadError → Type 0
TakesNoMemory (Ok x) = Unit {0}
TakesNoMemory (Err errors.NoMemory) = ⊥
TakesNoMemory (Err (errors.Fault cause spot)) = Unit {0}
