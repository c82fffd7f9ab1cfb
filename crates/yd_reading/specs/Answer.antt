-- What reading a whole file answers, whatever the format.
use Rattle.std.specs.Prelude.{◌≡◌, Result, Ok, Err}
use Rattle.yd_parts.specs.Fault.{Fault}
use Rattle.yd_parts.specs.declared.fault.ReadError.{ReadError}
use Rattle.yd_parts.specs.declared.fault.ReadError.TheVariants as errors

-- the answer is this value, unless a growth found no memory
abbrev pub AnswersValue : {X Y : Type 0} → (X → Y) → Y → Result X ReadError → Type 0
AnswersValue value y (Ok x) = value x ≡ y
AnswersValue value y (Err errors.NoMemory) = Unit {0}
AnswersValue value y (Err (errors.Fault cause spot)) = ⊥

-- the answer is this fault, unless a growth found no memory
abbrev pub AnswersFault : {X : Type 0} → Fault → Result X ReadError → Type 0
AnswersFault fault (Ok x) = ⊥
AnswersFault fault (Err errors.NoMemory) = Unit {0}
AnswersFault fault (Err (errors.Fault cause spot)) = fault ≡ record { cause = cause; spot = spot }

-- a value that is answered fills the file, and a fault is the first in it
abbrev pub AnswersRightly : {X Y : Type 0} → (X → Y) → (Y → Type 0) → (Fault → Type 0) → Result X ReadError → Type 0
AnswersRightly value Fills Fails (Ok x) = Fills (value x)
AnswersRightly value Fills Fails (Err errors.NoMemory) = Unit {0}
AnswersRightly value Fills Fails (Err (errors.Fault cause spot)) = Fails (record { cause = cause; spot = spot })

-- the answer is what the file is, in both directions: the value that fills it, or the first fault in it; want of memory has no reason
pub record ReadsWhole {X Y : Type 0} (value : X → Y) (Fills : Y → Type 0) (Fails : Fault → Type 0) (result : Result X ReadError) : Type 0 where
  pub rightly : AnswersRightly value Fills Fails result
  pub values : (y : Y) → Fills y → AnswersValue value y result
  pub faults : (fault : Fault) → Fails fault → AnswersFault fault result
