-- What reading a whole file answers, from what it makes, where files are read exactly; and that such a file is one thing.
use Rattle.std.proofs.Common.{◌∙◌, ℕ, List, Result, Ok, Err, sym}
use Rattle.yd_num.proofs.ReadingLemmas.{ok_value}
use Rattle.yd_parts.specs.Fault.{Fault, Makes}
use Rattle.yd_reading.specs.Answer.{AnswersFault, AnswersRightly, AnswersValue, ReadsWhole}
use Rattle.yd_reading.specs.Files.{FilesAreOne, FilesAreRead}
use Rattle.yd_parts.specs.declared.fault.ReadError.{ReadError}
use Rattle.yd_parts.specs.declared.fault.ReadError.TheVariants as errors

-- rightly
rightly_of : {X Y : Type 0} (value : X → Y) (reading : List ℕ → Result Y Fault) (Fills : List ℕ → Y → Type 0) (Fails : List ℕ → Fault → Type 0) → FilesAreRead reading Fills Fails →
    (bytes : List ℕ) (result : Result X ReadError) → Makes value result (reading bytes) → AnswersRightly value (Fills bytes) (Fails bytes) result
rightly_of value reading Fills Fails read bytes (Ok x) makes = (read.values bytes (value x)).0 makes
rightly_of value reading Fills Fails read bytes (Err errors.NoMemory) makes = tt
rightly_of value reading Fills Fails read bytes (Err (errors.Fault cause spot)) makes = (read.faults bytes (record { cause = cause; spot = spot })).0 makes

-- each value that fills the file
value_of : {X Y : Type 0} (value : X → Y) (reading : List ℕ → Result Y Fault) (Fills : List ℕ → Y → Type 0) (Fails : List ℕ → Fault → Type 0) → FilesAreRead reading Fills Fails →
    (bytes : List ℕ) (result : Result X ReadError) (y : Y) → Makes value result (reading bytes) → Fills bytes y → AnswersValue value y result
value_of value reading Fills Fails read bytes (Ok x) y makes fills = ok_value (value x) y (sym makes ∙ (read.values bytes y).1 fills)
value_of value reading Fills Fails read bytes (Err errors.NoMemory) y makes fills = tt
value_of value reading Fills Fails read bytes (Err (errors.Fault cause spot)) y makes fills = let found = (read.values bytes y).1 fills in absurd cc

-- each fault that is the first in the file
fault_of : {X Y : Type 0} (value : X → Y) (reading : List ℕ → Result Y Fault) (Fills : List ℕ → Y → Type 0) (Fails : List ℕ → Fault → Type 0) → FilesAreRead reading Fills Fails →
    (bytes : List ℕ) (result : Result X ReadError) (fault : Fault) → Makes value result (reading bytes) → Fails bytes fault → AnswersFault fault result
fault_of value reading Fills Fails read bytes (Ok x) fault makes fails = let failed = (read.faults bytes fault).1 fails in absurd cc
fault_of value reading Fills Fails read bytes (Err errors.NoMemory) fault makes fails = tt
fault_of value reading Fills Fails read bytes (Err (errors.Fault cause spot)) fault makes fails = let failed = (read.faults bytes fault).1 fails in cc

-- ---- lemmas for callers

-- the answer is what the file is
pub reads_whole : {X Y : Type 0} (value : X → Y) (reading : List ℕ → Result Y Fault) (Fills : List ℕ → Y → Type 0) (Fails : List ℕ → Fault → Type 0) → FilesAreRead reading Fills Fails →
    (bytes : List ℕ) (result : Result X ReadError) → Makes value result (reading bytes) → ReadsWhole value (Fills bytes) (Fails bytes) result
reads_whole value reading Fills Fails read bytes result makes = record {
  rightly = rightly_of value reading Fills Fails read bytes result makes;
  values = λ y. value_of value reading Fills Fails read bytes result y makes;
  faults = λ fault. fault_of value reading Fills Fails read bytes result fault makes;
}

-- a file stands for one value, or has one first fault
pub files_one : {Y : Type 0} (reading : List ℕ → Result Y Fault) (Fills : List ℕ → Y → Type 0) (Fails : List ℕ → Fault → Type 0) → FilesAreRead reading Fills Fails → FilesAreOne Fills Fails
files_one {Y} reading Fills Fails read = record {
  values = λ bytes y other one two. ok_value {E = Fault} y other (sym ((read.values bytes y).1 one) ∙ (read.values bytes other).1 two);
  faults = λ bytes fault other one two. let first = (read.faults bytes fault).1 one in let second = (read.faults bytes other).1 two in cc;
  apart = λ bytes y fault stands fails. let found = (read.values bytes y).1 stands in let failed = (read.faults bytes fault).1 fails in cc;
}
