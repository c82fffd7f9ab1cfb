-- What reading a position answers, from what it makes.
use Rattle.std.proofs.Common.{◌≡◌, ◌∙◌, ℕ, List, Result, Ok, Err, sym}
use Rattle.yd_position.specs.declared.fault.PositionFault.{PositionFault}
use Rattle.yd_position.specs.declared.fault.PositionFault.TheVariants as faults
use Rattle.yd_position.specs.declared.position.Position.{Position}
use Rattle.yd_position.specs.Grammar.{AnswersPosition, IsThisAnswer, ReadsPosition}
use Rattle.yd_position.specs.Reading.{MakesPosition, position_reading}
use Rattle.yd_position.proofs.PositionLemmas.{positions_read}

rightly_of : (bytes : List ℕ) (result : Result Position PositionFault) → MakesPosition result (position_reading bytes) → AnswersPosition bytes result
rightly_of bytes (Ok p) makes = (positions_read.positions bytes p).0 makes
rightly_of bytes (Err faults.NoMemory) makes = tt
rightly_of bytes (Err (faults.Number fault)) makes = (positions_read.faults bytes (faults.Number fault)).0 makes
rightly_of bytes (Err (faults.BadForm place)) makes = (positions_read.faults bytes (faults.BadForm place)).0 makes
rightly_of bytes (Err (faults.Trailing place)) makes = (positions_read.faults bytes (faults.Trailing place)).0 makes

this_of : (reading answer result : Result Position PositionFault) → reading ≡ answer → MakesPosition result reading → IsThisAnswer answer result
this_of reading answer (Ok p) is makes = sym makes ∙ is
this_of reading answer (Err faults.NoMemory) is makes = tt
this_of reading answer (Err (faults.Number fault)) is makes = sym makes ∙ is
this_of reading answer (Err (faults.BadForm place)) is makes = sym makes ∙ is
this_of reading answer (Err (faults.Trailing place)) is makes = sym makes ∙ is

-- the answer is what the bytes are
pub reads_position : (bytes : List ℕ) (result : Result Position PositionFault) → MakesPosition result (position_reading bytes) → ReadsPosition bytes result
reads_position bytes result makes = record {
  rightly = rightly_of bytes result makes;
  positions = λ p stands. this_of (position_reading bytes) (Ok p) result ((positions_read.positions bytes p).1 stands) makes;
  faults = λ fault deviates. this_of (position_reading bytes) (Err fault) result ((positions_read.faults bytes fault).1 deviates) makes;
}
