-- What reading a message answers, from what it makes; and what a whole body makes, from what it answers.
use Rattle.std.proofs.Common.{◌∙◌, ℕ, List, Result, Ok, Err, sym}
use Rattle.yd_num.proofs.ReadingLemmas.{ok_value}
use Rattle.yd_parts.specs.Fault.{Fault, Makes}
use Rattle.yd_parts.specs.declared.fault.ReadError.{ReadError}
use Rattle.yd_parts.specs.declared.fault.ReadError.TheVariants as errors
use Rattle.yd_reading.specs.Answer.{ReadsWhole}
use Rattle.yd_reading.specs.Files.{FilesAreRead}
use Rattle.yd_sync.specs.declared.fault.MessageError.{MessageError}
use Rattle.yd_sync.specs.declared.fault.MessageError.TheVariants as refusals
use Rattle.yd_sync.specs.declared.fault.MessageFault.{MessageFault}
use Rattle.yd_sync.specs.declared.message.Message.{Message}
use Rattle.yd_sync.specs.Message.{MessageValue, message_value}
use Rattle.yd_sync.specs.MessageGrammar.{AnswersMessage, HasFirstDeviation, IsThisFault, IsThisMessage, ReadsMessage, StandsForMessage}
use Rattle.yd_sync.specs.MessageReading.{MakesMessage, message_reading}
use Rattle.yd_sync.proofs.MessageLemmas.{messages_read}

rightly_of : (bytes : List ℕ) (result : Result Message MessageError) → MakesMessage result (message_reading bytes) → AnswersMessage bytes result
rightly_of bytes (Ok m) makes = (messages_read.messages bytes (message_value m)).0 makes
rightly_of bytes (Err refusals.NoMemory) makes = tt
rightly_of bytes (Err (refusals.Fault fault)) makes = (messages_read.faults bytes fault).0 makes

message_of : (bytes : List ℕ) (result : Result Message MessageError) (m : MessageValue) → MakesMessage result (message_reading bytes) → StandsForMessage bytes m → IsThisMessage m result
message_of bytes (Ok answer) m makes stands = ok_value {E = MessageFault} (message_value answer) m (sym makes ∙ (messages_read.messages bytes m).1 stands)
message_of bytes (Err refusals.NoMemory) m makes stands = tt
message_of bytes (Err (refusals.Fault fault)) m makes stands = let found = (messages_read.messages bytes m).1 stands in absurd cc

fault_of : (bytes : List ℕ) (result : Result Message MessageError) (fault : MessageFault) → MakesMessage result (message_reading bytes) → HasFirstDeviation bytes fault → IsThisFault fault result
fault_of bytes (Ok answer) fault makes deviates = let failed = (messages_read.faults bytes fault).1 deviates in absurd cc
fault_of bytes (Err refusals.NoMemory) fault makes deviates = tt
fault_of bytes (Err (refusals.Fault other)) fault makes deviates = let failed = (messages_read.faults bytes fault).1 deviates in cc

-- ---- for callers

-- the answer is what the bytes are
pub reads_message : (bytes : List ℕ) (result : Result Message MessageError) → MakesMessage result (message_reading bytes) → ReadsMessage bytes result
reads_message bytes result makes = record {
  rightly = rightly_of bytes result makes;
  messages = λ m. message_of bytes result m makes;
  faults = λ fault. fault_of bytes result fault makes;
}

-- what is answered of a whole file is what is made of it
pub makes_whole : {X Y : Type 0} (value : X → Y) (reading : List ℕ → Result Y Fault) (Fills : List ℕ → Y → Type 0) (Fails : List ℕ → Fault → Type 0) → FilesAreRead reading Fills Fails →
    (bytes : List ℕ) (result : Result X ReadError) → ReadsWhole value (Fills bytes) (Fails bytes) result → Makes value result (reading bytes)
makes_whole value reading Fills Fails read bytes (Ok x) whole = (read.values bytes (value x)).1 whole.rightly
makes_whole value reading Fills Fails read bytes (Err errors.NoMemory) whole = tt
makes_whole value reading Fills Fails read bytes (Err (errors.Fault cause spot)) whole = (read.faults bytes (record { cause = cause; spot = spot })).1 whole.rightly
