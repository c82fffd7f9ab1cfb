-- Reading messages: the numbers and the body, then what the body is, and then that nothing follows.
use Rattle.std.specs.Prelude.{◌≡◌, ◌≢◌, ℕ, List, [], ◌∷◌, Result, Ok, Err}
use Rattle.yd_parts.specs.Fault.{Fault}
use Rattle.yd_parts.specs.Part.{Unread, all_of, last_spot, part_at}
use Rattle.yd_parts.specs.Plan.{read_by}
use Rattle.yd_parts.specs.declared.fault.Cause.{Cause}
use Rattle.yd_parts.specs.declared.fault.Cause.TheVariants as causes
use Rattle.yd_parts.specs.declared.fault.Column.TheVariants.{Whole}
use Rattle.yd_parts.specs.declared.fault.ReadError.{ReadError}
use Rattle.yd_parts.specs.declared.fault.ReadError.TheVariants as errors
use Rattle.yd_v1.specs.Reading.{v1_reading, v1_whole, vector_reading}
use Rattle.yd_sync.specs.declared.entry.AwareEntry.{AwareEntry}
use Rattle.yd_sync.specs.declared.fault.MessageError.{MessageError}
use Rattle.yd_sync.specs.declared.fault.MessageError.TheVariants as refusals
use Rattle.yd_sync.specs.declared.fault.MessageFault.{MessageFault}
use Rattle.yd_sync.specs.declared.fault.MessageFault.TheVariants.{BadMessage, Inner, NumberTooLarge, ShortInput, Trailing}
use Rattle.yd_sync.specs.declared.kind.Kind.{Kind}
use Rattle.yd_sync.specs.declared.kind.Kind.TheVariants as kinds
use Rattle.yd_sync.specs.declared.message.Message.{Message}
use Rattle.yd_sync.specs.Entry.{aware_plan}
use Rattle.yd_sync.specs.Envelope.{envelope_plan}
use Rattle.yd_sync.specs.Message.{MessageValue, aware, auth, change, message_value, query, step1, step2}

-- ---- faults

-- the fault of a number or a byte string of the message: it is short, and else too large, since no other comes of these
abbrev pub outer_fault : Cause → ℕ → MessageFault
outer_fault causes.ShortInput at = ShortInput at
outer_fault other at = NumberTooLarge at

-- the same of an error; want of memory is passed on
abbrev pub outer_error : ReadError → MessageError
outer_error errors.NoMemory = refusals.NoMemory
outer_error (errors.Fault cause spot) = refusals.Fault (outer_fault cause spot.at)

-- the error of a body, whose spot counts from the body's first byte
abbrev pub inner_error : ReadError → MessageError
inner_error errors.NoMemory = refusals.NoMemory
inner_error (errors.Fault cause spot) = refusals.Fault (Inner cause spot)

-- ---- reading

-- the entries that a body is, or the first fault in it
abbrev pub aware_reading : List ℕ → Result (List AwareEntry) Fault
aware_reading bytes = v1_whole aware_plan bytes

-- the message, where no bytes follow it, which begin at a place
abbrev pub ended : MessageValue → ℕ → List ℕ → Result MessageValue MessageFault
ended message place [] = Ok message
ended message place (b ∷ bytes) = Err (Trailing place)

-- the message that is made of what was read of its body
abbrev pub of_body : {X : Type 0} → (X → MessageValue) → Result X Fault → Unread → Result MessageValue MessageFault
of_body make (Ok x) left = ended (make x) left.place left.bytes
of_body make (Err fault) left = Err (Inner fault.cause fault.spot)

-- the message of a kind with a body, behind which this is left
abbrev pub message_of : Kind → List ℕ → Unread → Result MessageValue MessageFault
message_of kinds.Step1 body left = of_body step1 (vector_reading body) left
message_of kinds.Step2 body left = of_body step2 (v1_reading body) left
message_of kinds.Change body left = of_body change (v1_reading body) left
message_of kinds.Aware body left = of_body aware (aware_reading body) left
message_of kinds.Auth body left = Ok (auth left.bytes)
message_of kinds.Query body left = ended query left.place left.bytes
message_of (kinds.Other number) body left = Err (BadMessage number)

-- the message, behind its numbers and its body
abbrev pub of_envelope : Result ((Kind × List ℕ) × Unread) Fault → Result MessageValue MessageFault
of_envelope (Ok read) = message_of read.0.0 read.0.1 read.1
of_envelope (Err fault) = Err (outer_fault fault.cause fault.spot.at)

-- the message that the bytes are, or their first deviation
unfoldable pub message_reading : List ℕ → Result MessageValue MessageFault
message_reading bytes = of_envelope (read_by part_at last_spot envelope_plan (all_of Whole bytes))

-- Ok has the message that is read, and a fault is the one that is read; want of memory has no reason
abbrev pub MakesMessage : Result Message MessageError → Result MessageValue MessageFault → Type 0
MakesMessage (Ok m) reading = reading ≡ Ok (message_value m)
MakesMessage (Err refusals.NoMemory) reading = Unit {0}
MakesMessage (Err (refusals.Fault fault)) reading = reading ≡ Err fault

-- bytes are left, and the error says where they begin
abbrev pub TrailsBehind : Unread → MessageError → Type 0
TrailsBehind left e = (left.bytes ≢ []) × (e ≡ refusals.Fault (Trailing left.place))
