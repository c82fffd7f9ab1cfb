-- What a close says, and what a fault of a message is called: the name of what is wrong first (own).
use Rattle.std.specs.Prelude.{ℕ, List, codes}
use Rattle.yd_parts.specs.declared.fault.Cause.{Cause}
use Rattle.yd_parts.specs.declared.fault.Cause.TheVariants as causes
use Rattle.yd_sync.specs.declared.fault.MessageFault.{MessageFault}
use Rattle.yd_sync.specs.declared.fault.MessageFault.TheVariants.{ShortInput, NumberTooLarge, BadMessage, Trailing, Inner}
use Rattle.yd_hub.specs.declared.action.CloseCause.{CloseCause}
use Rattle.yd_hub.specs.declared.action.CloseCause.TheVariants.{Bad, TooManySessions}

-- the name of a cause
abbrev pub cause_name : Cause → List ℕ
cause_name causes.ShortInput = codes "ShortInput"
cause_name causes.NumberTooLarge = codes "NumberTooLarge"
cause_name causes.BadUtf8 = codes "BadUtf8"
cause_name causes.BadInfo = codes "BadInfo"
cause_name causes.Subdocument = codes "Subdocument"
cause_name causes.BadType = codes "BadType"
cause_name causes.BadTag = codes "BadTag"
cause_name causes.TooDeep = codes "TooDeep"
cause_name causes.BadJson = codes "BadJson"
cause_name causes.NumberNotCarried = codes "NumberNotCarried"
cause_name causes.EmptyStruct = codes "EmptyStruct"
cause_name causes.ClockTooLarge = codes "ClockTooLarge"
cause_name causes.Trailing = codes "Trailing"
cause_name causes.BadParent = codes "BadParent"
cause_name causes.BadFlag = codes "BadFlag"
cause_name causes.HalfPair = codes "HalfPair"
cause_name causes.ColumnLeft = codes "ColumnLeft"
cause_name causes.TooManyStructs = codes "TooManyStructs"

-- the name of a message's fault; of a body's it is that of the cause
abbrev pub fault_name : MessageFault → List ℕ
fault_name (ShortInput at) = codes "ShortInput"
fault_name (NumberTooLarge at) = codes "NumberTooLarge"
fault_name (BadMessage number) = codes "BadMessage"
fault_name (Trailing at) = codes "Trailing"
fault_name (Inner cause spot) = cause_name cause

-- what the close of a session says
abbrev pub reason_of : CloseCause → List ℕ
reason_of (Bad fault) = fault_name fault
reason_of TooManySessions = codes "TooManySessions"
