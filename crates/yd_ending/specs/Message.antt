-- The line on err of a message that is refused (own).
use Rattle.std.specs.Prelude.{ℕ, List, ◌++◌, codes, decimal}
use Rattle.yd_sync.specs.declared.fault.MessageFault.{MessageFault}
use Rattle.yd_sync.specs.declared.fault.MessageFault.TheVariants.{ShortInput, NumberTooLarge, BadMessage, Trailing, Inner}
use Rattle.yd_ending.specs.Reason.{fault_text}
use Rattle.yd_ending.specs.Script.{with_number}

-- why a message is refused, as it is told: what is wrong first, with its number or its place
abbrev pub message_text : MessageFault → List ℕ
message_text (ShortInput at) = with_number (codes "ShortInput") at
message_text (NumberTooLarge at) = with_number (codes "NumberTooLarge") at
message_text (BadMessage number) = with_number (codes "BadMessage") number
message_text (Trailing at) = with_number (codes "Trailing") at
message_text (Inner cause spot) = fault_text (record { cause = cause; spot = spot })

-- the message with the number, counted from 1, is refused
abbrev pub refused_message_line : ℕ → MessageFault → List ℕ
refused_message_line number fault = codes "refused message " ++ decimal number ++ codes " " ++ message_text fault ++ codes "\n"
