-- What is said of what a connection gave (own).
use Rattle.std.specs.Prelude.{ℕ, List, Option, Ok}
use Rattle.tungstenite.specs.Socket.{Socket, Reads}
use Rattle.tungstenite.specs.declared.message.Message.TheVariants.{Binary}
use Rattle.yd_lines.specs.declared.line.Given.{Given}
use Rattle.yd_lines.specs.declared.line.Given.TheVariants.{Nothing, Something, Message, Ended}

-- a message is one that the socket's frames spell, as a binary one, of bytes that came in their
-- order; of all else nothing is said
abbrev pub IsWhatCame : {S : Type 0} → (S → Option (List ℕ)) → Socket S → Socket S → Given → Type 0
IsWhatCame remaining old new (Message bytes) = Reads remaining old new (Ok (Binary bytes))
IsWhatCame remaining old new Nothing = Unit {0}
IsWhatCame remaining old new Something = Unit {0}
IsWhatCame remaining old new Ended = Unit {0}
