-- What is known of a new connection, and of what is sent on one (own).
use Rattle.std.specs.Prelude.{◌≡◌, ℕ, List, [], Option, Some, None, Bool, true, false, ⊤}
use Rattle.std.specs.IoError.{error_kind}
use Rattle.std.specs.declared.io.ErrorKind.TheVariants as Kind
use Rattle.tungstenite.specs.Connection.{write_step, is_server, can_write}
use Rattle.tungstenite.specs.Content.{binary}
use Rattle.tungstenite.specs.Socket.{Socket, Writes}
use Rattle.tungstenite.specs.declared.error.Error.{Error}
use Rattle.tungstenite.specs.declared.error.Error.TheVariants.{Io, OutOfMemory}

-- the error says that a growth found no memory
abbrev pub TellsNoMemory : Error → Type 0
TellsNoMemory OutOfMemory = ⊤
TellsNoMemory (Io cause) = error_kind cause ≡ Kind.OutOfMemory
TellsNoMemory error = ⊥

module _ {S : Type 0} where
  -- a connection on this side whose handshake is done: it takes messages up to the limit, nothing of
  -- a message came, and nothing waits to be sent
  pub record IsNewLine (serves : Bool) (line : Socket S) : Type 0 where
    pub side : is_server line.conn.role ≡ serves
    pub active : can_write line.conn.state ≡ true
    pub begun : line.conn.fragments ≡ None
    pub waits : line.output ≡ []
    pub most_message : line.conn.config.max_message_size ≡ Some 268435520
    pub most_frame : line.conn.config.max_frame_size ≡ Some 268435520
    pub masked : line.conn.config.accept_unmasked_frames ≡ false

  -- the bytes went whole to the stream as one binary message, and nothing else did but what waited
  abbrev pub SendsWhole : (S → Option (List ℕ)) → Socket S → Socket S → List ℕ → Type 0
  SendsWhole contents old new bytes = Writes contents old new (write_step old.conn (binary bytes)) × (new.output ≡ [])
