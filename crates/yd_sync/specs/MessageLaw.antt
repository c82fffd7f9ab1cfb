-- The laws of messages, as statements.
use Rattle.std.specs.Prelude.{◌≡◌, ◌↔◌, ℕ, List, Ok, Err}
use Rattle.yd_sync.specs.declared.fault.MessageFault.{MessageFault}
use Rattle.yd_sync.specs.Message.{MessageValue}
use Rattle.yd_sync.specs.MessageGrammar.{HasFirstDeviation, StandsForMessage}
use Rattle.yd_sync.specs.MessageReading.{message_reading}

-- bytes stand for the message that is read of them, and their first deviation is the one that is read
pub record MessagesAreRead : Type 0 where
  pub messages : (bytes : List ℕ) (m : MessageValue) → (message_reading bytes ≡ Ok m) ↔ StandsForMessage bytes m
  pub faults : (bytes : List ℕ) (fault : MessageFault) → (message_reading bytes ≡ Err fault) ↔ HasFirstDeviation bytes fault

-- no bytes stand for two messages, none have two first deviations, and none have both a message and a deviation
pub record MessagesAreOne : Type 0 where
  pub messages : (bytes : List ℕ) (m other : MessageValue) → StandsForMessage bytes m → StandsForMessage bytes other → m ≡ other
  pub faults : (bytes : List ℕ) (fault other : MessageFault) → HasFirstDeviation bytes fault → HasFirstDeviation bytes other → fault ≡ other
  pub apart : (bytes : List ℕ) (m : MessageValue) (fault : MessageFault) → StandsForMessage bytes m → HasFirstDeviation bytes fault → ⊥
