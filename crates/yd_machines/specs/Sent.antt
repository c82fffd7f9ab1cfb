-- Messages that are to be sent, as plain data.
use Rattle.std.specs.Prelude.{List, [], ◌∷◌}
use Rattle.yd_words.specs.Each.{Each}
use Rattle.yd_sync.specs.declared.message.Message.{Message}
use Rattle.yd_sync.specs.Message.{IsValidMessage, MessageValue, message_value}
use Rattle.yd_machines.specs.declared.list.MessageList.{MessageList}

-- the plain data of messages
abbrev pub values_of : List Message → List MessageValue
values_of [] = []
values_of (message ∷ messages) = message_value message ∷ values_of messages

-- the messages of a list, as they lie in memory
abbrev pub messages_in : MessageList → List Message
messages_in list = list.messages.items

-- what they stand for
abbrev pub sent_in : MessageList → List MessageValue
sent_in list = values_of (messages_in list)

-- each is valid, so it can be written
abbrev pub AreSendable : MessageList → Type 0
AreSendable list = Each IsValidMessage (sent_in list)
