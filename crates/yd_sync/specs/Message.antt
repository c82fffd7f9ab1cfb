-- Messages as plain data, and which of them there are.
use Rattle.std.specs.Prelude.{ℕ, List}
use Rattle.yd_words.specs.Each.{Each}
use Rattle.yd_ids.specs.declared.id.Client.{Client}
use Rattle.yd_ids.specs.Vector.{IsVector}
use Rattle.yd_ops.specs.Valid.{IsValidUpdate}
use Rattle.yd_ops.specs.Value.{UpdateValue}
use Rattle.yd_ops.specs.View.{update_value}
use Rattle.yd_sync.specs.declared.entry.AwareEntry.{AwareEntry}
use Rattle.yd_sync.specs.declared.message.Message.{Message}
use Rattle.yd_sync.specs.declared.message.Message.TheVariants as messages
use Rattle.yd_sync.specs.Entry.{IsEntry}

-- a state vector that asks; the update that answers; an update of an edit; who is there; bytes that nobody reads; who is asked for
pub data MessageValue : Type 0 where
  step1 : List (Client × ℕ) → MessageValue
  step2 : UpdateValue → MessageValue
  change : UpdateValue → MessageValue
  aware : List AwareEntry → MessageValue
  auth : List ℕ → MessageValue
  query : MessageValue

-- the plain data of a message
abbrev pub message_value : Message → MessageValue
message_value (messages.Step1 vector) = step1 vector
message_value (messages.Step2 update) = step2 (update_value update)
message_value (messages.Change update) = change (update_value update)
message_value (messages.Aware entries) = aware entries
message_value (messages.Auth bytes) = auth bytes
message_value messages.Query = query

-- its vector is a vector, its update is valid, its entries are entries
abbrev pub IsValidMessage : MessageValue → Type 0
IsValidMessage (step1 vector) = IsVector vector
IsValidMessage (step2 update) = IsValidUpdate update
IsValidMessage (change update) = IsValidUpdate update
IsValidMessage (aware entries) = Each IsEntry entries
IsValidMessage (auth bytes) = Unit {0}
IsValidMessage query = Unit {0}
