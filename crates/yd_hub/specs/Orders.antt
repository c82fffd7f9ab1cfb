-- Actions as they lie in memory, where a message to several sessions is there once.
use Rattle.std.specs.Prelude.{List, [], ◌∷◌, ◌++◌, ◌<◌, vec_len, vec_capacity}
use Rattle.yd_words.specs.Each.{Each}
use Rattle.yd_sync.specs.Message.{IsValidMessage, message_value}
use Rattle.yd_hub.specs.declared.action.Action.{Action}
use Rattle.yd_hub.specs.declared.action.Action.TheVariants.{Close, Send}
use Rattle.yd_hub.specs.declared.action.ActionList.{ActionList}
use Rattle.yd_hub.specs.Actions.{ActionValue, close, to_each}

-- an action as sends to one session each, or as a close
abbrev pub orders_in : Action → List ActionValue
orders_in (Send to message) = to_each (message_value message) to
orders_in (Close to cause) = close to.0 cause ∷ []

-- those of all of these
abbrev pub orders_of : List Action → List ActionValue
orders_of [] = []
orders_of (action ∷ actions) = orders_in action ++ orders_of actions

-- the actions of a list, as they lie in memory
abbrev pub actions_in : ActionList → List Action
actions_in list = list.actions.items

-- what a list orders
abbrev pub ordered : ActionList → List ActionValue
ordered list = orders_of (actions_in list)

-- the message of an action is valid, so it can be written
abbrev pub IsSendable : Action → Type 0
IsSendable (Send to message) = IsValidMessage (message_value message)
IsSendable (Close to cause) = Unit {0}

-- so is each of a list
abbrev pub AreSendable : ActionList → Type 0
AreSendable list = Each IsSendable (actions_in list)

-- there is room for one action more
abbrev pub HasRoom : ActionList → Type 0
HasRoom list = vec_len list.actions < vec_capacity list.actions
