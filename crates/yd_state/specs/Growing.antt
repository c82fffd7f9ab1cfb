-- How the lists of a state grow when it takes an update (own; the scan is that of Yjs 13).
use Rattle.std.specs.Prelude.{◌≡◌, true, List}
use Rattle.yd_words.specs.Member.{IsIn}
use Rattle.yd_ids.specs.declared.id.Id.{Id}
use Rattle.yd_ops.specs.declared.lists.List.{List as DocList}
use Rattle.yd_ops.specs.Operation.{Operation}
use Rattle.yd_origins.specs.Growing.{GrowsByScan}
use Rattle.yd_meaning.specs.Held.{standing, is_lost}
use Rattle.yd_meaning.specs.Document.{Document}
use Rattle.yd_meaning.specs.Grown.{table_in}
use Rattle.yd_meaning.specs.Own.{ids_in}
use Rattle.yd_state.specs.State.{StateValue, held_in, document_in}

-- each list of a document has become that of another one by the scans of what it lacked, of what is held
abbrev pub GrowsTo : List Operation → Document → Document → Type 0
GrowsTo held old new = (list : DocList) → GrowsByScan (table_in (standing held) list) (ids_in old list) (ids_in new list)

-- no unit that a list of the one state had is lost in the other
abbrev pub LosesNone : StateValue → StateValue → Type 0
LosesNone old new = (list : DocList) (x : Id) → IsIn x (ids_in (document_in old) list) → is_lost (held_in new) x ≡ true → ⊥

-- so the lists of a state grew from those that it had, where no unit of them is lost
abbrev pub Grows : StateValue → StateValue → Type 0
Grows old new = LosesNone old new → GrowsTo (held_in new) (document_in old) (document_in new)
