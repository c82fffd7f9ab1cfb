-- The edits of a map as steps: a content is set under a key, and what stands under a key is removed (own).
use Rattle.std.specs.Prelude.{ℕ, Bool, not, List, [], ◌∷◌, Option, Some, None, option_map, if◌then◌else◌}
use Rattle.yd_ids.specs.declared.id.Id.{Id}
use Rattle.yd_ops.specs.declared.lists.Parent.{Parent}
use Rattle.yd_ops.specs.Operation.{Operation}
use Rattle.yd_ops.specs.Value.{ContentValue}
use Rattle.yd_meaning.specs.Document.{Document}
use Rattle.yd_shown.specs.Shown.{key_list, last_unit, unit_under}
use Rattle.yd_editing.specs.Step.{Step, make, remove, Refusal, no_key, first_or}
use Rattle.yd_editing.specs.Basis.{Basis}
use Rattle.yd_editing.specs.Refused.{refusal_of}
use Rattle.yd_editing.specs.TextEdit.{ids_of_units}

-- the unit that stands last under a key, deleted or not
abbrev pub last_under : Document → Parent → List ℕ → Option Operation
last_under document parent key = last_unit (document.units (key_list parent key))

-- the id of a unit, where there is one
abbrev pub id_of_unit : Option Operation → Option Id
id_of_unit unit = option_map (λ (o : Operation). o.id) unit

-- a unit as a list of one, where there is one
abbrev pub listed : Option Operation → List Operation
listed None = []
listed (Some o) = o ∷ []

-- a unit, where it is there and live; a mark is too
abbrev pub if_live : (Id → Bool) → Option Operation → Option Operation
if_live deleted None = None
if_live deleted (Some o) = if not (deleted o.id) then Some o else None

-- ---- edits

-- a content is put behind the last unit of the key, and that one is removed by name, where it is live
abbrev pub set_steps : Document → Parent → List ℕ → ContentValue → List Step
set_steps document parent key content =
    make (key_list parent key) (id_of_unit (last_under document parent key)) content
    ∷ remove (ids_of_units (listed (if_live document.deleted (last_under document parent key))))
    ∷ []

-- the live value of a key is removed by name
abbrev pub unset_steps : Document → Parent → List ℕ → List Step
unset_steps document parent key = remove (ids_of_units (listed (unit_under document parent key))) ∷ []

-- ---- refusals

-- a key without a live value
abbrev pub value_refusal : Option Operation → Option Refusal
value_refusal None = Some no_key
value_refusal (Some o) = None

-- the first refusal of what is set
abbrev pub set_refusal : Basis → Parent → List ℕ → ContentValue → Option Refusal
set_refusal basis parent key content = refusal_of basis (set_steps basis.document parent key content)

-- of what is removed
abbrev pub unset_refusal : Basis → Parent → List ℕ → Option Refusal
unset_refusal basis parent key =
    first_or (value_refusal (unit_under basis.document parent key)) (refusal_of basis (unset_steps basis.document parent key))
