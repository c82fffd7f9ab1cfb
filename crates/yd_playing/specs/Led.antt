-- Where the target of a line leads: from a root on, step by step, each to a live type (own).
use Rattle.std.specs.Prelude.{ℕ, ◌+◌, List, [], ◌∷◌, Option, Some, None, Result, Ok, Err, if◌then◌else◌}
use Rattle.yd_ids.specs.declared.id.Id.{Id}
use Rattle.yd_ops.specs.declared.lists.Parent.{Parent}
use Rattle.yd_ops.specs.declared.lists.Parent.TheVariants.{Root, Item}
use Rattle.yd_meaning.specs.Document.{Document}
use Rattle.yd_shown.specs.Shown.{own_list, unit_under}
use Rattle.yd_editing.specs.Basis.{Basis}
use Rattle.yd_editing.specs.MapEdit.{id_of_unit}
use Rattle.yd_editing.specs.TextEdit.{counted_units, unit_at}
use Rattle.yd_script.specs.Line.{Target}
use Rattle.yd_script.specs.declared.target.TargetStep.{TargetStep}
use Rattle.yd_script.specs.declared.target.TargetStep.TheVariants.{Index, Key}

-- the unit that a step names in a parent: the live counted unit with an index of its list, or the value of a key of its map
abbrev pub unit_named : Document → Parent → TargetStep → Option Id
unit_named document parent (Index index) = unit_at (counted_units document (own_list parent)) index
unit_named document parent (Key key) = id_of_unit (unit_under document parent key)

-- the type that a unit is, where it is one
abbrev pub type_of : Basis → Option Id → Option Parent
type_of basis None = None
type_of basis (Some id) = if basis.has_type id then Some (Item id) else None

-- the type to which a step leads from a parent
abbrev pub parent_behind : Basis → Parent → TargetStep → Option Parent
parent_behind basis parent step = type_of basis (unit_named basis.document parent step)

-- where steps lead behind so many others, or the number of the first that leads to no type
abbrev pub led_from : Basis → ℕ → Parent → List TargetStep → Result Parent ℕ
led_from basis before parent [] = Ok parent
led_from basis before parent (step ∷ steps) =
    elim (parent_behind basis parent step) [ None ↦ Err (before + 1) | Some next ↦ led_from basis (before + 1) next steps ]

-- where a target leads: to the parent of what is changed, or the number of the first of its steps, from 1, that leads to no type
abbrev pub led : Basis → Target → Result Parent ℕ
led basis target = led_from basis 0 (Root target.root) target.steps
