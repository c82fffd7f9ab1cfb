-- Where a position is made, and which place it has in a document (Yjs 13, relative positions; which place a deleted unit has is Yjs's too).
use Rattle.std.specs.Prelude.{ℕ, ℤ, pos, negsuc, Bool, true, false, not, List, [], ◌∷◌, Option, Some, None, filter, length, if◌then◌else◌}
use Rattle.yd_ids.specs.declared.id.Id.{Id}
use Rattle.yd_ids.specs.Ids.{is_same}
use Rattle.yd_ops.specs.declared.lists.List.{List as DocList}
use Rattle.yd_ops.specs.declared.lists.Parent.{Parent}
use Rattle.yd_ops.specs.declared.lists.Parent.TheVariants as parents
use Rattle.yd_ops.specs.Operation.{Operation}
use Rattle.yd_meaning.specs.Document.{Document}
use Rattle.yd_shown.specs.Shown.{is_counted}
use Rattle.yd_editing.specs.TextEdit.{counted_units, place_at, unit_at}
use Rattle.yd_making.specs.Standing.{list_where, stands_in}
use Rattle.yd_doc.specs.Editing.{own_basis}
use Rattle.yd_doc.specs.Kept.{Kept, own_document, received_of}
use Rattle.yd_position.specs.declared.position.Position.{Position}
use Rattle.yd_position.specs.declared.position.Target.{Target}
use Rattle.yd_position.specs.declared.position.Target.TheVariants as targets

-- whether an association keeps to what comes before: it is below 0
abbrev pub keeps_before : ℤ → Bool
keeps_before (pos n) = false
keeps_before (negsuc n) = true

-- ---- making positions

-- the unit that a position at an index keeps to: the one before the index, or the one behind it
abbrev pub unit_near : List Operation → ℕ → ℤ → Option Id
unit_near units index (pos n) = unit_at units index
unit_near units index (negsuc n) = place_at units index

-- the list of a parent, as it is pointed at
abbrev pub target_of_parent : Parent → Target
target_of_parent (parents.Root name) = targets.Root name
target_of_parent (parents.Item id) = targets.Item id

-- the unit, where there is one, and else the list
abbrev pub target_near : Parent → Option Id → Target
target_near parent None = target_of_parent parent
target_near parent (Some id) = targets.Unit id

-- the position at an index of a list
abbrev pub position_of : Document → DocList → ℕ → ℤ → Position
position_of document name index assoc = record { target = target_near name.parent (unit_near (counted_units document name) index assoc); assoc = assoc }

-- ---- places of positions

-- the units up to the one with an id; with that one, if it is to be counted in
abbrev pub units_to : Bool → Id → List Operation → List Operation
units_to with_it x [] = []
units_to with_it x (o ∷ os) = if is_same o.id x then (if with_it then o ∷ [] else []) else o ∷ units_to with_it x os

-- how many of them are live and counted
abbrev pub count_to : Document → DocList → Bool → Id → ℕ
count_to document name with_it x =
    length (filter (λ o. is_counted o.content) (filter (λ o. not (document.deleted o.id)) (units_to with_it x (document.units name))))

-- the front or the end of a list
abbrev pub end_of : Document → DocList → ℤ → ℕ
end_of document name assoc = if keeps_before assoc then 0 else length (counted_units document name)

-- the list of a parent
abbrev pub list_of_parent : Parent → DocList
list_of_parent parent = record { parent = parent; key = None }

-- that list, and its front or its end
abbrev pub whole_place : Document → Parent → ℤ → DocList × ℕ
whole_place document parent assoc = (list_of_parent parent, end_of document (list_of_parent parent) assoc)

-- the list of a unit, where it is in one, and the index of a position that keeps to the unit
abbrev pub place_in : Document → Option DocList → Id → ℤ → Option (DocList × ℕ)
place_in document None x assoc = None
place_in document (Some name) x assoc = Some (name, count_to document name (keeps_before assoc) x)

-- so it is for a replica's unit
abbrev pub place_of_unit : Kept → Id → ℤ → Option (DocList × ℕ)
place_of_unit r x assoc = place_in (own_document r) (list_where (stands_in (received_of r)) x) x assoc

-- the place of what is pointed at
abbrev pub place_of_target : Kept → Target → ℤ → Option (DocList × ℕ)
place_of_target r (targets.Unit id) assoc = place_of_unit r id assoc
place_of_target r (targets.Root name) assoc = Some (whole_place (own_document r) (parents.Root name) assoc)
place_of_target r (targets.Item id) assoc = if (own_basis r).has_type id then Some (whole_place (own_document r) (parents.Item id) assoc) else None

-- the place of a position
abbrev pub place_of : Kept → Position → Option (DocList × ℕ)
place_of r p = place_of_target r p.target p.assoc
