-- What an undo makes again of deleted ids, and where (own).
--
-- The ids in lists without a key are gone through in ascending order. At each of them that is in no group yet and can be made a
-- group begins, and it is as long as it can be. It is made as one run directly before its first unit. Of the ids in one list
-- with a key the one that stands last of those that can be made is made, at the end of that list. What is not held or lost is left
-- out, and so are types, units of which nothing is told, and units of an item that is no type.
use Rattle.std.specs.Prelude.{ℕ, zero, suc, ◌-◌, Bool, true, ◌&&◌, not, List, [], ◌∷◌, ◌++◌, length, Option, Some, None, if◌then◌else◌}
use Rattle.yd_ids.specs.declared.id.Id.{Id}
use Rattle.yd_ids.specs.declared.id.Span.{Span}
use Rattle.yd_ids.specs.Ids.{is_same_neighbour}
use Rattle.yd_ops.specs.declared.lists.List.{List as DocList}
use Rattle.yd_ops.specs.Operation.{later_id}
use Rattle.yd_meaning.specs.Names.{item_of_list, has_key}
use Rattle.yd_state.specs.Lent.{Lent, lent_units, last_unit}
use Rattle.yd_making.specs.Standing.{list_where, stands_in}
use Rattle.yd_editing.specs.Basis.{Basis}
use Rattle.yd_editing.specs.Step.{Step, make}
use Rattle.yd_doc.specs.Editing.{own_basis}
use Rattle.yd_doc.specs.Kept.{Kept, received_of}
use Rattle.yd_remaking.specs.Rows.{unit_before}
use Rattle.yd_subsets.specs.Below.{span_below}
use Rattle.yd_copying.specs.Content.{content_of}
use Rattle.yd_remaking.specs.Group.{units_from, group_from}
use Rattle.yd_remaking.specs.Last.{last_made}
use Rattle.yd_remaking.specs.Parts.{contents_of}

-- what an undo reads: what an edit reads, and the list that each unit is in
pub record Seen : Type 0 where
  pub basis : Basis
  pub list_of : Id → Option DocList

-- what it reads of a replica
abbrev pub seen_of : Kept → Seen
seen_of r = record { basis = own_basis r; list_of = list_where (stands_in (received_of r)) }

-- the units of a list, in order
abbrev pub units_in : Seen → DocList → List Lent
units_in seen name = lent_units seen.basis.document name

-- whether a list is a root's, or a type item's
abbrev pub is_place : Seen → DocList → Bool
is_place seen name = elim (item_of_list name) [ None ↦ true | Some y ↦ seen.basis.has_type y ]

-- ---- lists without a key

-- the group that begins with an id, in the list that it is in
abbrev pub group_in : Seen → Option DocList → Id → ℕ → List Lent
group_in seen None x most = []
group_in seen (Some name) x most = if not (has_key name) && is_place seen name then group_from most (units_from x (units_in seen name)) else []

-- a group is made directly before its first unit
abbrev pub step_of_group : Seen → Option DocList → Id → List Lent → List Step
step_of_group seen None x group = []
step_of_group seen (Some name) x [] = []
step_of_group seen (Some name) x (u ∷ us) = make name (unit_before x None (units_in seen name)) (content_of (contents_of (u ∷ us))) ∷ []

-- how many ids are done with a group: those of the group, and where there is none the one
abbrev pub taken_by : List Lent → ℕ
taken_by [] = 1
taken_by (u ∷ us) = length (u ∷ us)

-- what is made of so many ids of a client in a row, of which some first are in a group already
abbrev pub steps_from : Seen → Id → ℕ → ℕ → List Step
steps_from seen x taken zero = []
steps_from seen x (suc taken) (suc len) = steps_from seen (later_id x 1) taken len
steps_from seen x zero (suc len) =
    step_of_group seen (seen.list_of x) x (group_in seen (seen.list_of x) x (suc len))
    ++ steps_from seen (later_id x 1) (length (group_in seen (seen.list_of x) x (suc len)) - 1) len

-- of the held ids of spans
abbrev pub steps_of_groups : Seen → List Span → List Step
steps_of_groups seen [] = []
steps_of_groups seen (span ∷ spans) =
    steps_from seen (record { client = span.client; clock = span.clock }) 0 (span_below seen.basis.vector span).len ++ steps_of_groups seen spans

-- ---- lists with a key

-- an id is made in a list with a key, where of the named units that can be made it stands last
abbrev pub is_made_in : Seen → List Span → DocList → Id → Bool
is_made_in seen deleted name x = has_key name && (is_place seen name && is_same_neighbour (Some x) (last_made deleted None (units_in seen name)))

-- its unit is made at the end of the list
abbrev pub step_at_end : DocList → Option Id → List Lent → List Step
step_at_end name end [] = []
step_at_end name end (u ∷ us) = make name end (content_of (contents_of (u ∷ us))) ∷ []

-- what is made of an id in a list with a key
abbrev pub step_of_key : Seen → List Span → Option DocList → Id → List Step
step_of_key seen deleted None x = []
step_of_key seen deleted (Some name) x =
    if is_made_in seen deleted name x then step_at_end name (last_unit seen.basis.document name) (group_from 1 (units_from x (units_in seen name))) else []

-- of so many ids in a row
abbrev pub key_steps_from : Seen → List Span → Id → ℕ → List Step
key_steps_from seen deleted x zero = []
key_steps_from seen deleted x (suc len) = step_of_key seen deleted (seen.list_of x) x ++ key_steps_from seen deleted (later_id x 1) len

-- of the held ids of spans
abbrev pub steps_of_keys : Seen → List Span → List Span → List Step
steps_of_keys seen deleted [] = []
steps_of_keys seen deleted (span ∷ spans) =
    key_steps_from seen deleted (record { client = span.client; clock = span.clock }) (span_below seen.basis.vector span).len ++ steps_of_keys seen deleted spans

-- ---- all of them

-- what is made again of deleted ids: first what is in lists without a key, and then what is in lists with one
abbrev pub remade_steps : Seen → List Span → List Step
remade_steps seen deleted = steps_of_groups seen deleted ++ steps_of_keys seen deleted deleted
