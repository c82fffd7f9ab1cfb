-- The runs that steps make, one after another, how each list grows by them, and the update of an edit.
--
-- A list is evolved by putting the made units in, and is not sorted again: the right origin of a second step with the same
-- place is the first unit of the run that the first step made.
use Rattle.std.specs.Prelude.{ℕ, ◌+◌, List, [], ◌∷◌, ◌++◌, map, Option, Some, None, if◌then◌else◌}
use Rattle.yd_ids.specs.declared.id.Client.{Client}
use Rattle.yd_ids.specs.declared.id.Id.{Id}
use Rattle.yd_ids.specs.declared.id.Span.{Span}
use Rattle.yd_ids.specs.Set.{union_of}
use Rattle.yd_ids.specs.Ids.{is_same}
use Rattle.yd_ops.specs.declared.lists.List.{List as DocList}
use Rattle.yd_ops.specs.Operation.{Operation, operations_of_run}
use Rattle.yd_ops.specs.Value.{ContentValue, len_of, RunValue, item, BlockValue, UpdateValue}
use Rattle.yd_meaning.specs.Names.{same_list}
use Rattle.yd_editing.specs.Step.{Step, make, remove}
use Rattle.yd_editing.specs.Basis.{Basis}

-- ---- lists of units

-- the units up to one, with it; an absent one is the front
abbrev pub units_up_to : Option Id → List Operation → List Operation
units_up_to None units = []
units_up_to (Some p) [] = []
units_up_to (Some p) (o ∷ os) = o ∷ (if is_same o.id p then [] else units_up_to (Some p) os)

-- the units behind one
abbrev pub units_behind : Option Id → List Operation → List Operation
units_behind None units = units
units_behind (Some p) [] = []
units_behind (Some p) (o ∷ os) = if is_same o.id p then os else units_behind (Some p) os

-- the id of the first unit
abbrev pub id_of_first : List Operation → Option Id
id_of_first [] = None
id_of_first (o ∷ os) = Some o.id

-- a list of units with more directly behind one
abbrev pub put_behind : Option Id → List Operation → List Operation → List Operation
put_behind after news units = units_up_to after units ++ (news ++ units_behind after units)

-- ---- runs

-- a run carries its list only where both origins are absent
abbrev pub list_where_alone : Option Id → Option Id → DocList → Option DocList
list_where_alone None None name = Some name
list_where_alone None (Some r) name = None
list_where_alone (Some p) right name = None

-- the run of a client that is made behind a unit of a list, whose units stand so: its right origin is the unit that stands
-- next, deleted or not
abbrev pub made_run : Client → ℕ → List Operation → DocList → Option Id → ContentValue → RunValue
made_run client clock units name after content = record {
  id = record { client = client; clock = clock };
  left = after;
  right = id_of_first (units_behind after units);
  list = list_where_alone after (id_of_first (units_behind after units)) name;
  content = content;
}

-- the lists, one of them with the made units
abbrev pub lists_with : (DocList → List Operation) → DocList → Option Id → List Operation → DocList → List Operation
lists_with lists name after news other = if same_list other name then put_behind after news (lists other) else lists other

-- the run of a step
abbrev pub run_of_step : Client → ℕ → (DocList → List Operation) → DocList → Option Id → ContentValue → RunValue
run_of_step client clock lists name after content = made_run client clock (lists name) name after content

-- the runs that steps make, from a clock on
abbrev pub runs_of : Client → ℕ → (DocList → List Operation) → List Step → List RunValue
runs_of client clock lists [] = []
runs_of client clock lists (make name after content ∷ steps) =
    run_of_step client clock lists name after content
    ∷ runs_of client (clock + len_of content) (lists_with lists name after (operations_of_run (run_of_step client clock lists name after content))) steps
runs_of client clock lists (remove spans ∷ steps) = runs_of client clock lists steps

-- the lists after steps
abbrev pub lists_after : Client → ℕ → (DocList → List Operation) → List Step → DocList → List Operation
lists_after client clock lists [] = lists
lists_after client clock lists (make name after content ∷ steps) =
    lists_after client (clock + len_of content) (lists_with lists name after (operations_of_run (run_of_step client clock lists name after content))) steps
lists_after client clock lists (remove spans ∷ steps) = lists_after client clock lists steps

-- the operations of runs, in order
abbrev pub operations_of_runs : List RunValue → List Operation
operations_of_runs [] = []
operations_of_runs (run ∷ runs) = operations_of_run run ++ operations_of_runs runs

-- ---- the update

-- the ids that steps remove
abbrev pub removed_by : List Step → List Span
removed_by [] = []
removed_by (make name after content ∷ steps) = removed_by steps
removed_by (remove spans ∷ steps) = union_of spans (removed_by steps)

-- made runs, which follow one another, as the one block of their client; none where nothing is made
abbrev pub block_of_runs : List RunValue → List BlockValue
block_of_runs [] = []
block_of_runs (run ∷ runs) = record { client = run.id.client; clock = run.id.clock; structs = map (λ r. item r) (run ∷ runs) } ∷ []

-- the runs that an edit makes on its basis
abbrev pub runs_on : Basis → List Step → List RunValue
runs_on basis steps = runs_of basis.client (basis.vector basis.client.0) basis.document.units steps

-- the operations that it makes, one after another
abbrev pub made_on : Basis → List Step → List Operation
made_on basis steps = operations_of_runs (runs_on basis steps)

-- the lists of the basis as the edit evolves them
abbrev pub evolved_on : Basis → List Step → DocList → List Operation
evolved_on basis steps = lists_after basis.client (basis.vector basis.client.0) basis.document.units steps

-- what an edit answers: one item for each step that makes something, and the ids that are removed
abbrev pub update_of_edit : Basis → List Step → UpdateValue
update_of_edit basis steps = record { blocks = block_of_runs (runs_on basis steps); deletes = removed_by steps }
