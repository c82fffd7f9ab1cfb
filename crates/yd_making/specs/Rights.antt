-- The right origins of the runs that steps make, without lists that grow: where an earlier step makes something at the same
-- place, the first unit of the last such run, and else the unit that stood next before the edit.
use Rattle.std.specs.Prelude.{ℕ, ◌+◌, Bool, false, ◌&&◌, List, [], ◌∷◌, ◌++◌, Option, Some, None, if◌then◌else◌}
use Rattle.yd_ids.specs.declared.id.Client.{Client}
use Rattle.yd_ids.specs.declared.id.Id.{Id}
use Rattle.yd_ids.specs.Ids.{is_same_neighbour}
use Rattle.yd_ops.specs.declared.lists.List.{List as DocList}
use Rattle.yd_ops.specs.Operation.{Operation}
use Rattle.yd_ops.specs.Value.{len_of, RunValue}
use Rattle.yd_meaning.specs.Names.{same_list}
use Rattle.yd_editing.specs.Step.{Step, make, remove}
use Rattle.yd_editing.specs.Made.{units_behind, id_of_first, list_where_alone}
use Rattle.yd_making.specs.Steps.{len_of_step}

-- whether a step makes something at a place
abbrev pub makes_at : Step → DocList → Option Id → Bool
makes_at (make other behind content) name after = same_list name other && is_same_neighbour behind after
makes_at (remove spans) name after = false

-- the first unit of the last run that steps make at a place, and where none does what was found before
abbrev pub latest_of : Client → ℕ → List Step → DocList → Option Id → Option Id → Option Id
latest_of client clock [] name after found = found
latest_of client clock (step ∷ steps) name after found =
    latest_of client (clock + len_of_step step) steps name after (if makes_at step name after then Some (record { client = client; clock = clock }) else found)

-- an id, or where there is none another
abbrev pub id_or : Option Id → Option Id → Option Id
id_or None other = other
id_or (Some x) other = Some x

-- the right origin of what a step makes, behind others
abbrev pub right_of : Client → ℕ → (DocList → List Operation) → List Step → Step → Option Id
right_of client clock lists before (make name after content) = id_or (latest_of client clock before name after None) (id_of_first (units_behind after (lists name)))
right_of client clock lists before (remove spans) = None

-- those of all steps, behind others; a removal has none
abbrev pub rights_from : Client → ℕ → (DocList → List Operation) → List Step → List Step → List (Option Id)
rights_from client clock lists before [] = []
rights_from client clock lists before (step ∷ steps) = right_of client clock lists before step ∷ rights_from client clock lists (before ++ step ∷ []) steps

-- the first of some right origins, and the others
abbrev pub right_first : List (Option Id) → Option Id
right_first [] = None
right_first (right ∷ rights) = right

abbrev pub rights_behind : List (Option Id) → List (Option Id)
rights_behind [] = []
rights_behind (right ∷ rights) = rights

-- the runs of steps, with these right origins
abbrev pub runs_with : Client → ℕ → List (Option Id) → List Step → List RunValue
runs_with client clock rights [] = []
runs_with client clock rights (make name after content ∷ steps) =
    record {
      id = record { client = client; clock = clock };
      left = after;
      right = right_first rights;
      list = list_where_alone after (right_first rights) name;
      content = content;
    } ∷ runs_with client (clock + len_of content) (rights_behind rights) steps
runs_with client clock rights (remove spans ∷ steps) = runs_with client clock (rights_behind rights) steps
