-- The structs that are made, and their block.
use Rattle.std.specs.Prelude.{ℕ, List, [], ◌∷◌, Option}
use Rattle.yd_ids.specs.declared.id.Client.{Client}
use Rattle.yd_ids.specs.declared.id.Id.{Id}
use Rattle.yd_ops.specs.declared.lists.List.{List as DocList}
use Rattle.yd_ops.specs.Value.{ContentValue, RunValue, StructValue, BlockValue}
use Rattle.yd_editing.specs.Made.{list_where_alone}

-- a run with an id between two neighbours
abbrev pub made_with : Id → DocList → Option Id → Option Id → ContentValue → RunValue
made_with id name after right content = record { id = id; left = after; right = right; list = list_where_alone after right name; content = content }

-- structs from a clock on as one block, and no block where there are none
abbrev pub block_from : Client → ℕ → List StructValue → List BlockValue
block_from client clock [] = []
block_from client clock (s ∷ structs) = record { client = client; clock = clock; structs = s ∷ structs } ∷ []
