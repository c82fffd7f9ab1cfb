-- The grouped update of operations and deletions: one block for each client, one skip for each gap, and structs as large as they can be (own).
use Rattle.std.specs.Prelude.{◌≡◌, ℕ, zero, suc, ◌+◌, ◌-◌, List, [], ◌∷◌, nat_eq, if◌then◌else◌}
use Rattle.yd_ids.specs.declared.id.Span.{Span}
use Rattle.yd_ops.specs.Operation.{Operation, operations_of}
use Rattle.yd_ops.specs.Value.{BlockValue, StructValue, UpdateValue, skip}
use Rattle.yd_grouping.specs.Groups.{Group, groups_for, size_of, start_of, struct_of}

-- structs behind a gap: a skip comes before them, if there is a gap
abbrev pub with_gap : ℕ → List StructValue → List StructValue
with_gap zero structs = structs
with_gap (suc count) structs = skip (suc count) ∷ structs

-- a block of one group alone
abbrev pub block_of : Group → BlockValue
block_of group = record { client = (start_of group).client; clock = (start_of group).clock; structs = struct_of group ∷ [] }

-- the clock behind a group
abbrev pub end_of : Group → ℕ
end_of group = (start_of group).clock + size_of group

-- a block with a group of its client in front
abbrev pub block_with : Group → BlockValue → BlockValue
block_with group block = record { client = (start_of group).client; clock = (start_of group).clock; structs = struct_of group ∷ with_gap (block.clock - end_of group) block.structs }

-- a group in front of blocks; it goes into the first of them where that is its client's
abbrev pub front_block : Group → List BlockValue → List BlockValue
front_block group [] = block_of group ∷ []
front_block group (block ∷ blocks) = if nat_eq block.client.0 (start_of group).client.0 then block_with group block ∷ blocks else block_of group ∷ block ∷ blocks

-- groups as blocks
abbrev pub blocks_of : List Group → List BlockValue
blocks_of [] = []
blocks_of (group ∷ groups) = front_block group (blocks_of groups)

-- the one grouped update that has these operations, which are in the order of writing, and these deletions
abbrev pub grouping_of : List Operation → List Span → UpdateValue
grouping_of operations deletes = record { blocks = blocks_of (groups_for operations); deletes = deletes }

-- an update is grouped: it is the grouping of what it has
abbrev pub IsGrouped : UpdateValue → Type 0
IsGrouped update = update ≡ grouping_of (operations_of update) update.deletes
