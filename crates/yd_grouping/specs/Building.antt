-- A builder of a grouped update: it is pushed groups from the front, and keeps the last one apart, which may still grow (own).
use Rattle.std.specs.Prelude.{ℕ, ◌+◌, ◌-◌, List, [], ◌∷◌, ◌++◌, Option, Some, None, nat_eq, if◌then◌else◌}
use Rattle.yd_ids.specs.declared.id.Span.{Span}
use Rattle.yd_ops.specs.Value.{BlockValue, StructValue, UpdateValue, clocks_of}
use Rattle.yd_grouping.specs.Grouped.{block_of, with_gap}
use Rattle.yd_grouping.specs.Groups.{Group, group_joins, joined_group, start_of, struct_of}

-- ---- blocks that grow at the back

-- how many clocks structs take
abbrev pub clocks_of_structs : List StructValue → ℕ
clocks_of_structs [] = 0
clocks_of_structs (s ∷ structs) = clocks_of s + clocks_of_structs structs

-- the clock behind a block
abbrev pub block_end : BlockValue → ℕ
block_end block = block.clock + clocks_of_structs block.structs

-- a block with one more group of its client at the back
abbrev pub block_and : BlockValue → Group → BlockValue
block_and block group = record { client = block.client; clock = block.clock; structs = block.structs ++ with_gap ((start_of group).clock - block_end block) (struct_of group ∷ []) }

-- blocks with one more group at the back; it goes into the last of them where that is its client's
abbrev pub blocks_and : List BlockValue → Group → List BlockValue
blocks_and [] group = block_of group ∷ []
blocks_and (block ∷ []) group = if nat_eq block.client.0 (start_of group).client.0 then block_and block group ∷ [] else block ∷ block_of group ∷ []
blocks_and (block ∷ next ∷ blocks) group = block ∷ blocks_and (next ∷ blocks) group

-- ---- the builder

-- what is built: blocks, and the last group, which is in none of them yet
pub record Built : Type 0 where
  pub blocks : List BlockValue
  pub last : Option Group

-- nothing is built yet
abbrev pub nothing_built : Built
nothing_built = record { blocks = []; last = None }

-- what is built, of blocks and a last group, with one more group: it is joined with the last, or else the last goes into its block
abbrev pub with_next : List BlockValue → Option Group → Group → Built
with_next blocks None group = record { blocks = blocks; last = Some group }
with_next blocks (Some last) group =
    if group_joins last group then record { blocks = blocks; last = Some (joined_group last group) }
    else record { blocks = blocks_and blocks last; last = Some group }

-- what is built, with one more group
abbrev pub with_pushed : Built → Group → Built
with_pushed built group = with_next built.blocks built.last group

-- what is built, with more groups, one after another
abbrev pub all_pushed : Built → List Group → Built
all_pushed built [] = built
all_pushed built (group ∷ groups) = all_pushed (with_pushed built group) groups

-- blocks with a last group, if there is one
abbrev pub with_last : List BlockValue → Option Group → List BlockValue
with_last blocks None = blocks
with_last blocks (Some last) = blocks_and blocks last

-- the update at the end: the last group is in its block too
abbrev pub finished : Built → List Span → UpdateValue
finished built deletes = record { blocks = with_last built.blocks built.last; deletes = deletes }
