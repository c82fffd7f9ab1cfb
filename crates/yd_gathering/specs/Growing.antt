-- A block that grows at its end, where runs that join become one (own).
use Rattle.std.specs.Prelude.{◌≡◌, ◌⊎◌, ℕ, ◌+◌, Bool, true, false, List, [], ◌∷◌, ◌++◌, map}
use Rattle.yd_ids.specs.declared.id.Id.{Id}
use Rattle.yd_ops.specs.Joining.{joined_run, run_joins}
use Rattle.yd_ops.specs.Operation.{operations_of_struct, operations_of_structs}
use Rattle.yd_ops.specs.Valid.{IsValidBlock}
use Rattle.yd_ops.specs.Value.{BlockValue, StructValue, clocks_of, gone, item, skip}
use Rattle.yd_ops.specs.View.{struct_value}
use Rattle.yd_ops.specs.declared.updates.Struct.{Struct}
use Rattle.yd_gathering.specs.declared.growing.Growing.{Growing}

-- ---- what it is

-- structs that are done, and a last one
abbrev pub structs_in : List Struct → Struct → List StructValue
structs_in done last = map struct_value done ++ struct_value last ∷ []

-- its structs
abbrev pub structs_of : Growing → List StructValue
structs_of g = structs_in g.done g.last

-- a block that begins at an id
abbrev pub block_from : Id → List StructValue → BlockValue
block_from id structs = record { client = id.client; clock = id.clock; structs = structs }

-- the block
abbrev pub block_of : Growing → BlockValue
block_of g = record { client = g.client; clock = g.clock; structs = structs_of g }

-- the id behind its last unit
abbrev pub end_of : Growing → Id
end_of g = record { client = g.client; clock = g.end }

-- the clock behind structs that begin at a clock
abbrev pub end_from : ℕ → List StructValue → ℕ
end_from clock [] = clock
end_from clock (s ∷ structs) = end_from (clock + clocks_of s) structs

-- the block is valid, and ends there
pub record IsGrown (g : Growing) : Type 0 where
  pub valid : IsValidBlock (block_of g)
  pub ends : end_from g.clock (structs_of g) ≡ g.end

-- ---- how it grows

-- whether a struct goes on with the next one: as runs do; no other structs are joined
abbrev pub struct_joins : StructValue → StructValue → Bool
struct_joins (item run) (item next) = run_joins run next
struct_joins (item run) (skip count) = false
struct_joins (item run) (gone count) = false
struct_joins (skip count) s = false
struct_joins (gone count) s = false

-- both as one
abbrev pub joined_struct : StructValue → StructValue → StructValue
joined_struct (item run) (item next) = item (joined_run run next)
joined_struct (item run) (skip count) = item run
joined_struct (item run) (gone count) = item run
joined_struct (skip count) s = skip count
joined_struct (gone count) s = gone count

-- the last struct went on with this one: both stand there as one
pub record JoinsLast (old : List StructValue) (s : StructValue) (new : List StructValue) : Type 0 where
  pub front : List StructValue
  pub last : StructValue
  pub there : old ≡ front ++ last ∷ []
  pub joins : struct_joins last s ≡ true
  pub joined : new ≡ front ++ joined_struct last s ∷ []

-- the struct stands behind the others, or was joined to the last one
abbrev pub IsPut : List StructValue → StructValue → List StructValue → Type 0
IsPut old s new = (new ≡ old ++ s ∷ []) ⊎ JoinsLast old s new

-- one struct more is there: the block is valid still, and has its operations too
pub record Extends (old new : Growing) (s : StructValue) : Type 0 where
  pub grown : IsGrown new
  pub operations : operations_of_structs new.client new.clock (structs_of new)
      ≡ operations_of_structs old.client old.clock (structs_of old) ++ operations_of_struct old.client old.end s

-- so it is where the block was valid
abbrev pub Grows : Growing → Growing → StructValue → Type 0
Grows old new s = IsGrown old → Extends old new s
