-- Structs and blocks where what goes on is joined to what it goes on with (own).
use Rattle.std.specs.Prelude.{◌≡◌, ◌⊎◌, ℕ, ◌+◌, Bool, true, false, List, [], ◌∷◌, ◌++◌, map}
use Rattle.yd_words.specs.Each.{Each}
use Rattle.yd_ids.specs.declared.id.Client.{Client}
use Rattle.yd_ops.specs.Joining.{joined_run, run_joins}
use Rattle.yd_ops.specs.Operation.{operations_of_structs, operations_of_blocks}
use Rattle.yd_ops.specs.Valid.{AreStructsFrom, IsValidBlock}
use Rattle.yd_ops.specs.Value.{BlockValue, StructValue, gone, item, skip}
use Rattle.yd_ops.specs.View.{struct_value}
use Rattle.yd_ops.specs.declared.updates.Struct.{Struct}

-- ---- structs

-- whether a struct goes on with the next one: as runs do, or as gone units do
abbrev pub struct_joins : StructValue → StructValue → Bool
struct_joins (item run) (item next) = run_joins run next
struct_joins (gone count) (gone more) = true
struct_joins (item run) (skip count) = false
struct_joins (item run) (gone count) = false
struct_joins (gone count) (item run) = false
struct_joins (gone count) (skip more) = false
struct_joins (skip count) s = false

-- both as one
abbrev pub joined_struct : StructValue → StructValue → StructValue
joined_struct (item run) (item next) = item (joined_run run next)
joined_struct (gone count) (gone more) = gone (count + more)
joined_struct (item run) (skip count) = item run
joined_struct (item run) (gone count) = item run
joined_struct (gone count) (item run) = gone count
joined_struct (gone count) (skip more) = gone count
joined_struct (skip count) s = skip count

-- structs that are done, and a last one
abbrev pub structs_in : List Struct → Struct → List StructValue
structs_in done last = map struct_value done ++ struct_value last ∷ []

-- the last struct went on with this one: both stand there as one
pub record JoinsLast (old : List StructValue) (s : StructValue) (new : List StructValue) : Type 0 where
  pub front : List StructValue
  pub last : StructValue
  pub there : old ≡ front ++ last ∷ []
  pub joins : struct_joins last s ≡ true
  pub joined : new ≡ front ++ joined_struct last s ∷ []

-- the struct stands behind the others, or was joined to the last one
abbrev pub IsPut : List StructValue → StructValue → List StructValue → Type 0
IsPut old s new = (new ≡ old ++ s ∷ []) ⊎ JoinsLast old s new

-- wherever the structs begin, the others are valid where they are, and have the same operations
pub record SaySame (structs others : List StructValue) : Type 0 where
  pub valid : (client : Client) (clock : ℕ) → AreStructsFrom client clock structs → AreStructsFrom client clock others
  pub operations : (client : Client) (clock : ℕ) → AreStructsFrom client clock structs →
      operations_of_structs client clock others ≡ operations_of_structs client clock structs

-- ---- blocks

-- the block begins where the other one does, and says the same
pub record SaysSame (block other : BlockValue) : Type 0 where
  pub client : other.client ≡ block.client
  pub clock : other.clock ≡ block.clock
  pub structs : SaySame block.structs other.structs

-- the blocks are valid where the others are, and have the same operations
pub record BlocksSaySame (blocks others : List BlockValue) : Type 0 where
  pub valid : Each IsValidBlock blocks → Each IsValidBlock others
  pub operations : Each IsValidBlock blocks → operations_of_blocks others ≡ operations_of_blocks blocks
