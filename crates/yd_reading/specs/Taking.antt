-- Updates that are taken section by section while they are read (own).
use Rattle.std.specs.Prelude.{◌≡◌, ℕ, ◌+◌, List, [], ◌∷◌, ◌++◌, length, Option, Result, Ok}
use Rattle.yd_ids.specs.Id.{IsClient, IsClock}
use Rattle.yd_ids.specs.declared.id.Client.{Client}
use Rattle.yd_ids.specs.declared.id.Id.{Id}
use Rattle.yd_ids.specs.declared.id.Span.{Span}
use Rattle.yd_ops.specs.Valid.{IsStructAt, IsValidUpdate}
use Rattle.yd_ops.specs.Value as ops
use Rattle.yd_parts.specs.Fault.{Fault}
use Rattle.yd_parts.specs.Plan.{read_by, repeated}
use Rattle.yd_parts.specs.declared.fault.Spot.{Spot}
use Rattle.yd_fields.specs.Field.{Field, FieldType, FieldValue}
use Rattle.yd_fields.specs.Field as field
use Rattle.yd_fields.specs.StructPlan.{struct_plan}
use Rattle.yd_fields.specs.UpdateFields.{fields_of_struct}
use Rattle.yd_fields.specs.UpdatePlan.{block_plan, blocks_step, structs_step}
use Rattle.yd_reading.specs.ReadView.{no_blocks, no_structs}

-- ---- sections

-- a part of an update, as it is read: how many blocks it has, the head of a block of so many structs, or a struct that begins at an id
pub data Section : Type 0 where
  counted : ℕ → Section
  headed : Id → ℕ → Section
  placed : Id → ops.StructValue → Section

-- structs of a client, which follow one another from a clock on
abbrev pub sections_of_structs : Client → ℕ → List ops.StructValue → List Section
sections_of_structs client clock [] = []
sections_of_structs client clock (s ∷ ss) = placed (record { client = client; clock = clock }) s ∷ sections_of_structs client (clock + ops.clocks_of s) ss

-- a block: its head, and its structs
abbrev pub sections_of_block : ops.BlockValue → List Section
sections_of_block block = headed (record { client = block.client; clock = block.clock }) (length block.structs) ∷ sections_of_structs block.client block.clock block.structs

-- blocks, one after another
abbrev pub sections_of_blocks : List ops.BlockValue → List Section
sections_of_blocks [] = []
sections_of_blocks (block ∷ blocks) = sections_of_block block ++ sections_of_blocks blocks

-- an update, but for its deletions
abbrev pub sections_of : ops.UpdateValue → List Section
sections_of u = counted (length u.blocks) ∷ sections_of_blocks u.blocks

-- the fields of a section
abbrev pub fields_of_section : Section → List Field
fields_of_section (counted count) = (field.number, count) ∷ []
fields_of_section (headed id count) = (field.number, count) ∷ (field.client, id.client.0) ∷ (field.number, id.clock) ∷ []
fields_of_section (placed id s) = fields_of_struct s

-- the fields of sections, one after another
abbrev pub fields_of_sections : List Section → List Field
fields_of_sections [] = []
fields_of_sections (section ∷ sections) = fields_of_section section ++ fields_of_sections sections

-- ---- what is taken

-- the struct is one of a valid block
pub record IsPlaced (id : Id) (s : ops.StructValue) : Type 0 where
  pub client : IsClient id.client
  pub is_struct : IsStructAt id.client id.clock s
  pub end : IsClock (id.clock + ops.clocks_of s)

-- whatever was taken before, these sections were taken too, behind the others
abbrev pub TakesMore : (List Section → Type 0) → (List Section → Type 0) → List Section → Type 0
TakesMore Took TookNow more = (before : List Section) → Took before → TookNow (before ++ more)

-- what was read is a valid update: its sections were taken, and these are its deletions
pub record TakesUpdate {S : Type 0} (read : Result (ops.UpdateValue × S) Fault) (to : S) (deletes : List Span) (Took TookNow : List Section → Type 0) : Type 0 where
  pub update : ops.UpdateValue
  pub is_read : read ≡ Ok (update, to)
  pub valid : IsValidUpdate update
  pub deletes_are : deletes ≡ update.deletes
  pub taken : TakesMore Took TookNow (sections_of update)

-- ---- what stands between two places of a reader is taken

-- how a reader of a format reads a field of each type
abbrev pub FieldsAt : Type 0 → Type 0
FieldsAt S = (t : FieldType) → S → Result (FieldValue t × S) Fault

-- the struct at the id was taken, and it ends at the clock
pub record TakesStruct {S : Type 0} (at : FieldsAt S) (spot_of : S → Spot) (id : Id) (from to : S) (Took TookNow : List Section → Type 0) (end : ℕ) : Type 0 where
  pub entry : ops.StructValue
  pub is_read : read_by at spot_of (struct_plan id.client id.clock) from ≡ Ok (entry, to)
  pub taken : TakesMore Took TookNow (placed id entry ∷ [])
  pub ends : end ≡ id.clock + ops.clocks_of entry

-- so many structs from the id on were taken
pub record TakesStructs {S : Type 0} (at : FieldsAt S) (spot_of : S → Spot) (id : Id) (count : ℕ) (from to : S) (Took TookNow : List Section → Type 0) : Type 0 where
  pub end : ℕ
  pub structs : List ops.StructValue
  pub is_read : read_by at spot_of (repeated (structs_step id.client) count (no_structs id.clock)) from ≡ Ok (record { clock = end; structs = structs }, to)
  pub taken : TakesMore Took TookNow (sections_of_structs id.client id.clock structs)
  pub len : length structs ≡ count

-- a block of so many structs was taken
pub record TakesBlock {S : Type 0} (at : FieldsAt S) (spot_of : S → Spot) (count : ℕ) (from to : S) (Took TookNow : List Section → Type 0) : Type 0 where
  pub block : ops.BlockValue
  pub is_read : read_by at spot_of (block_plan count) from ≡ Ok (block, to)
  pub taken : TakesMore Took TookNow (sections_of_block block)

-- one more block behind any others was taken, and so many structs may be declared still behind it
pub record TakesNextBlock {S : Type 0} (at : FieldsAt S) (spot_of : S → Spot) (most : Option ℕ) (from to : S) (Took TookNow : List Section → Type 0) (still : Option ℕ) : Type 0 where
  pub block : ops.BlockValue
  pub is_read : (before : List ops.BlockValue) → read_by at spot_of (blocks_step (record { most = most; blocks = before })) from ≡ Ok (record { most = still; blocks = before ++ block ∷ [] }, to)
  pub taken : TakesMore Took TookNow (sections_of_block block)

-- so many blocks were taken
pub record TakesBlocks {S : Type 0} (at : FieldsAt S) (spot_of : S → Spot) (count : ℕ) (most : Option ℕ) (from to : S) (Took TookNow : List Section → Type 0) : Type 0 where
  pub still : Option ℕ
  pub blocks : List ops.BlockValue
  pub is_read : read_by at spot_of (repeated blocks_step count (no_blocks most)) from ≡ Ok (record { most = still; blocks = blocks }, to)
  pub taken : TakesMore Took TookNow (sections_of_blocks blocks)
  pub len : length blocks ≡ count
