-- What a writer of blocks has written so far, in V1 (Yjs 13, UpdateEncoderV1; that the last block stands apart is own).
use Rattle.std.specs.Prelude.{◌≡◌, ℕ, ◌+◌, List, [], ◌∷◌, ◌++◌, length, Option, Some, None}
use Rattle.yd_ids.specs.declared.id.Id.{Id}
use Rattle.yd_ops.specs.Value.{BlockValue, StructValue, UpdateValue}
use Rattle.yd_grouping.specs.Building.{block_and, block_end, blocks_and}
use Rattle.yd_grouping.specs.Grouped.{with_gap}
use Rattle.yd_grouping.specs.Groups.{Group, start_of, struct_of}
use Rattle.yd_fields.specs.Field.{Field}
use Rattle.yd_fields.specs.Field as field
use Rattle.yd_fields.specs.UpdateFields.{fields_of_blocks, fields_of_structs, fields_of_update}
use Rattle.yd_fields.specs.Writes.{Writes}
use Rattle.yd_v1.specs.Bytes.{V1Spells, v1_bytes, v1_bytes_of_all}
use Rattle.yd_v1.specs.Grammar.{StandsForV1}
use Rattle.yd_skimming.specs.declared.block_writing.BlockWriter.{BlockWriter}
use Rattle.yd_skimming.specs.declared.block_writing.LastBlock.{LastBlock}

-- ---- fields in V1

-- the bytes of the fields stand behind the old ones, and each is read as that field
abbrev pub Appends : List Field → List ℕ → List ℕ → Type 0
Appends fields old new = Writes (λ f bytes. bytes ++ v1_bytes f) V1Spells fields old new

-- the bytes are those of the fields, and each is read as that field
abbrev pub Holds : List Field → List ℕ → Type 0
Holds fields bytes = Appends fields [] bytes

-- the bytes are those of the update, and they stand for it
pub record IsWrittenAs (bytes : List ℕ) (u : UpdateValue) : Type 0 where
  pub written : bytes ≡ v1_bytes_of_all (fields_of_update u)
  pub again : StandsForV1 bytes u

-- ---- groups

-- the group is what the struct at the id has
pub record IsGroupAt (id : Id) (s : StructValue) (group : Group) : Type 0 where
  pub starts : start_of group ≡ id
  pub struct : struct_of group ≡ s

-- ---- the last block

-- the fields of a block behind how many structs it has
abbrev pub fields_of_body : BlockValue → List Field
fields_of_body block = (field.client, block.client.0) ∷ (field.number, block.clock) ∷ fields_of_structs block.structs

-- a block of no struct, which begins at the id
abbrev pub block_at : Id → BlockValue
block_at id = record { client = id.client; clock = id.clock; structs = [] }

-- this is known of the block, and the body is its fields behind how many structs it has
pub record IsLastBlock (last : LastBlock) (body : List ℕ) (block : BlockValue) : Type 0 where
  pub client : last.client ≡ block.client
  pub end : last.end ≡ block_end block
  pub count : last.count ≡ length block.structs
  pub written : Holds (fields_of_body block) body

-- this is known of the block with one more struct behind a gap, which takes so many clocks
pub record GrowsBy (gap len : ℕ) (old new : LastBlock) : Type 0 where
  pub client : new.client ≡ old.client
  pub end : new.end ≡ old.end + gap + len
  pub count : (s : StructValue) → new.count ≡ old.count + length (with_gap gap (s ∷ []))

-- ---- the writer

-- the bytes are those of these blocks, so many
pub record HasDone (bytes : List ℕ) (count : ℕ) (blocks : List BlockValue) : Type 0 where
  pub written : Holds (fields_of_blocks blocks) bytes
  pub len : count ≡ length blocks

-- the blocks are those in front and the last one, of which this is known; or there is none
abbrev pub EndsWith : Option LastBlock → List ℕ → List BlockValue → List BlockValue → Type 0
EndsWith None body front blocks = (front ≡ []) × (blocks ≡ [])
EndsWith (Some last) body front blocks = (block : BlockValue) × IsLastBlock last body block × (blocks ≡ front ++ block ∷ [])

-- these blocks are written: those in front are done, and the last one may grow
pub record HasWritten (w : BlockWriter) (blocks : List BlockValue) : Type 0 where
  pub front : List BlockValue
  pub done : HasDone w.done w.count front
  pub last : EndsWith w.last w.body front blocks

-- behind these blocks, what comes at the id goes into a block that may grow; those in front of it are done
pub record IsReadyFor (id : Id) (blocks : List BlockValue) (w : BlockWriter) (last : LastBlock) : Type 0 where
  pub front : List BlockValue
  pub done : HasDone w.done w.count front
  pub block : BlockValue
  pub is_last : IsLastBlock last w.body block
  pub grows : (group : Group) → start_of group ≡ id → blocks_and blocks group ≡ front ++ block_and block group ∷ []

-- how many blocks, and these
abbrev pub fields_of_counted : List BlockValue → List Field
fields_of_counted blocks = (field.number, length blocks) ∷ fields_of_blocks blocks
